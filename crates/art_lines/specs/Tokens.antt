-- The data that the tokens of a line begin with.
use Rattle.std.specs.Prelude.{◌≡◌, ℕ, ◌≤◌, List, length, Some}
use Rattle.json.specs.Token.{Token}
use Rattle.json.specs.Json as json
use Rattle.serde_json.specs.Data.{Data, Items}
use Rattle.serde_json.specs.Read.{of_json, of_items}

-- The tokens begin with one value, nested no deeper than the number. It is this data, and the others follow.
pub record Begins (depth : ℕ) (tokens : List Token) (d : Data) (others : List Token) : Type 0 where
  pub value : json.Json
  pub reads : json.value depth tokens ≡ Some (value, others)
  pub is : of_json value ≡ Some d

-- The same of the values up to the bracket that closes their array.
pub record Closes (depth : ℕ) (tokens : List Token) (ds : Items) (others : List Token) : Type 0 where
  pub values : json.Items
  pub reads : (turns : ℕ) → length tokens ≤ turns → json.items (json.value depth) turns tokens ≡ Some (values, others)
  pub is : of_items values ≡ Some ds
