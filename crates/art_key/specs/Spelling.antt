-- The bytes that spell a tuple under a schema, and the tuple that bytes spell.
use Rattle.std.specs.Prelude.{◌≡◌, ℕ, List, [], ◌∷◌, ◌++◌, Option, Some, None}
use Rattle.std.specs.Option.{option_and_then}
use Rattle.art_model.specs.declared.values.Value.{Value}
use Rattle.art_key.specs.declared.columns.Column.{Column}
use Rattle.art_key.specs.Columns.{coding_of, tuple_fault}

-- the bytes of a value in a column, and none where it does not stand there
abbrev pub value_spelling : Column → Value → List ℕ
value_spelling c v = (coding_of c).spelling v

-- the columns' bytes, one column after another
abbrev pub spelling : List Column → List Value → List ℕ
spelling [] vs = []
spelling (c ∷ cs) [] = []
spelling (c ∷ cs) (v ∷ vs) = value_spelling c v ++ spelling cs vs

-- the tuple stands in the schema, and the bytes are its spelling
pub record IsSpelling (schema : List Column) (tuple : List Value) (bytes : List ℕ) : Type 0 where
  pub stands : tuple_fault schema tuple ≡ None
  pub spelled : bytes ≡ spelling schema tuple

-- they are the spelling of some tuple
abbrev pub IsKeyOf : List Column → List ℕ → Type 0
IsKeyOf schema bytes = (tuple : List Value) × IsSpelling schema tuple bytes

-- the value that the bytes at the front spell in a column, and the bytes after it
abbrev pub front_value : Column → List ℕ → Option (Value × List ℕ)
front_value c bytes = (coding_of c).front bytes

infixl 10 ◌>>=◌
abbrev pub ◌>>=◌ : {A B : Type 0} → Option A → (A → Option B) → Option B
o >>= f = option_and_then f o

-- the values that all the bytes spell, one for each column
abbrev pub tuple_spelled : List Column → List ℕ → Option (List Value)
tuple_spelled [] [] = Some []
tuple_spelled [] (b ∷ bytes) = None
tuple_spelled (c ∷ cs) bytes = do
  first ← front_value c bytes
  others ← tuple_spelled cs first.1
  Some (first.0 ∷ others)
