-- Histories of byte keys, read as histories of typed rows.
use Rattle.std.specs.Prelude.{◌≡◌, ℕ, List, [], Some, map, unwrap_or}
use Rattle.std.specs.FinMap.{get}
use Rattle.std.specs.Option.{option_map}
use Rattle.arrayvec.specs.ArrayVec.{ArrayVec}
use Rattle.art_key.specs.declared.bounds.Bound.TheVariants.{At}
use Rattle.art_key.specs.declared.columns.Column.{Column}
use Rattle.art_key.specs.declared.events.Deed.{Deed}
use Rattle.art_key.specs.declared.events.Deed.TheVariants.{Done, Look}
use Rattle.art_key.specs.declared.events.Event.{Event}
use Rattle.art_key.specs.Columns.{order_of}
use Rattle.art_key.specs.Histories.{StandsIn}
use Rattle.art_key.specs.Spelling.{IsKeyOf, spelling, tuple_spelled}
use Rattle.art_model.specs.declared.commands.Command.{Command}
use Rattle.art_model.specs.declared.commands.Command.TheVariants.{Get, Insert, Remove}
use Rattle.art_model.specs.declared.rows.Row.{Row}
use Rattle.art_model.specs.Answers.{reply_of_answer}
use Rattle.art_model.specs.Rows.{IsSortedRows, Tuple, value_at}
use Rattle.art_step.specs.declared.deeds.Act.{Act}
use Rattle.art_step.specs.declared.deeds.Act.TheVariants as act
use Rattle.art_step.specs.declared.deeds.Deed.{Deed as ByteDeed}
use Rattle.art_step.specs.declared.deeds.Deed.TheVariants as bytes
use Rattle.art_step.specs.declared.views.Event.{Event as ByteEvent}
use Rattle.art_tree.specs.Rows.{ByteMap}
use Rattle.std.specs.List.{AllByRecursion}

-- ---- what bytes say

-- the tuple that a key spells
abbrev pub tuple_of : List Column → List ℕ → Tuple
tuple_of schema k = record { items = unwrap_or (tuple_spelled schema k) [] }

abbrev pub row_of : List Column → ArrayVec ℕ × ℕ → Row
row_of schema row = record { tuple = tuple_of schema row.0.items; value = row.1 }

abbrev pub command_of : List Column → Act → Command
command_of schema (act.Insert k value) = Insert (tuple_of schema k.items) value
command_of schema (act.Remove k) = Remove (tuple_of schema k.items)
command_of schema (act.Get k) = Get (tuple_of schema k.items)

abbrev pub deed_of : List Column → ByteDeed → Deed
deed_of schema (bytes.Done a r) = Done (command_of schema a) (reply_of_answer r)
deed_of schema (bytes.Look lo hi found) = Look (At lo) hi (option_map (row_of schema) found)

abbrev pub event_of : List Column → ByteEvent → Event
event_of schema e = record { pass = e.pass; what = deed_of schema e.what }

-- the history of typed rows that a history of byte keys says
abbrev pub typed : List Column → List ByteEvent → List Event
typed schema log = map (event_of schema) log

-- ---- a map of byte keys, and rows

-- the map has the spellings of the rows' tuples, with their values, and no other keys
pub record Spells (schema : List Column) (m : ByteMap) (rows : List Row) : Type 0 where
  pub sorted : IsSortedRows (order_of schema) rows
  pub stand : AllByRecursion (λ (row : Row). StandsIn schema row.tuple) rows
  pub same : (t : Tuple) → StandsIn schema t → get m (spelling schema t.items) ≡ value_at rows t
  pub keys : (k : List ℕ) (value : ℕ) → get m k ≡ Some value → IsKeyOf schema k
