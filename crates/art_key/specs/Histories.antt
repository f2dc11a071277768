-- Histories of typed rows: what the passes of one table did, in order.
use Rattle.std.specs.Prelude.{◌≡◌, List, [], ◌∷◌, All, Bool, not, ◌&&◌, Option, Some, None, filter, ⊤}
use Rattle.art_model.specs.declared.commands.Command.{Command}
use Rattle.art_model.specs.declared.commands.Command.TheVariants.{Insert, Remove, Get, Scan}
use Rattle.art_model.specs.declared.rows.Row.{Row}
use Rattle.art_model.specs.Answers.{answer}
use Rattle.art_model.specs.Rows.{Tuple}
use Rattle.art_key.specs.declared.bounds.Bound.{Bound}
use Rattle.art_key.specs.declared.bounds.Bound.TheVariants.{At}
use Rattle.art_key.specs.declared.columns.Column.{Column}
use Rattle.art_key.specs.declared.events.Deed.{Deed}
use Rattle.art_key.specs.declared.events.Deed.TheVariants.{Done, Look}
use Rattle.art_key.specs.declared.events.Event.{Event}
use Rattle.art_key.specs.Bounds.{is_before}
use Rattle.art_key.specs.Columns.{order_of, tuple_fault}
use Rattle.art_key.specs.Spelling.{spelling}

-- ---- tuples and ranges

-- each value of the tuple stands in its column, so that the tuple has a key
abbrev pub StandsIn : List Column → Tuple → Type 0
StandsIn schema t = tuple_fault schema t.items ≡ None

-- the bound at the key that spells the tuple
abbrev pub bound_at : List Column → Tuple → Bound
bound_at schema t = At (record { items = spelling schema t.items })

-- the tuple's key is not before lo, and before hi
abbrev pub is_in_range : List Column → Bound → Bound → Tuple → Bool
is_in_range schema lo hi t = not (is_before (bound_at schema t) lo) && is_before (bound_at schema t) hi

-- the rows in the range
abbrev pub rows_in : List Column → List Row → Bound → Bound → List Row
rows_in schema rows lo hi = filter (λ row. is_in_range schema lo hi row.tuple) rows

-- the rows in the range are this one, or none
abbrev pub OnlyRow : List Column → List Row → Bound → Bound → Option Row → Type 0
OnlyRow schema rows lo hi None = rows_in schema rows lo hi ≡ []
OnlyRow schema rows lo hi (Some row) = StandsIn schema row.tuple × (rows_in schema rows lo hi ≡ row ∷ [])

-- ---- events

-- the command is no scan, and its tuple stands in the schema
abbrev pub IsAdmitted : List Column → Command → Type 0
IsAdmitted schema (Insert t v) = StandsIn schema t
IsAdmitted schema (Remove t) = StandsIn schema t
IsAdmitted schema (Get t) = StandsIn schema t
IsAdmitted schema (Scan lo hi limit) = ⊥

-- what an event says is what the rows answer
abbrev pub IsAnswered : List Column → List Row → Deed → Type 0
IsAnswered schema rows (Done command reply) = IsAdmitted schema command × (reply ≡ (answer (order_of schema) command rows).0)
IsAnswered schema rows (Look lo hi found) = OnlyRow schema rows lo hi found

-- the rows after an event: looks change nothing
abbrev pub becomes : List Column → List Row → Deed → List Row
becomes schema rows (Done command reply) = (answer (order_of schema) command rows).1
becomes schema rows (Look lo hi found) = rows

-- the rows after events, from these rows on
abbrev pub run : List Column → List Row → List Event → List Row
run schema rows [] = rows
run schema rows (e ∷ es) = run schema (becomes schema rows e.what) es

-- the rows after all events of a history, from no row
abbrev pub replay : List Column → List Event → List Row
replay schema log = run schema [] log

-- each event says what the rows answer after the events before it, from these rows on
abbrev pub IsLegalFrom : List Column → List Row → List Event → Type 0
IsLegalFrom schema rows [] = ⊤
IsLegalFrom schema rows (e ∷ es) = IsAnswered schema rows e.what × IsLegalFrom schema (becomes schema rows e.what) es

-- the same from no row
abbrev pub IsLegal : List Column → List Event → Type 0
IsLegal schema log = IsLegalFrom schema [] log

-- ---- for the test of a history alone

-- a command, and no look
abbrev pub IsCommand : Deed → Type 0
IsCommand (Done command reply) = ⊤
IsCommand (Look lo hi found) = ⊥

-- the tuple of each row stands in the schema
abbrev pub AllStandIn : List Column → List Row → Type 0
AllStandIn schema rows = All (λ row. StandsIn schema row.tuple) rows
