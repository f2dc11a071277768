-- The law of typed histories.
use Rattle.art_key.specs.Spelling.{IsKeyOf}
use Rattle.std.specs.Prelude.{List}
use Rattle.art_key.specs.declared.columns.Column.{Column}
use Rattle.art_key.specs.Histories.{IsLegal as IsLegalTyped, replay as typed_replay}
use Rattle.art_step.specs.declared.views.Event.{Event as ByteEvent}
use Rattle.art_step.specs.Histories.{AreAdmitted, IsLegal, replay}
use Rattle.art_typed.specs.Typed.{Spells, typed}

-- a legal history of byte keys that spell tuples is one of typed rows, and leaves the spellings of the rows that this leaves
abbrev pub HistoriesAreTyped : Type 0
HistoriesAreTyped = (schema : List Column) (log : List ByteEvent) → IsLegal log → AreAdmitted (IsKeyOf schema) log
    → IsLegalTyped schema (typed schema log) × Spells schema (replay log) (typed_replay schema (typed schema log))
