-- The same in typed rows.
use Rattle.std.specs.Prelude.{List}
use Rattle.art_key.specs.Histories.{IsLegal as IsLegalTyped, replay as typed_replay}
use Rattle.art_key.specs.Spelling.{IsKeyOf}
use Rattle.art_key.specs.declared.columns.Column.{Column}
use Rattle.art_runs.specs.Runs.{HasOneHistory}
pub use Rattle.art_runs.specs.TypedOps.{AreTyped, IsTypedOp}
use Rattle.art_step.specs.Histories.{AreAdmitted, replay}
use Rattle.art_typed.specs.Typed.{Spells, typed}
use Rattle.art_world.specs.Contents.{Contents}

-- the one history is a legal one of typed rows, and the tree has the spellings of the rows that it leaves
pub record HasTypedHistory (schema : List Column) (k l : Contents) : Type 0 where
  pub one : HasOneHistory k l
  pub keys : AreAdmitted (IsKeyOf schema) one.log
  pub legal : IsLegalTyped schema (typed schema one.log)
  pub rows : Spells schema (replay one.log) (typed_replay schema (typed schema one.log))
