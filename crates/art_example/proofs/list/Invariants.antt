use Rattle.art_table.specs.Tables.{IsPassOf}
use Rattle.art_example.proofs.list.Given as goal

abbrev pub invariant-loop-page : goal.invariant-loop-page
invariant-loop-page g l = IsPassOf l.table l.pass
