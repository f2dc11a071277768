use Rattle.art_table.specs.Tables.{IsPassOf}
use Rattle.art_table_uses.proofs.crowded.comes_and_goes.Given as goal

abbrev pub invariant-loop : goal.invariant-loop
invariant-loop g l = IsPassOf l.table l.pass
