use Rattle.art_table.specs.Tables.{IsPassOf}
use Rattle.art_bench.proofs.made.Given as goal

abbrev pub invariant-loop-number : goal.invariant-loop-number
invariant-loop-number l = IsPassOf l.table l.pass
