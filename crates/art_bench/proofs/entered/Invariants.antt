use Rattle.art_table.specs.Tables.{IsPassOf}
use Rattle.art_bench.proofs.entered.Given as goal

abbrev pub invariant-loop : goal.invariant-loop
invariant-loop l = IsPassOf l.table l.pass
