use Rattle.art_table.specs.Tables.{IsPassOf}
use Rattle.art_example.proofs.insert_row.Given as goal

abbrev pub invariant-loop : goal.invariant-loop
invariant-loop l = IsPassOf l.table l.pass
