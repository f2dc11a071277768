use Rattle.art_table.specs.Tables.{IsPassOf}
use Rattle.art_table_uses.proofs.threads.inserts.Given as goal

abbrev pub invariant-loop-row : goal.invariant-loop-row
invariant-loop-row g l = IsPassOf l.table l.pass
