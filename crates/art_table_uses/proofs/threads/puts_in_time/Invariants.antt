use Rattle.art_table.specs.Tables.{IsPassOf}
use Rattle.art_table_uses.proofs.threads.puts_in_time.Given as goal

abbrev pub invariant-loop : goal.invariant-loop
invariant-loop l = IsPassOf l.table l.pass
