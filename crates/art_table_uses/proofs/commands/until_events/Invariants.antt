-- The command goes on.
use Rattle.art_table_uses.proofs.commands.until_events.Given as goal
use Rattle.art_table_uses.specs.Clients.{IsUnderWay}

abbrev pub invariant-loop-made : goal.invariant-loop-made
invariant-loop-made l = IsUnderWay l.table l.running l.rows.items
