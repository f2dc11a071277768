use Rattle.art_table_uses.specs.Clients.{IsGoing}
use Rattle.art_table_uses.proofs.turns.runs_out.Given as goal

abbrev pub invariant-loop : goal.invariant-loop
invariant-loop g l = IsGoing l.table l.actor.attempt
