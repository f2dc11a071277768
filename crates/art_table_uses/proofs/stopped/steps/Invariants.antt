use Rattle.art_table_uses.specs.Clients.{IsGoing}
use Rattle.art_table_uses.proofs.stopped.steps.Given as goal

abbrev pub invariant-loop : goal.invariant-loop
invariant-loop l = IsGoing l.table l.attempt
