use Rattle.art_runs_uses.specs.Writes.{WritesFirst}
use Rattle.art_runs_uses.proofs.commands.check_commands.Given as goal

abbrev pub invariant-loop : goal.invariant-loop
invariant-loop g l = WritesFirst l.client.world l.client.caller
