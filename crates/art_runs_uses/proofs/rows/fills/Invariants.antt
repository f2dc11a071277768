use Rattle.art_runs_uses.specs.Writes.{WritesFirst}
use Rattle.art_runs_uses.proofs.rows.fills.Given as goal

abbrev pub invariant-loop-number : goal.invariant-loop-number
invariant-loop-number g l = WritesFirst l.client.world l.client.caller
