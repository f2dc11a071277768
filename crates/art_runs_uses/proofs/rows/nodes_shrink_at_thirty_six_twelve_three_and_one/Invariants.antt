use Rattle.art_runs_uses.specs.Writes.{WritesFirst}
use Rattle.art_runs_uses.proofs.rows.nodes_shrink_at_thirty_six_twelve_three_and_one.Given as goal

abbrev pub invariant-loop-first : goal.invariant-loop-first
invariant-loop-first g l = WritesFirst l.client.world l.client.caller
