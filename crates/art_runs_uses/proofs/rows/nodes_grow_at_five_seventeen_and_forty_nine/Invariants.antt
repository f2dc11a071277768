use Rattle.art_runs_uses.specs.Writes.{WritesFirst}
use Rattle.art_runs_uses.proofs.rows.nodes_grow_at_five_seventeen_and_forty_nine.Given as goal

abbrev pub invariant-loop-first : goal.invariant-loop-first
invariant-loop-first g l = WritesFirst l.client.world l.client.caller
