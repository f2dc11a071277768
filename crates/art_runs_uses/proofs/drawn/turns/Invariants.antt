use Rattle.art_runs_uses.specs.Benches.{IsBench}
use Rattle.art_runs_uses.proofs.drawn.turns.Given as goal

abbrev pub invariant-loop-turn : goal.invariant-loop-turn
invariant-loop-turn g l = IsBench l.bench.world l.bench.ops.items
