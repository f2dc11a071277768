use Rattle.art_runs_uses.specs.Benches.{IsBench}
use Rattle.art_runs_uses.proofs.counters.check_two_lives.Given as goal

abbrev pub invariant-loop-wish : goal.invariant-loop-wish
invariant-loop-wish g l = IsBench l.bench.world l.bench.ops.items
