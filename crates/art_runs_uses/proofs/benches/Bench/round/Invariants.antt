use Rattle.art_runs_uses.specs.Benches.{IsBench}
use Rattle.art_runs_uses.proofs.benches.Bench.round.Given as goal

abbrev pub invariant-loop-which : goal.invariant-loop-which
invariant-loop-which g l = IsBench l.self.world l.self.ops.items
