use Rattle.art_runs_uses.specs.Benches.{IsBench}
use Rattle.art_runs_uses.proofs.benches.Bench.runs_out.Given as goal

abbrev pub invariant-loop : goal.invariant-loop
invariant-loop g l = IsBench l.self.world l.self.ops.items
