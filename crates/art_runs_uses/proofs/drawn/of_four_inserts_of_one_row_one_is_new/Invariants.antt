use Rattle.art_runs_uses.specs.Benches.{IsBench}
use Rattle.art_runs_uses.proofs.drawn.of_four_inserts_of_one_row_one_is_new.Given as goal

abbrev pub invariant-loop : goal.invariant-loop
invariant-loop g l = IsBench l.bench.world l.bench.ops.items
