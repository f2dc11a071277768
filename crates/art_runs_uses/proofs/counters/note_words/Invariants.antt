use Rattle.art_runs_uses.specs.Benches.{IsBench}
use Rattle.art_runs_uses.proofs.counters.note_words.Given as goal

abbrev pub invariant-loop : goal.invariant-loop
invariant-loop g l = IsBench l.bench.world l.bench.ops.items
