use Rattle.art_find.specs.Rereadings.{AreKnown}
use Rattle.art_find.proofs.read_sets.unknown_from.Given as goal

abbrev pub invariant-loop-place : goal.invariant-loop-place
invariant-loop-place l = AreKnown l.reads l.from l.place
