use Rattle.std.proofs.Common.{◌≡◌, map}
use Rattle.art_index_c.proofs.opening.boxed.Given as goal

abbrev pub invariant-loop-handle : goal.invariant-loop-handle
invariant-loop-handle l = map (λ b. b.value) l.boxes.items ≡ l.yielded
