-- So far the pass is being pinned.
use Rattle.std.proofs.Common.{ℕ, List}
use Rattle.art_key.specs.declared.bounds.Bound.{Bound as KeyBound}
use Rattle.art_look.specs.declared.path_buffers.PathBuffer.{PathBuffer as PathBufferOf}
use Rattle.art_look.specs.Seeks.{GoesTo, steps_left}
use Rattle.art_look.proofs.seeks.Seek.pin.Given as goal

abbrev pub invariant-loop-self : goal.invariant-loop-self
invariant-loop-self g l = record {
  only : g.S.Steps.only l.fn.steps l.steps;
  goes : (k : List ℕ) (hi : KeyBound) (t : PathBufferOf) → GoesTo (g.S.Steps.sizes l.fn.steps) k hi l.fn.self t (g.S.Steps.view l.fn.steps) l.self t (g.S.Steps.view l.steps);
}

abbrev pub decreases-loop-self : goal.decreases-loop-self
decreases-loop-self g l = steps_left l.self
