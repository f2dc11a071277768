-- So far the seek goes on.
use Rattle.std.proofs.Common.{◌≡◌}
use Rattle.art_key.specs.declared.bounds.Bound.TheVariants.{End}
use Rattle.art_world_uses.proofs.seeks.counts_of.Given as goal
use Rattle.art_look.specs.Seeks.{Fits, steps_left}
use Rattle.art_look.specs.Walks.{aim_of}
use Rattle.art_look.specs.declared.walks.Aim.TheVariants.{Key}

abbrev pub invariant-loop-seek : goal.invariant-loop-seek
invariant-loop-seek g l = record {
  only : g.S.Steps.only l.fn.steps l.steps;
  sizes : g.S.Steps.sizes l.steps ≡ g.S.Steps.sizes l.fn.steps;
  aim : aim_of l.seek.walk ≡ Key;
  fits : Fits (g.S.Steps.sizes l.fn.steps) l.key End (g.S.Steps.view l.fn.steps) l.seek l.path_buffer (g.S.Steps.view l.steps);
}

abbrev pub decreases-loop-seek : goal.decreases-loop-seek
decreases-loop-seek g l = steps_left l.seek
