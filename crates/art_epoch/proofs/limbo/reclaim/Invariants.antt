-- The machine fits what the pass did so far.
use Rattle.std.proofs.Common.{◌≡◌}
use Rattle.art_epoch.specs.Limbo.{places_of}
use Rattle.art_epoch.specs.Reclaiming.{Fits, steps_left}
use Rattle.art_epoch.proofs.limbo.reclaim.Given as goal

abbrev pub invariant-loop-action : goal.invariant-loop-action
invariant-loop-action g l = record {
  only : g.S.Steps.only l.initial.steps l.steps;
  sizes : g.S.Steps.sizes l.steps ≡ g.S.Steps.sizes l.initial.steps;
  fits : Fits (g.S.Steps.sizes l.initial.steps) (g.S.Steps.view l.initial.steps) (places_of l.initial.limbo) l.reclaiming (places_of l.limbo) (g.S.Steps.view l.steps);
}

-- each step leaves fewer
abbrev pub decreases-loop-action : goal.decreases-loop-action
decreases-loop-action g l = steps_left l.reclaiming.passes l.reclaiming.stage (places_of l.limbo)
