-- The machine fits what the pass did so far.
use Rattle.std.proofs.Common.{◌≡◌}
use Rattle.art_epoch.specs.Pins.{Fits, steps_left}
use Rattle.art_epoch.proofs.enter.pin.Given as goal

abbrev pub invariant-loop-action : goal.invariant-loop-action
invariant-loop-action g l = record {
  only : g.S.Steps.only l.initial.steps l.steps;
  sizes : g.S.Steps.sizes l.steps ≡ g.S.Steps.sizes l.initial.steps;
  fits : Fits (g.S.Steps.sizes l.initial.steps) (g.S.Steps.view l.initial.steps) l.pinning (g.S.Steps.view l.steps);
}

-- two steps are left, or one, or none
abbrev pub decreases-loop-action : goal.decreases-loop-action
decreases-loop-action g l = steps_left l.pinning
