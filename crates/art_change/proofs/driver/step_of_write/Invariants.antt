-- So far no step was made.
use Rattle.std.proofs.Common.{◌≡◌, ◌≤◌, ℕ, List}
use Rattle.art_change.proofs.driver.step_of_write.Given as goal
use Rattle.art_change.specs.AsAsked.{WriteWaits}
use Rattle.art_change.specs.Writes.{SameRow}
use Rattle.art_change.specs.Writes.{Fits, IsApart, WillRefuse, steps_left}
use Rattle.art_epoch.specs.Limbo.{places_of}
use Rattle.art_epoch.specs.declared.limbo.Place.{Place}
use Rattle.art_step.specs.declared.views.View.{View}

abbrev pub invariant-loop-steps : goal.invariant-loop-steps
invariant-loop-steps g l = record {
  only : g.S.Steps.only l.fn.steps l.steps;
  same : g.S.Steps.view l.steps ≡ g.S.Steps.view l.fn.steps;
  job : l.write.job ≡ l.fn.write.job;
  turns : l.write.turns ≡ l.fn.write.turns;
  key : SameRow l.fn.room l.room;
  refuses : WillRefuse l.fn.write → WillRefuse l.write;
  apart : IsApart l.fn.write → IsApart l.write;
  left : steps_left l.write l.room (places_of l.limbo) ≤ steps_left l.fn.write l.fn.room (places_of l.fn.limbo);
  waits : (times : ℕ) × WriteWaits times (g.S.Steps.sizes l.fn.steps) (g.S.Steps.view l.fn.steps) l.fn.write l.fn.room (places_of l.fn.limbo)
      l.write l.room (places_of l.limbo);
  fits : (u : View) (ps : List Place) → Fits (g.S.Steps.sizes l.fn.steps) u ps l.fn.write l.fn.room (places_of l.fn.limbo) (g.S.Steps.view l.fn.steps) →
      Fits (g.S.Steps.sizes l.fn.steps) u ps l.write l.room (places_of l.limbo) (g.S.Steps.view l.steps);
}

abbrev pub decreases-loop-steps : goal.decreases-loop-steps
decreases-loop-steps g l = steps_left l.write l.room (places_of l.limbo)
