use Rattle.art_change.specs.Writes.{Fits, steps_left}
use Rattle.art_world_uses.proofs.traces.run.Given as goal
use Rattle.art_epoch.specs.Limbo.{places_of}
use Rattle.art_world.specs.Stepper.{OnlyStepped, sizes_of, view_of}

abbrev pub invariant-loop-outcome : goal.invariant-loop-outcome
invariant-loop-outcome g l = record {
  only : OnlyStepped l.fn.stepper l.stepper;
  fits : Fits (sizes_of l.fn.stepper) (view_of l.fn.stepper) (places_of l.fn.limbo) l.write l.room (places_of l.limbo) (view_of l.stepper);
}

abbrev pub decreases-loop-outcome : goal.decreases-loop-outcome
decreases-loop-outcome g l = steps_left l.write l.room (places_of l.limbo)
