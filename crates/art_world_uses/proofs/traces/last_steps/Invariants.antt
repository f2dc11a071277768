use Rattle.std.proofs.Common.{◌≡◌}
use Rattle.art_change.specs.Writes.{IsReady}
use Rattle.art_world_uses.proofs.traces.last_steps.Given as goal
use Rattle.art_epoch.specs.Limbo.{places_of}
use Rattle.art_world.specs.Stepper.{sizes_of, view_of}

abbrev pub invariant-loop-number : goal.invariant-loop-number
invariant-loop-number g l = record {
  sizes : l.room.sizes ≡ sizes_of l.stepper;
  ready : IsReady (sizes_of l.stepper) (view_of l.stepper) 0 (places_of l.limbo) l.room.stock;
}
