-- The epoch goes up.
use Rattle.art_world.specs.Stepper.{pass_of, view_of, world_of}
use Rattle.art_step.specs.WordRows.{views_of}
use Rattle.art_world.proofs.ViewLists.{at_view}
use Rattle.std.proofs.Common.{◌+◌}
use Rattle.art_step.proofs.EpochMoves.{moves_advances}
use Rattle.art_step.proofs.WordRows.{sets_epoch}
use Rattle.art_world.proofs.world.epoch_steps.StepperEpochSteps.epoch_add.Goals as goal

pub put-requires-clause-moves : goal.put-requires-clause-moves
put-requires-clause-moves c i =
    let s = c.args.self.now in
    let k = world_of s in
    rw (c.epoch_place-place.ensures, c.sizes.ensures) (moves_advances k.sizes k.words (views_of k.views) (pass_of s) (view_of s) i.sound (at_view k.views (pass_of s) s.inside) i.long _ c.epoch-found.result c.epoch-found.ensures c.requires.may (sets_epoch k.sizes k.words (c.epoch-found.result + 1) i.long))
