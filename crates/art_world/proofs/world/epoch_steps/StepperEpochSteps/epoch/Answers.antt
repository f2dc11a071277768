-- The epoch is found.
use Rattle.art_world.specs.Stepper.{pass_of, view_of, world_of}
use Rattle.art_step.specs.WordRows.{views_of}
use Rattle.art_world.proofs.ViewLists.{at_view}
use Rattle.art_step.proofs.EpochMoves.{moves_notes}
use Rattle.art_world.proofs.world.epoch_steps.StepperEpochSteps.epoch.Goals as goal

pub find-requires-clause-moves : goal.find-requires-clause-moves
find-requires-clause-moves c i =
    let s = c.args.self.now in
    let k = world_of s in
    moves_notes k.sizes k.words (views_of k.views) (pass_of s) (view_of s) i.sound (at_view k.views (pass_of s) s.inside) i.long c.epoch-found.result c.epoch-found.ensures
