-- The word of the pass is stored.
use Rattle.art_world.specs.Stepper.{pass_of, view_of, world_of}
use Rattle.art_step.specs.WordRows.{views_of}
use Rattle.art_world.proofs.ViewLists.{at_view}
use Rattle.art_step.proofs.EpochMoves.{moves_pins}
use Rattle.art_step.proofs.WordRows.{sets_pass_word}
use Rattle.art_world.proofs.world.epoch_steps.StepperEpochSteps.pass_store.Goals as goal

pub put-requires-clause-moves : goal.put-requires-clause-moves
put-requires-clause-moves c i =
    let s = c.args.self.now in
    let k = world_of s in
    let inside = (i.sound.unstamped.pinned (pass_of s) (view_of s) (at_view k.views (pass_of s) s.inside)).inside in
    rw (c.pass_place-place.ensures, c.sizes.ensures) (moves_pins k.sizes k.words (views_of k.views) (pass_of s) (view_of s) i.sound (at_view k.views (pass_of s) s.inside) i.long _ c.args.word c.requires.may (sets_pass_word k.sizes k.words (pass_of s) c.args.word inside i.long))
