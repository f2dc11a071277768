-- The word is found, and loses the bit.
use Rattle.art_world.specs.Stepper.{pass_of, view_of, world_of}
use Rattle.art_step.specs.WordRows.{views_of}
use Rattle.art_world.proofs.ViewLists.{at_view}
use Rattle.std.proofs.Common.{◌+◌, ◌∙◌, ℕ, ap}
use Rattle.art_step.specs.declared.views.Sizes.{Sizes}
use Rattle.art_step.specs.WordPlaces.{first_free_word}
use Rattle.art_step.specs.Steps.Take.{without_bit}
use Rattle.art_step.proofs.NumberMoves.{moves_takes, puts_free_word}
use Rattle.art_world.proofs.world.epoch_steps.StepperEpochSteps.bits_clear.Goals as goal

pub put-requires-clause-moves : goal.put-requires-clause-moves
put-requires-clause-moves c i =
    let s = c.args.self.now in
    let k = world_of s in
    let sets = puts_free_word k.sizes k.words i.long c.args.pool c.args.index c.requires.may.word _ _ (without_bit c.args.bit c.free_word-found.result) (ap (λ (n : ℕ). n + c.args.index) (c.first_free_word.ensures ∙ ap (λ (z : Sizes). first_free_word z c.args.pool) c.sizes.ensures)) c.without_bit.ensures in
    moves_takes k.sizes k.words (views_of k.views) (pass_of s) (view_of s) i.sound (at_view k.views (pass_of s) s.inside) i.long _ c.args.pool c.args.index c.args.bit c.free_word-found.result c.requires.may c.free_word-found.ensures sets
