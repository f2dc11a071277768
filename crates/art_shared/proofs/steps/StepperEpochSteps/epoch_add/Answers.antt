-- The epoch goes up.
use Rattle.std.proofs.Common.{◌^◌, ◌<◌, ◌∙◌, ap, arith, subst}
use Rattle.art_step.specs.declared.views.Sizes.{Sizes}
use Rattle.art_step.specs.WordPlaces.{epoch_place}
use Rattle.art_shared.specs.Stepper.{basis_of, known_by, sizes_of}
use Rattle.art_shared.proofs.EpochTurns.{turns_advance}
use Rattle.art_shared.proofs.steps.StepperEpochSteps.epoch_add.Goals as goal

pub add-requires-clause-may : goal.add-requires-clause-may
add-requires-clause-may c =
    let s = c.args.self.now in
    let few : (sizes_of s).passes < 2 ^ 32 = subst (λ (z : Sizes). z.passes < 2 ^ 32) c.sizes.ensures (omega arith) in
    turns_advance (basis_of s) (known_by s) _ (c.epoch_place-place.ensures ∙ ap epoch_place c.sizes.ensures) few c.requires.may
