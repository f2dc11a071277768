-- The word of the pass is stored.
use Rattle.std.proofs.Common.{◌<◌, subst}
use Rattle.art_shared.specs.declared.law.Basis.{Basis}
use Rattle.art_shared.specs.Stepper.{basis_of, known_by}
use Rattle.art_shared.proofs.EpochTurns.{turns_pin}
use Rattle.art_shared.proofs.steps.StepperEpochSteps.pass_store.Goals as goal

pub store-requires-clause-may : goal.store-requires-clause-may
store-requires-clause-may c =
    let s = c.args.self.now in
    let p = s.pass.now in
    turns_pin (basis_of s) (known_by s) p.number c.args.word _ p.own (subst (λ (b : Basis). p.number < b.sizes.passes) s.basis p.inside) c.pass_place-place.ensures c.requires.may
