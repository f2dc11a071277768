-- The word is found, and loses the bit, if one is named.
use Rattle.std.proofs.Common.{◌+◌, ◌<◌, ◌∙◌, ℕ, ap, subst}
use Rattle.std.specs.Prelude.{IfSome, Option}
use Rattle.art_shared.specs.Stepper.{basis_of, known_by}
use Rattle.art_shared.proofs.EpochTurns.{turns_look_free, turns_take}
use Rattle.art_shared.proofs.steps.StepperEpochSteps.bits_clear.Goals as goal

pub load-requires-clause-may : goal.load-requires-clause-may
load-requires-clause-may c =
    let s = c.args.self.now in
    turns_look_free (basis_of s) (known_by s) c.args.pool c.args.index _ (c.word_at-at.ensures ∙ ap (λ (n : ℕ). n + c.args.index) c.first_free_word-first.ensures) (record { word = c.requires.may.word; low = tt })

pub mask-requires-clause-may : goal.mask-requires-clause-may
mask-requires-clause-may c =
    let s = c.args.self.now in
    let low = subst (λ (o : Option ℕ). IfSome o (λ k. k < 64)) c.in-Some.is c.requires.may.low in
    turns_take (basis_of s) (known_by s) c.args.pool c.args.index c.in-Some.bit _ _ c.all_but.ensures (c.word_at-at.ensures ∙ ap (λ (n : ℕ). n + c.args.index) c.first_free_word-first.ensures) (record { word = c.requires.may.word; low = low })
