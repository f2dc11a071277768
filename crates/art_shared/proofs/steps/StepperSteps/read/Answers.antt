-- A word is found.
use Rattle.std.proofs.Common.{◌+◌, ◌∙◌, ℕ, ap}
use Rattle.art_step.proofs.WordPlaces.{word_below}
use Rattle.art_shared.specs.Stepper.{basis_of, known_by, sizes_of}
use Rattle.art_shared.proofs.CellTurns.{turns_read}
use Rattle.art_shared.proofs.Stamps.{stamp_at}
use Rattle.art_shared.proofs.steps.StepperSteps.read.Goals as goal

pub word_at-at-requires : goal.word_at-at-requires
word_at-at-requires c = let s = c.args.self.now in rw (stamp_at s c.args.stamp c.requires.may.stamp) (word_below (sizes_of s) c.args.stamp.cell c.args.place c.requires.inside c.requires.may.place.1)

pub load-requires-clause-place : goal.load-requires-clause-place
load-requires-clause-place c = let s = c.args.self.now in rw (c.word_at-at.ensures, stamp_at s c.args.stamp c.requires.may.stamp) (word_below (sizes_of s) c.args.stamp.cell c.args.place c.requires.inside c.requires.may.place.1)

pub load-requires-clause-may : goal.load-requires-clause-may
load-requires-clause-may c =
    let s = c.args.self.now in
    turns_read (basis_of s) (known_by s) c.args.stamp c.args.place _ (c.word_at-at.ensures ∙ ap (λ (n : ℕ). n + c.args.place) (stamp_at s c.args.stamp c.requires.may.stamp)) c.requires.inside c.requires.may
