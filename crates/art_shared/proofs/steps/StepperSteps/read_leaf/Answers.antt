-- A word is found.
use Rattle.std.proofs.Common.{◌+◌, ◌∙◌, ℕ, ap}
use Rattle.art_shared.specs.Stepper.{basis_of, known_by}
use Rattle.art_shared.proofs.CellTurns.{turns_read_leaf}
use Rattle.art_shared.proofs.steps.StepperSteps.read_leaf.Goals as goal

pub load-requires-clause-may : goal.load-requires-clause-may
load-requires-clause-may c =
    let s = c.args.self.now in
    turns_read_leaf (basis_of s) (known_by s) c.args.stamp c.args.leaf c.args.place _ (c.word_at-at.ensures ∙ ap (λ (n : ℕ). n + c.args.place) c.place_of-first.ensures) c.requires.inside c.requires.may
