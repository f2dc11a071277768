-- The cell of the one holding is written.
use Rattle.std.proofs.Common.{◌+◌, ◌∙◌, ℕ, ap}
use Rattle.art_shared.specs.Stepper.{basis_of, known_by}
use Rattle.art_shared.proofs.CellTurns.{turns_write}
use Rattle.art_shared.proofs.steps.StepperSteps.write.Goals as goal

pub store-requires-clause-may : goal.store-requires-clause-may
store-requires-clause-may c =
    let s = c.args.self.now in
    let may = c.requires.may in
    rw c.cell-cell.ensures (turns_write (basis_of s) (known_by s) _ may.0 c.args.place c.args.value _ (c.word_at-at.ensures ∙ ap (λ (n : ℕ). n + c.args.place) (rw c.cell-cell.ensures at c.place_of-first.ensures)) c.requires.inside may.1 may.2 c.requires.form)

pub returns-clause-row : goal.returns-clause-row
returns-clause-row c = rw c.cell-cell.ensures at c.store.ensures.turn.row

pub returns-clause-at_once : goal.returns-clause-at_once
returns-clause-at_once c = rw c.cell-cell.ensures at c.store.ensures.turn.made
