-- The cell of the one holding is unlocked.
use Rattle.art_shared.specs.Stepper.{basis_of, known_by}
use Rattle.art_shared.proofs.CellTurns.{turns_release}
use Rattle.art_shared.proofs.steps.StepperSteps.release.Goals as goal

pub add-requires-clause-may : goal.add-requires-clause-may
add-requires-clause-may c =
    let s = c.args.self.now in
    let may = c.requires.may in
    rw c.spend-cell.ensures (turns_release (basis_of s) (known_by s) _ may.0 c.args.obsolete _ _ c.rise.ensures (rw c.spend-cell.ensures at c.place_of-place.ensures) c.requires.inside may.1 may.2)
