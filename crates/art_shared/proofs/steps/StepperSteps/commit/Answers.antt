use Rattle.std.proofs.Common.{rules}
-- The cell of the one holding is unlocked first.
use Rattle.art_step.specs.Tokens.{links_of}
use Rattle.art_shared.specs.Stepper.{basis_of, known_by}
use Rattle.art_shared.proofs.CellTurns.{turns_commit}
use Rattle.art_shared.proofs.steps.StepperSteps.commit.Goals as goal

pub add-requires-clause-may : goal.add-requires-clause-may
add-requires-clause-may c =
    let s = c.args.self.now in
    let first = c.requires.first in
    rw (c.spend-cell.ensures, c.spent-leaf.ensures)
    (turns_commit (basis_of s) (known_by s) _ first.0 c.args.deed.now (links_of c.args.unlinked.now) _ c.args.obsolete _ _ c.rise.ensures (rw c.spend-cell.ensures at c.place_of-place.ensures) c.requires.inside first.1 first.2 c.requires.may c.requires.admitted)

pub returns-clause-row : goal.returns-clause-row
returns-clause-row c = search rules
