-- A version word is found.
use Rattle.art_shared.specs.Stepper.{basis_of, known_by}
use Rattle.art_shared.proofs.CellTurns.{turns_begin}
use Rattle.art_shared.proofs.steps.StepperSteps.begin.Goals as goal

pub load-found-requires-clause-may : goal.load-found-requires-clause-may
load-found-requires-clause-may c = let s = c.args.self.now in turns_begin (basis_of s) (known_by s) c.args.cell _ c.place_of-first.ensures c.requires.inside c.requires.may
