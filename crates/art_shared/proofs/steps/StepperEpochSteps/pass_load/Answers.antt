-- The word of another pass is found.
use Rattle.art_shared.specs.Stepper.{basis_of, known_by}
use Rattle.art_shared.proofs.EpochTurns.{turns_watch}
use Rattle.art_shared.proofs.steps.StepperEpochSteps.pass_load.Goals as goal

pub load-requires-clause-may : goal.load-requires-clause-may
load-requires-clause-may c = let s = c.args.self.now in turns_watch (basis_of s) (known_by s) c.args.pass _ c.pass_place-place.ensures c.requires.may
