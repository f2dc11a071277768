-- The epoch is found.
use Rattle.art_shared.specs.Stepper.{basis_of, known_by}
use Rattle.art_shared.proofs.EpochTurns.{turns_epoch}
use Rattle.art_shared.proofs.steps.StepperEpochSteps.epoch.Goals as goal

pub load-requires-clause-may : goal.load-requires-clause-may
load-requires-clause-may c = let s = c.args.self.now in turns_epoch (basis_of s) (known_by s) _ c.epoch_place-place.ensures

pub returns-clause-at_once : goal.returns-clause-at_once
returns-clause-at_once c = c.load.ensures.turn.made

pub returns-clause-row : goal.returns-clause-row
returns-clause-row c = c.load.ensures.turn.row
