-- The epoch that goes up.
use Rattle.art_step.specs.Effects.{RaisesEpoch}
use Rattle.art_step.specs.Steps.Advance as advance
use Rattle.art_world.proofs.world.epoch_steps.StepperEpochSteps.epoch_add.Given as goal

abbrev pub ghosts-put : goal.ghosts-put
ghosts-put a = record { shown = advance.Outcome; happens = RaisesEpoch a._about.now }
