-- The epoch that is found.
use Rattle.art_step.specs.Effects.{FindsEpoch}
use Rattle.art_step.specs.Steps.Epoch as epoch
use Rattle.art_world.proofs.world.epoch_steps.StepperEpochSteps.epoch.Given as goal

abbrev pub ghosts-find : goal.ghosts-find
ghosts-find a = record { shown = λ v w. epoch.Outcome a.self.now.sizes v w a._about.now; happens = FindsEpoch a._about.now }
