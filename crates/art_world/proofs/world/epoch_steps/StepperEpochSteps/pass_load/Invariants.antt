-- The word that is found, and whose it is.
use Rattle.art_step.specs.Effects.{FindsPassWord}
use Rattle.art_step.specs.Steps.Watch as watch
use Rattle.art_world.proofs.world.epoch_steps.StepperEpochSteps.pass_load.Given as goal

abbrev pub ghosts-find : goal.ghosts-find
ghosts-find a = record { shown = λ v w. watch.Outcome v w a._about.now.0 a._about.now.1; happens = FindsPassWord a._about.now.0 a._about.now.1 }
