-- What is shown.
use Rattle.art_step.specs.Effects.{FindsPassWord}
use Rattle.art_step.specs.Steps.Watch as watch
use Rattle.art_shared.proofs.steps.StepperEpochSteps.pass_load.Given as goal

abbrev pub ghosts-load : goal.ghosts-load
ghosts-load a = record { shown = λ n v w. watch.Outcome v w a._about.now n; happens = λ n. FindsPassWord a._about.now n }
