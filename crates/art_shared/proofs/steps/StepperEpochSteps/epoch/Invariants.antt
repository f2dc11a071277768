-- What is shown.
use Rattle.art_step.specs.Effects.{FindsEpoch}
use Rattle.art_step.specs.Steps.Epoch as epoch
use Rattle.art_shared.proofs.steps.StepperEpochSteps.epoch.Given as goal

abbrev pub ghosts-load : goal.ghosts-load
ghosts-load a = record { shown = λ n v w. epoch.Outcome a.shared.now.basis.sizes v w n; happens = λ n. FindsEpoch n }
