-- What is shown.
use Rattle.art_step.specs.Effects.{RaisesEpoch}
use Rattle.art_step.specs.Steps.Advance as advance
use Rattle.art_shared.proofs.steps.StepperEpochSteps.epoch_add.Given as goal

abbrev pub ghosts-add : goal.ghosts-add
ghosts-add a = record { shown = λ n v w. advance.Outcome v w; happens = λ n. RaisesEpoch n }
