-- What is shown.
use Rattle.art_step.specs.Effects.{FindsWord}
use Rattle.art_step.specs.Steps.Read as read
use Rattle.art_shared.proofs.steps.StepperSteps.read.Given as goal

abbrev pub ghosts-load : goal.ghosts-load
ghosts-load a = record { shown = λ n v w. read.Outcome a.shared.now.basis.sizes v w a._about.now.0 a._about.now.1 n; happens = λ n. FindsWord a._about.now.0.cell a._about.now.1 n }
