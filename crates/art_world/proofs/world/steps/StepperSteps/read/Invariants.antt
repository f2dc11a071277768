-- The word that is found.
use Rattle.art_step.specs.Effects.{FindsWord}
use Rattle.art_step.specs.Steps.Read as read
use Rattle.art_world.proofs.world.steps.StepperSteps.read.Given as goal

abbrev pub ghosts-find : goal.ghosts-find
ghosts-find a = record { shown = λ v w. read.Outcome a.self.now.sizes v w a._about.now.0 a._about.now.1 a._about.now.2; happens = FindsWord a._about.now.0.cell a._about.now.1 a._about.now.2 }
