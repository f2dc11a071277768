-- What is shown.
use Rattle.art_step.specs.declared.views.Holding.{Holding}
use Rattle.art_step.specs.Effects.{PutsWord}
use Rattle.art_step.specs.Steps.Write as write
use Rattle.art_step.specs.Views.{IsHolding}
use Rattle.art_shared.proofs.steps.StepperSteps.write.Given as goal

abbrev pub ghosts-store : goal.ghosts-store
ghosts-store a = record { shown = λ n v w. (k : Holding) → IsHolding v a._about.now.0 k → write.Outcome v w k a._about.now.1 n; happens = λ n. PutsWord a._about.now.0 a._about.now.1 n }
