-- What is shown.
use Rattle.art_step.specs.declared.views.Holding.{Holding}
use Rattle.art_step.specs.Effects.{Unlocks}
use Rattle.art_step.specs.Steps.Release as release
use Rattle.art_step.specs.Views.{IsHolding}
use Rattle.art_shared.proofs.steps.StepperSteps.release.Given as goal

abbrev pub ghosts-add : goal.ghosts-add
ghosts-add a = record { shown = λ n v w. (k : Holding) → IsHolding v a._about.now.0 k → release.Outcome v w k; happens = λ n. Unlocks a._about.now.0 a._about.now.1 }
