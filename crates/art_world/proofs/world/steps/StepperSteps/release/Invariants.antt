-- The cell that is unlocked.
use Rattle.art_step.specs.declared.views.Holding.{Holding}
use Rattle.art_step.specs.Effects.{Unlocks}
use Rattle.art_step.specs.Steps.Release as release
use Rattle.art_step.specs.Views.{IsHolding}
use Rattle.art_world.proofs.world.steps.StepperSteps.release.Given as goal

abbrev pub ghosts-put : goal.ghosts-put
ghosts-put a = record { shown = λ v w. (h : Holding) → IsHolding v a._about.now.0 h → release.Outcome v w h; happens = Unlocks a._about.now.0 a._about.now.1 }
