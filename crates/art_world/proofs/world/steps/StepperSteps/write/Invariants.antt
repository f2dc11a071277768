-- The word that is written.
use Rattle.art_step.specs.declared.views.Holding.{Holding}
use Rattle.art_step.specs.Effects.{PutsWord}
use Rattle.art_step.specs.Steps.Write as write
use Rattle.art_step.specs.Views.{IsHolding}
use Rattle.art_world.proofs.world.steps.StepperSteps.write.Given as goal

abbrev pub ghosts-put : goal.ghosts-put
ghosts-put a = record { shown = λ v w. (h : Holding) → IsHolding v a._about.now.0 h → write.Outcome v w h a._about.now.1 a._about.now.2; happens = PutsWord a._about.now.0 a._about.now.1 a._about.now.2 }
