-- The word that is stored.
use Rattle.art_step.specs.Effects.{PutsPassWord}
use Rattle.art_step.specs.Steps.Pin as pin
use Rattle.art_step.specs.WordRows.{view_at}
use Rattle.art_world.proofs.world.epoch_steps.StepperEpochSteps.pass_store.Given as goal

abbrev pub ghosts-put : goal.ghosts-put
ghosts-put a = record { shown = λ v w. pin.Outcome v w a._about.now; happens = PutsPassWord (view_at a.self.now.views a.pass).pass a._about.now }
