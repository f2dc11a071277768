-- What is shown.
use Rattle.art_step.specs.Effects.{PutsPassWord}
use Rattle.art_step.specs.Steps.Pin as pin
use Rattle.art_shared.specs.Passes.{view_in}
use Rattle.art_shared.proofs.steps.StepperEpochSteps.pass_store.Given as goal

abbrev pub ghosts-store : goal.ghosts-store
ghosts-store a = record { shown = λ n v w. pin.Outcome v w n; happens = λ n. PutsPassWord (view_in a.self.now.seat.me.0).pass n }
