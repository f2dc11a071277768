-- The word that is found, and the bit that it loses.
use Rattle.art_step.specs.Steps.Take as take_free
use Rattle.art_world.proofs.world.epoch_steps.StepperEpochSteps.bits_clear.Given as goal

abbrev pub ghosts-put : goal.ghosts-put
ghosts-put a = record { shown = λ v w. take_free.Outcome a.self.now.sizes v w a._about.now.0 a._about.now.1 a._about.now.2 a._about.now.3; happens = take_free.Takes a._about.now.0 a._about.now.1 a._about.now.2 a._about.now.3 }
