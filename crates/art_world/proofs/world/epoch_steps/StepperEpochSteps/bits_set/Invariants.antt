-- The number that is free again.
use Rattle.art_step.specs.Effects.{SetsBit}
use Rattle.art_step.specs.Steps.Give as give
use Rattle.art_world.proofs.world.epoch_steps.StepperEpochSteps.bits_set.Given as goal

abbrev pub ghosts-put : goal.ghosts-put
ghosts-put a = record { shown = λ v w. (give.May v a._about.now → give.Outcome v w a._about.now) × (give.MayFree a.self.now.sizes v a._about.now → give.FreeOutcome v w a._about.now); happens = SetsBit a._about.now }
