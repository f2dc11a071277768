-- What is shown.
use Rattle.art_step.specs.Effects.{SetsBit}
use Rattle.art_shared.proofs.EpochTurns.{Frees}
use Rattle.art_shared.proofs.steps.StepperEpochSteps.bits_set.Given as goal

abbrev pub ghosts-set_bits : goal.ghosts-set_bits
ghosts-set_bits a = record { shown = λ n v w. Frees a.shared.now.basis.sizes a._about.now v w; happens = λ n. SetsBit a._about.now }
