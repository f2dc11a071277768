-- What is shown.
use Rattle.std.specs.Prelude.{None, Some}
use Rattle.art_step.specs.Steps.Take as take_free
use Rattle.art_shared.proofs.steps.StepperEpochSteps.bits_clear.Given as goal

abbrev pub ghosts-load : goal.ghosts-load
ghosts-load a = record { shown = λ n v w. take_free.Outcome a.shared.now.basis.sizes v w a._about.now.0 a._about.now.1 None n; happens = λ n. take_free.Takes a._about.now.0 a._about.now.1 None n }

abbrev pub ghosts-mask : goal.ghosts-mask
ghosts-mask a = record { shown = λ n v w. take_free.Outcome a.shared.now.basis.sizes v w a._about.now.0 a._about.now.1 (Some a._about.now.2) n; happens = λ n. take_free.Takes a._about.now.0 a._about.now.1 (Some a._about.now.2) n }
