-- What is shown.
use Rattle.art_step.specs.Effects.{LocksClaimed}
use Rattle.art_step.specs.Steps.Claim as claim
use Rattle.art_shared.proofs.steps.StepperSteps.claim.Given as goal

abbrev pub ghosts-store : goal.ghosts-store
ghosts-store a = record { shown = λ n v w. claim.Outcome v w a._about.now; happens = λ n. LocksClaimed a._about.now }
