-- The node that is locked.
use Rattle.art_step.specs.Effects.{LocksClaimed}
use Rattle.art_step.specs.Steps.Claim as claim
use Rattle.art_world.proofs.world.steps.StepperSteps.claim.Given as goal

abbrev pub ghosts-put : goal.ghosts-put
ghosts-put a = record { shown = λ v w. claim.Outcome v w a._about.now; happens = LocksClaimed a._about.now }
