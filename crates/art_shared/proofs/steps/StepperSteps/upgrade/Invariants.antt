-- What is shown.
use Rattle.art_step.specs.Effects.{LocksStamped}
use Rattle.art_step.specs.Steps.Upgrade as upgrade
use Rattle.art_shared.proofs.CellTurns.{AtFound, ByFound}
use Rattle.art_shared.proofs.steps.StepperSteps.upgrade.Given as goal

abbrev pub ghosts-exchange : goal.ghosts-exchange
ghosts-exchange a = record { shown = ByFound a._about.now (λ v w. upgrade.Locks v w a._about.now); happens = AtFound a._about.now (LocksStamped a._about.now) }
