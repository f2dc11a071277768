-- A changed version word that is found, or the cell that is locked.
use Rattle.art_step.specs.Effects.{FindsVersion, LocksStamped}
use Rattle.art_step.specs.Steps.Check as check
use Rattle.art_step.specs.Steps.Upgrade as upgrade
use Rattle.art_world.proofs.world.steps.StepperSteps.upgrade.Given as goal

abbrev pub ghosts-find : goal.ghosts-find
ghosts-find a = record { shown = λ v w. check.IsChanged v w a._about.now.0 a._about.now.1; happens = FindsVersion a._about.now.0.cell a._about.now.1 }

abbrev pub ghosts-put : goal.ghosts-put
ghosts-put a = record { shown = λ v w. upgrade.Locks v w a._about.now; happens = LocksStamped a._about.now }
