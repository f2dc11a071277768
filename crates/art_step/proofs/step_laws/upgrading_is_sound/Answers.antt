use Rattle.art_step.proofs.StepLocks.{upgrade_law}
use Rattle.art_step.proofs.step_laws.upgrading_is_sound.Goals as goal

pub returns : goal.returns
returns c = upgrade_law
