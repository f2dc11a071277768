use Rattle.art_step.proofs.AnyStep.{step_law}
use Rattle.art_step.proofs.step_laws.stepping_is_sound.Goals as goal

pub returns : goal.returns
returns c = step_law
