use Rattle.art_step.proofs.StepLocks.{release_law}
use Rattle.art_step.proofs.step_laws.releasing_is_sound.Goals as goal

pub returns : goal.returns
returns c = release_law
