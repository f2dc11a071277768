use Rattle.art_step.proofs.StepOpens.{open_law}
use Rattle.art_step.proofs.step_laws.opening_is_sound.Goals as goal

pub returns : goal.returns
returns c = open_law
