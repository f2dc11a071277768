use Rattle.art_step.proofs.StepNumbers.{take_law}
use Rattle.art_step.proofs.step_laws.taking_is_sound.Goals as goal

pub returns : goal.returns
returns c = take_law
