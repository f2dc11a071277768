use Rattle.art_step.proofs.StepEpochs.{pin_law}
use Rattle.art_step.proofs.step_laws.pinning_is_sound.Goals as goal

pub returns : goal.returns
returns c = pin_law
