use Rattle.art_step.proofs.StepEpochs.{epoch_law}
use Rattle.art_step.proofs.step_laws.noting_the_epoch_is_sound.Goals as goal

pub returns : goal.returns
returns c = epoch_law
