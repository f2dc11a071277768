use Rattle.art_step.proofs.StepEpochs.{watch_law}
use Rattle.art_step.proofs.step_laws.watching_is_sound.Goals as goal

pub returns : goal.returns
returns c = watch_law
