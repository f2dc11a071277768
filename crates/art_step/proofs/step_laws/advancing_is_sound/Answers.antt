use Rattle.art_step.proofs.StepEpochs.{advance_law}
use Rattle.art_step.proofs.step_laws.advancing_is_sound.Goals as goal

pub returns : goal.returns
returns c = advance_law
