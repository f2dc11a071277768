use Rattle.art_step.proofs.StepNotes.{begin_law}
use Rattle.art_step.proofs.step_laws.beginning_is_sound.Goals as goal

pub returns : goal.returns
returns c = begin_law
