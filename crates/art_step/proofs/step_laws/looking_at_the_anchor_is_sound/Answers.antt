use Rattle.art_step.proofs.StepNotes.{anchor_law}
use Rattle.art_step.proofs.step_laws.looking_at_the_anchor_is_sound.Goals as goal

pub returns : goal.returns
returns c = anchor_law
