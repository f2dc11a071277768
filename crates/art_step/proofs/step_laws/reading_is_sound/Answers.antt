use Rattle.art_step.proofs.StepNotes.{read_law, read_leaf_law}
use Rattle.art_step.proofs.step_laws.reading_is_sound.Goals as goal

pub returns-clause-cell : goal.returns-clause-cell
returns-clause-cell c = read_law

pub returns-clause-leaf : goal.returns-clause-leaf
returns-clause-leaf c = read_leaf_law
