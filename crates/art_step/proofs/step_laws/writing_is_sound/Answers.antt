use Rattle.art_step.proofs.StepWrites.{write_law, write_leaf_law}
use Rattle.art_step.proofs.step_laws.writing_is_sound.Goals as goal

pub returns-clause-cell : goal.returns-clause-cell
returns-clause-cell c = write_law

pub returns-clause-leaf : goal.returns-clause-leaf
returns-clause-leaf c = write_leaf_law
