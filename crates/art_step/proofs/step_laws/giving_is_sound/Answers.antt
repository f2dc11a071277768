use Rattle.art_step.proofs.StepNumbers.{give_law, free_law, nobody_law}
use Rattle.art_step.proofs.step_laws.giving_is_sound.Goals as goal

pub returns-clause-hand : goal.returns-clause-hand
returns-clause-hand c = give_law

pub returns-clause-limbo : goal.returns-clause-limbo
returns-clause-limbo c = free_law

pub returns-clause-nobody : goal.returns-clause-nobody
returns-clause-nobody c = nobody_law
