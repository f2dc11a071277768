use Rattle.art_step.proofs.StepLocks.{claim_law, linked_law, unclaimed_law, unstamped_law}
use Rattle.art_step.proofs.step_laws.claiming_is_sound.Goals as goal

pub returns-clause-claimed : goal.returns-clause-claimed
returns-clause-claimed c = claim_law

pub returns-clause-unclaimed : goal.returns-clause-unclaimed
returns-clause-unclaimed c = unclaimed_law

pub returns-clause-unstamped : goal.returns-clause-unstamped
returns-clause-unstamped c = unstamped_law

pub returns-clause-linked : goal.returns-clause-linked
returns-clause-linked c = linked_law
