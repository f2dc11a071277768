use Rattle.art_step.proofs.StepNotes.{pass_law, vouch_law, fail_law}
use Rattle.art_step.proofs.step_laws.checking_is_sound.Goals as goal

pub returns-clause-passed : goal.returns-clause-passed
returns-clause-passed c = pass_law

pub returns-clause-vouched : goal.returns-clause-vouched
returns-clause-vouched c = vouch_law

pub returns-clause-failed : goal.returns-clause-failed
returns-clause-failed c = fail_law
