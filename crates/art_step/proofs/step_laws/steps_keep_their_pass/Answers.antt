use Rattle.art_step.proofs.Determined.{pass_stays, seen_grows, steps_count}
use Rattle.art_step.proofs.step_laws.steps_keep_their_pass.Goals as goal

pub returns-clause-pass : goal.returns-clause-pass
returns-clause-pass c = pass_stays

pub returns-clause-seen : goal.returns-clause-seen
returns-clause-seen c = seen_grows

pub returns-clause-counts : goal.returns-clause-counts
returns-clause-counts c = steps_count
