use Rattle.art_runs.proofs.Calls.{begins_solo, ends_alone, steps_solo}
use Rattle.art_runs.proofs.Restarts.{restarts_never}
use Rattle.art_runs.proofs.solo.calls_alone_do_not_fail.Goals as goal

pub returns-clause-begins : goal.returns-clause-begins
returns-clause-begins c = begins_solo

pub returns-clause-steps : goal.returns-clause-steps
returns-clause-steps c = steps_solo

pub returns-clause-ends : goal.returns-clause-ends
returns-clause-ends c = ends_alone

pub returns-clause-restarts : goal.returns-clause-restarts
returns-clause-restarts c = restarts_never
