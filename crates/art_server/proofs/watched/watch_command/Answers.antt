use Rattle.art_server.specs.Sessions.{most_turns}
use Rattle.art_server.proofs.watched.watch_command.Goals as goal
use Rattle.art_server.proofs.watched.watch_command.Goals.{else-steps-test, then-steps-test+in-Ended}

pub step-requires : goal.step-requires
step-requires g c = (c.args.command, most_turns, c.args.pass, c.steps.invariant)

pub steps-preserved : goal.steps-preserved
steps-preserved g c = c.step.ensures.goes_on c.args.command most_turns c.args.pass c.steps.invariant

pub finish-requires : goal.finish-requires
finish-requires g c = (
  c.args.command,
  most_turns,
  c.args.pass,
  elim c.steps-test.branch [
    | else-steps-test w ↦ rw (w.rows-is, w.running-is) c.steps.invariant
    | then-steps-test+in-Ended w ↦ rw (w.rows-is, w.running-is) (w.step.ensures.goes_on c.args.command most_turns c.args.pass c.steps.invariant)
  ],
)

pub returns-clause-ends : goal.returns-clause-ends
returns-clause-ends g c =
    c.finish.ensures.ends c.args.command most_turns c.args.pass elim c.steps-test.branch [
      | else-steps-test w ↦ rw (w.rows-is, w.running-is) c.steps.invariant
      | then-steps-test+in-Ended w ↦ rw (w.rows-is, w.running-is) (w.step.ensures.goes_on c.args.command most_turns c.args.pass c.steps.invariant)
    ]
