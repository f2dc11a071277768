use Rattle.art_server.proofs.EndingLaws.{ends_command, reply_answers, reply_printable}
use Rattle.art_server.proofs.watched.do_command.Goals as goal
use Rattle.art_server.specs.Sessions.{most_turns}

pub head_of-requires : goal.head_of-requires
head_of-requires g c =
    ends_command c.args.table.now most_turns c.args.pass c.watch_command-pass.new.rows.items c.watch_command-pass.result.0 _ c.watch_command-pass.result.1 c.watch_command-pass.ensures.ends

pub returns-clause-answers : goal.returns-clause-answers
returns-clause-answers g c =
    rw c.head_of.ensures (reply_answers c.args.table.now most_turns c.args.pass c.watch_command-pass.new.rows.items c.watch_command-pass.result.0 _ c.watch_command-pass.result.1
    (rw (← c.take.ensures) c.watch_command-pass.ensures.ends))

pub returns-clause-printable : goal.returns-clause-printable
returns-clause-printable g c =
    rw c.head_of.ensures (reply_printable c.args.table.now most_turns c.args.pass c.watch_command-pass.new.rows.items c.watch_command-pass.result.0 _ c.watch_command-pass.result.1
    c.watch_command-pass.ensures.ends)
