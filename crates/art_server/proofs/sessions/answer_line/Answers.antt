use Rattle.std.proofs.Common.{refl}
use Rattle.art_server.specs.Sessions.{AnswersLine}
use Rattle.art_server.specs.Replies.{reply_with}
use Rattle.art_server.proofs.SessionLaws.{AnswersLine-said, AnswersLine-refused}
use Rattle.art_server.proofs.StepLaws.{SendsLine-from_reply}
use Rattle.art_server.proofs.sessions.answer_line.Goals as goal
use Rattle.art_server.proofs.sessions.answer_line.Goals.{in-Ok, in-Err+in_default}

pub returns-clause-sends : goal.returns-clause-sends
returns-clause-sends g c =
    let line = c.args.line.now in
    let table = c.args.table.now in
    let p = c.args.pass in
    let q = c.match-verb.pass.0 in
    let reply = reply_with c.match-verb.room.rows.items c.match-verb.pass.1 in
    let answers : AnswersLine table line p reply q =
    elim c.match-verb.branch [
      | in-Ok w ↦ rw (w.room-is, w.pass-is)
          (AnswersLine-said table line _ p _ _ w.in-Ok.ensures.said w.do_command.ensures.answers)
      | in-Err+in_default w ↦ rw (w.room-is, w.pass-is, w.from.ensures)
          (AnswersLine-refused table line w.in-Err.fault p _ (w.in-Err.ensures.said w.in_default.not-NoMemory) refl)
    ] in
    let sends = rw c.as_slice.ensures.value at c.send_reply-sent.ensures in
    SendsLine-from_reply table line _ _ p q reply _ answers sends
