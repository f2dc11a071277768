use Rattle.art_server.proofs.StepLaws.{StopsAmong-kept, StopsAmong-unflushed}
use Rattle.art_server.proofs.sessions.answer_read.Goals as goal

pub returns-in-Err-clause-answers : goal.returns-in-Err-clause-answers
returns-in-Err-clause-answers g c =
    StopsAmong-kept _ c.args.lines.now _ _ _ _ _ _ (rw c.in-Err.is at c.answer_lines-pass.ensures.answers) c.send_answered.ensures

pub returns-then-is_err-clause-answers : goal.returns-then-is_err-clause-answers
returns-then-is_err-clause-answers g c =
    let (more, all) = rw c.in-Ok.is at c.answer_lines-pass.ensures.answers in
    StopsAmong-unflushed _ c.args.lines.now c.answer_lines-pass.new.lines _ _ _ _ _ c.args.answered c.in-Ok.count _ more
    c.flush.ensures.bytes c.if-answered-count.true c.flush_failed.ensures
