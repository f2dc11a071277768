use Rattle.std.proofs.Common.{List, ℕ, length, ap, arith}
use Rattle.art_server.specs.Streams.{whole_lines}
use Rattle.art_server.proofs.GivenLines.{line_within}
use Rattle.art_server.proofs.StepLaws.{AnswersMore-line, AnswersMore-none, StopsAmong-line}
use Rattle.art_server.proofs.StreamLaws.{length-whole_lines}
use Rattle.art_server.proofs.sessions.answer_lines.Goals as goal

pub lines-init : goal.lines-init
lines-init g c = record { more = AnswersMore-none _ c.args.lines.now _ _ _ c.requires.count; of = c.requires.pass }

pub returns-in-Err-clause-answers : goal.returns-in-Err-clause-answers
returns-in-Err-clause-answers g c =
    StopsAmong-line _ c.args.lines.now c.lines.lines c.advance.new.self _ _ _ _ _ _ _ c.in-Err.stop _ c.lines.invariant.more
    c.lines-test.ensures (rw (c.line.ensures, c.in-Err.is) at c.answer_line-back.ensures.sends) c.after.ensures

pub overflow_add-count : goal.overflow_add-count
overflow_add-count g c =
    let (taken, given, line) = c.lines-test.ensures in
    let so_far = c.lines.invariant.more in
    let few = line_within _ _ _ line in
    let room = c.requires.room in
    omega (arith, so_far.given, ap length so_far.taken, length-whole_lines c.lines.lines.taken)

pub lines-smaller : goal.lines-smaller
lines-smaller g c =
    let (taken, given, line) = c.lines-test.ensures in
    let few = line_within _ _ _ line in
    omega (arith, ap (λ (l : List ℕ). length (whole_lines l)) taken)

pub lines-preserved : goal.lines-preserved
lines-preserved g c = record {
  more =
      AnswersMore-line _ c.args.lines.now c.lines.lines c.advance.new.self _ _ _ _ _ _ _ c.in-Ok.field-0 c.lines.invariant.more
      c.lines-test.ensures (rw (c.line.ensures, c.in-Ok.is) at c.answer_line-back.ensures.sends);
  of = c.answer_line-back.ensures.pass;
}

pub returns-clause-answers : goal.returns-clause-answers
returns-clause-answers g c =
    let (same, all) = c.lines-test.ensures in
    rw same (c.lines.invariant.more, all)
