use Rattle.std.proofs.Common.{List, ℕ, length, ap, arith}
use Rattle.art_server.specs.Streams.{whole_lines}
use Rattle.art_server.proofs.GivenLines.{line_within}
use Rattle.art_server.proofs.StreamLaws.{length-whole_lines}
use Rattle.art_schedule.proofs.WayLaws.{ObeysMore-line, ObeysMore-none, StopsAmong-line}
use Rattle.art_schedule.proofs.schedules.obey_lines.Goals as goal

pub lines-init : goal.lines-init
lines-init g c = record { keeps = λ ps is. is; more = ObeysMore-none _ c.args.lines.now _ _ _ c.requires.count }

pub overflow_add-count : goal.overflow_add-count
overflow_add-count g c =
    let (taken, given, line) = c.lines-test.ensures in
    let so_far = c.lines.invariant.more in
    let few = line_within _ _ _ line in
    let room = c.requires.room in
    omega (arith, so_far.given, ap length so_far.taken, length-whole_lines c.lines.lines.taken)

pub returns-in-Err-clause-obeys : goal.returns-in-Err-clause-obeys
returns-in-Err-clause-obeys g c =
    StopsAmong-line _ c.args.lines.now c.lines.lines c.advance.new.self _ _ _ _ _ _ _ c.in-Err.stop _ c.lines.invariant.more
    c.lines-test.ensures (rw c.line.ensures at c.in-Err.ensures.obeys) c.at.ensures.end

pub lines-smaller : goal.lines-smaller
lines-smaller g c =
    let (taken, given, line) = c.lines-test.ensures in
    let few = line_within _ _ _ line in
    omega (arith, ap (λ (l : List ℕ). length (whole_lines l)) taken)

pub lines-preserved : goal.lines-preserved
lines-preserved g c = record {
  keeps = λ ps is. c.in_default.ensures.keeps ps (c.lines.invariant.keeps ps is);
  more =
      ObeysMore-line _ c.args.lines.now c.lines.lines c.advance.new.self _ _ _ _ _ _ _ c.in_default.field-0 c.lines.invariant.more
      c.lines-test.ensures (rw c.line.ensures at c.in_default.ensures.obeys);
}

pub returns-clause-obeys : goal.returns-clause-obeys
returns-clause-obeys g c =
    let (same, all) = c.lines-test.ensures in
    rw same (c.lines.invariant.more, all)
