use Rattle.std.proofs.Common.{◌≡◌, ◌+◌, ◌^◌, ◌≤◌, get_or, take, true, sym, ◌∙◌, arith}
use Rattle.std.specs.Char.{is_ascii_digit}
use Rattle.art_schedule.specs.Lines.{number_of}
use Rattle.art_schedule.proofs.LineLaws.{number_of-more, number_said-large, all_more}
use Rattle.art_schedule.proofs.lines.number_in.Goals as goal

pub returns-then-number-from : goal.returns-then-number-from
returns-then-number-from c =
    let digits = c.args.digits.now in
    let i = c.loop-byte.byte-index in
    let more = number_of-more digits i c.loop-byte-test.true in
    let before = c.loop-byte.invariant.number in
    let digit = c.from.ensures in
    let bound : 2 ^ 32 ≤ number_of (take (i + 1) digits) = omega arith in
    sym (number_said-large digits (i + 1) bound)

pub loop-byte-preserved : goal.loop-byte-preserved
loop-byte-preserved c =
    let digits = c.args.digits.now in
    let i = c.loop-byte.byte-index in
    let more = number_of-more digits i c.loop-byte-test.true in
    let before = c.loop-byte.invariant.number in
    let digit = c.from.ensures in
    let here : is_ascii_digit (get_or digits i 0) ≡ true = sym c.is_ascii_digit.ensures.value ∙ c.if-not-is_ascii_digit.false in
    record {
      digits = all_more digits i c.loop-byte-test.true c.loop-byte.invariant.digits here;
      number = omega arith;
      small = omega arith;
    }
