use Rattle.std.proofs.Common.{◌∙◌, arith, sym}
use Rattle.std.proofs.lemmas.List.Sums.{prefix_len-drop_all, prefix_len-drop_no, prefix_len-drop_yes}
use Rattle.std.specs.Char.{is_ascii_digit}
use Rattle.art_lines.proofs.cursors.digits_in.Goals as goal

pub loop-i-preserved : goal.loop-i-preserved
loop-i-preserved c =
    let digit = sym c.if-is_ascii_digit.ensures.value in
    let more = prefix_len-drop_yes is_ascii_digit c.args.bytes.now c.loop-i.i 0 c.loop-i-test.true digit in
    record {
      count = c.loop-i.invariant.count ∙ rw more (omega arith);
      within = omega (arith, c.loop-i-test.true);
    }

pub returns-after-loop-i-clause-count : goal.returns-after-loop-i-clause-count
returns-after-loop-i-clause-count c =
    let none = prefix_len-drop_all is_ascii_digit c.args.bytes.now c.loop-i.i c.loop-i-test.false in
    sym (c.loop-i.invariant.count ∙ rw none (omega arith))

pub returns-else-is_ascii_digit-clause-count : goal.returns-else-is_ascii_digit-clause-count
returns-else-is_ascii_digit-clause-count c =
    let other = sym c.if-is_ascii_digit.ensures.value in
    let none = prefix_len-drop_no is_ascii_digit c.args.bytes.now c.loop-i.i 0 c.loop-i-test.true other in
    sym (c.loop-i.invariant.count ∙ rw none (omega arith))
