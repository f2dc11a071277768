use Rattle.std.proofs.Common.{◌≡◌, ◌+◌, ◌∙◌, ◌<◌, ◌≤◌, ◌==◌, ◌||◌, ℕ, List, ap, arith, drop, false, get_or, le-ltb, length, lt-ltb, ne_eqb, refl, sym, true}
use Rattle.std.proofs.Math.Bool.{or-true}
use Rattle.std.proofs.lemmas.List.Sums.{prefix_len-drop_all, prefix_len-drop_no, prefix_len-drop_yes}
use Rattle.std.specs.List.{prefix_len}
use Rattle.json.specs.Run.{is_plain}
use Rattle.art_lines.proofs.cursors.plain_in.Goals as goal

plain_byte : (b : ℕ) → (b ≡ 34 → ⊥) → (b ≡ 92 → ⊥) → 32 ≤ b → is_plain b ≡ true
plain_byte b quote escape printed = rw (ne_eqb b 34 quote, ne_eqb b 92 escape, le-ltb b 32 printed) refl

control_byte : (b : ℕ) → b < 32 → is_plain b ≡ false
control_byte b low = rw (lt-ltb b 32 low, or-true ((b == 34) || (b == 92))) refl

stops : (xs : List ℕ) (i : ℕ) → prefix_len is_plain xs ≡ i + prefix_len is_plain (drop i xs) → i < length xs
    → is_plain (get_or xs i 0) ≡ false → i ≡ prefix_len is_plain xs
stops xs i count more stop = sym (count ∙ rw (prefix_len-drop_no is_plain xs i 0 more stop) (omega arith))

pub loop-i-preserved : goal.loop-i-preserved
loop-i-preserved c =
    let xs = c.args.bytes.now in
    let i = c.loop-i.i in
    let plain = plain_byte (get_or xs i 0) c.if-bytes-i-ne34.true (assumption c) c.if-bytes-i-ge32.true in
    record {
      count = c.loop-i.invariant.count ∙ rw (prefix_len-drop_yes is_plain xs i 0 c.loop-i-test.true plain) (omega arith);
      within = omega (arith, c.loop-i-test.true);
    }

pub returns-after-loop-i-clause-count : goal.returns-after-loop-i-clause-count
returns-after-loop-i-clause-count c =
    let none = prefix_len-drop_all is_plain c.args.bytes.now c.loop-i.i c.loop-i-test.false in
    sym (c.loop-i.invariant.count ∙ rw none (omega arith))

pub returns-else-bytes-i-ne34-clause-count : goal.returns-else-bytes-i-ne34-clause-count
returns-else-bytes-i-ne34-clause-count c =
    stops c.args.bytes.now c.loop-i.i c.loop-i.invariant.count c.loop-i-test.true (ap is_plain c.if-bytes-i-ne34.false)

pub returns-else-bytes-i-ne92-clause-count : goal.returns-else-bytes-i-ne92-clause-count
returns-else-bytes-i-ne92-clause-count c =
    stops c.args.bytes.now c.loop-i.i c.loop-i.invariant.count c.loop-i-test.true (ap is_plain c.if-bytes-i-ne92.false)

pub returns-else-bytes-i-ge32-clause-count : goal.returns-else-bytes-i-ge32-clause-count
returns-else-bytes-i-ge32-clause-count c =
    let byte = get_or c.args.bytes.now c.loop-i.i 0 in
    stops c.args.bytes.now c.loop-i.i c.loop-i.invariant.count c.loop-i-test.true (control_byte byte c.if-bytes-i-ge32.false)
