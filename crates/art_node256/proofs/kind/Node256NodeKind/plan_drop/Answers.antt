use Rattle.std.proofs.Common.{◌-◌, ◌<◌, arith}
use Rattle.art_cell.specs.Reads.{word_of}
use Rattle.art_node256.proofs.Writes.{both_exact, both_outside, both_written, removed, some_word, taken_some}
use Rattle.art_node256.proofs.kind.Node256NodeKind.plan_drop.Goals as goal

pub overflow_sub-body : goal.overflow_sub-body
overflow_sub-body c =
    let some = taken_some (word_of c.args.body.now) c.args.byte c.requires.there.0 (omega arith) c.requires.body.meaning c.requires.there.1 in
    omega arith

pub returns-clause-plan : goal.returns-clause-plan
returns-clause-plan c =
    let w = word_of c.args.body.now in
    let byte = c.args.byte in
    let low : byte < 256 = omega arith in
    let there = c.requires.there in
    let some = taken_some w byte there.0 low c.requires.body.meaning there.1 in
    let named = some_word w byte there.0 there.1 in
    rw c.plan_both.ensures (record {
      becomes = removed w _ byte low c.requires.body.meaning there (both_written w byte 0 (w 1 - 1));
      exact = both_exact w byte 0 (w 1 - 1) low (λ e. omega (arith, e, some)) (λ e. omega (arith, e, named));
      outside = both_outside w byte 0 (w 1 - 1) low;
    })
