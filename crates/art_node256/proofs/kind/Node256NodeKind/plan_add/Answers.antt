use Rattle.std.proofs.Common.{◌+◌, ◌<◌, arith}
use Rattle.art_cell.specs.Reads.{word_of}
use Rattle.art_node256.proofs.Writes.{added, both_exact, both_outside, both_written, free_room, free_word}
use Rattle.art_node256.proofs.kind.Node256NodeKind.plan_add.Goals as goal

pub returns-clause-full : goal.returns-clause-full
returns-clause-full c =
    let room = free_room (word_of c.args.body.now) c.args.byte (omega arith) c.requires.body.meaning c.requires.free in
    ((λ e. absurd cc), (λ full. absurd (omega arith)))

pub returns-clause-plan : goal.returns-clause-plan
returns-clause-plan c _ =
    let w = word_of c.args.body.now in
    let byte = c.args.byte in
    let child = c.args.child in
    let low : byte < 256 = omega arith in
    let none = free_word w byte c.requires.free in
    let some = c.requires.child in
    rw c.plan_both.ensures (record {
      becomes = added w _ byte child low some (omega arith) c.requires.body.meaning c.requires.free (both_written w byte child (w 1 + 1));
      exact = both_exact w byte child (w 1 + 1) low (λ e. omega (arith, e)) (λ e. omega (arith, e, none, some));
      outside = both_outside w byte child (w 1 + 1) low;
    })
