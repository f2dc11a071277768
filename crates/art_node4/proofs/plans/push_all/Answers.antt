use Rattle.std.proofs.Common.{ap, length, arith}
use Rattle.art_cell.specs.Reads.{word_of}
use Rattle.art_node4.specs.Edits.{words_after}
use Rattle.art_node4.proofs.Edited.{changes_few, few_words, pushed}
use Rattle.art_node4.proofs.plans.push_all.Goals as goal

pub push_changed-requires : goal.push_changed-requires
push_changed-requires c =
    let w = word_of c.args.body.now in
    let few = changes_few w (words_after c.args.sorted c.args.body.now c.args.edit) c.loop-place.place in
    let same = ap length c.loop-place.invariant in
    let size = few_words c.args.sorted in
    record { place = omega arith; room = omega arith }

pub loop-place-preserved : goal.loop-place-preserved
loop-place-preserved c =
    pushed (word_of c.args.body.now) (words_after c.args.sorted c.args.body.now c.args.edit) c.loop-place.place c.word_after.result c.loop-place.writes.items c.push_changed.new.writes.items
    (omega arith) c.word_after.ensures c.loop-place.invariant c.push_changed.ensures
