use Rattle.std.proofs.Common.{◌<◌, length, arith}
use Rattle.art_cell.specs.Reads.{word_of}
use Rattle.art_node256.proofs.Writes.{written_both, added, few_written, free_room}
use Rattle.art_node256.proofs.kind.Node256NodeKind.add.Goals as goal

pub returns-clause-full : goal.returns-clause-full
returns-clause-full c =
    let room = free_room (word_of c.args.body.now) c.args.byte (omega arith) c.requires.body.meaning c.requires.free in
    ((λ e. absurd cc), (λ full. absurd (omega arith)))

pub returns-clause-added : goal.returns-clause-added
returns-clause-added c _ =
    let words = c.args.body.now.words in
    let within : c.place_of.result < length words = omega arith in
    added _ _ c.args.byte c.args.child (omega arith) c.requires.child (omega arith) c.requires.body.meaning c.requires.free (written_both words c.place_of.result c.args.byte c.args.child _ c.place_of.ensures within)

pub returns-clause-few : goal.returns-clause-few
returns-clause-few c _ =
    let words = c.args.body.now.words in
    let within : c.place_of.result < length words = omega arith in
    few_written _ _ c.args.byte c.args.child _ (written_both words c.place_of.result c.args.byte c.args.child _ c.place_of.ensures within)
