use Rattle.std.proofs.Common.{◌<◌, length, arith}
use Rattle.art_cell.specs.Reads.{word_of}
use Rattle.art_node256.proofs.Writes.{written_both, few_written, removed, taken_some}
use Rattle.art_node256.proofs.kind.Node256NodeKind.take.Goals as goal

pub overflow_sub-body : goal.overflow_sub-body
overflow_sub-body c =
    let some = taken_some (word_of c.args.body.now) c.args.byte c.requires.there.0 (omega arith) c.requires.body.meaning c.requires.there.1 in
    omega arith

pub returns-clause-taken : goal.returns-clause-taken
returns-clause-taken c =
    let words = c.args.body.now.words in
    let within : c.place_of.result < length words = omega arith in
    removed _ _ c.args.byte (omega arith) c.requires.body.meaning c.requires.there (written_both words c.place_of.result c.args.byte 0 _ c.place_of.ensures within)

pub returns-clause-few : goal.returns-clause-few
returns-clause-few c =
    let words = c.args.body.now.words in
    let within : c.place_of.result < length words = omega arith in
    few_written _ _ c.args.byte 0 _ (written_both words c.place_of.result c.args.byte 0 _ c.place_of.ensures within)
