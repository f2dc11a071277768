use Rattle.std.proofs.Common.{◌<◌, length, arith}
use Rattle.art_node256.proofs.Writes.{written_child, one_written, replaced}
use Rattle.art_node256.proofs.kind.Node256NodeKind.set.Goals as goal

pub returns-clause-set : goal.returns-clause-set
returns-clause-set c =
    let words = c.args.body.now.words in
    let within : c.place_of.result < length words = omega arith in
    replaced _ _ c.args.byte c.args.child (omega arith) c.requires.child (omega arith) c.requires.body.meaning c.requires.there (written_child words c.place_of.result c.args.byte c.args.child c.place_of.ensures within)

pub returns-clause-one : goal.returns-clause-one
returns-clause-one c =
    let words = c.args.body.now.words in
    let within : c.place_of.result < length words = omega arith in
    one_written _ _ c.args.byte c.args.child (written_child words c.place_of.result c.args.byte c.args.child c.place_of.ensures within)
