use Rattle.std.proofs.Common.{arith}
use Rattle.art_node48.proofs.Writes.{wrote_by}
use Rattle.art_node48.proofs.node48.write.Goals as goal

pub returns-clause-wrote : goal.returns-clause-wrote
returns-clause-wrote c =
    wrote_by c.args.body.now.words c.args.header c.from-byte.result c.args.byte c.args.entry c.with_entry.result c.args.place c.args.child c.from-byte.ensures (omega arith) (omega arith) c.requires.entry c.requires.place c.with_entry.ensures
