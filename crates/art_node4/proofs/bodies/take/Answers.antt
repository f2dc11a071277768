use Rattle.std.proofs.Common.{arith}
use Rattle.art_cell.specs.Reads.{word_of}
use Rattle.art_node4.proofs.Differing.{few_held}
use Rattle.art_node4.proofs.NodeWords.{in_use, taken}
use Rattle.art_node4.proofs.bodies.take.Goals as goal

pub remove-requires : goal.remove-requires
remove-requires c =
    let there = c.requires.there in
    (omega arith, in_use c.args.sorted (word_of c.args.body.now) c.listed-children.result.items c.position-index.result c.args.byte there.0 c.listed-children.ensures c.requires.body.meaning there.1 c.position-index.ensures)

pub returns-clause-taken : goal.returns-clause-taken
returns-clause-taken c =
    let there = c.requires.there in
    taken c.args.sorted (word_of c.args.body.now) (word_of c.write.new.body) c.listed-children.result.items c.remove.new.self.items c.position-index.result c.args.byte there.0
    c.listed-children.ensures c.requires.body.meaning there.1 c.position-index.ensures (c.write.ensures.fits c.requires.body.meaning.words)
    c.remove.ensures.items c.write.ensures.holds

pub returns-clause-few : goal.returns-clause-few
returns-clause-few c = few_held c.args.sorted (word_of c.args.body.now) (word_of c.write.new.body) c.remove.new.self.items c.write.ensures.holds
