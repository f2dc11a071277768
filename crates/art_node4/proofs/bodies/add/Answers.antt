use Rattle.std.proofs.Common.{arith}
use Rattle.art_cell.specs.Reads.{word_of}
use Rattle.art_node4.proofs.Differing.{few_held}
use Rattle.art_node4.proofs.NodeWords.{added}
use Rattle.art_node4.proofs.bodies.add.Goals as goal

pub returns-clause-added : goal.returns-clause-added
returns-clause-added c _ =
    let counted = c.requires.body.meaning.counted in
    added c.args.sorted (word_of c.args.body.now) (word_of c.write.new.body) c.listed-children.result.items c.insert.new.self.items c.position-index.result c.args.byte c.args.child
    c.listed-children.ensures c.requires.body.meaning c.requires.free (omega arith) c.requires.child c.position-index.ensures (λ e. omega (arith, e, counted)) (c.write.ensures.fits c.requires.body.meaning.words)
    c.insert.ensures.items c.write.ensures.holds

pub returns-clause-few : goal.returns-clause-few
returns-clause-few c _ = few_held c.args.sorted (word_of c.args.body.now) (word_of c.write.new.body) c.insert.new.self.items c.write.ensures.holds
