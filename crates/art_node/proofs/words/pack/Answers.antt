use Rattle.std.proofs.Common.{subst}
use Rattle.art_cell.specs.Leaves.{IsLeaf}
use Rattle.art_cell.specs.Reads.{written}
use Rattle.art_node.proofs.words.pack.Goals as goal

pub returns-clause-leaf : goal.returns-clause-leaf
returns-clause-leaf c = λ w. subst (λ key. IsLeaf (written w c.words_of.result.items) key c.args.value) c.as_slice.ensures.value (c.words_of.ensures.leaf w)
