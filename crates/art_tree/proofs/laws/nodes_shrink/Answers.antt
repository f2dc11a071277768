use Rattle.art_tree.proofs.TreeLaws.{shrink_law}
use Rattle.art_tree.proofs.laws.nodes_shrink.Goals as goal

pub returns : goal.returns
returns c = shrink_law
