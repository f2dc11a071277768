use Rattle.art_tree.proofs.TreeLaws.{grow_law}
use Rattle.art_tree.proofs.laws.nodes_grow.Goals as goal

pub returns : goal.returns
returns c = grow_law
