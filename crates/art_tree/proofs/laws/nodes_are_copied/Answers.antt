use Rattle.art_tree.proofs.TreeLaws.{copy_law}
use Rattle.art_tree.proofs.laws.nodes_are_copied.Goals as goal

pub returns : goal.returns
returns c = copy_law
