use Rattle.art_tree.proofs.TreeLaws.{add_law}
use Rattle.art_tree.proofs.laws.leaves_are_added.Goals as goal

pub returns : goal.returns
returns c = add_law
