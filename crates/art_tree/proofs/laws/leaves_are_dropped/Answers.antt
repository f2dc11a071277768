use Rattle.art_tree.proofs.TreeLaws.{drop_law}
use Rattle.art_tree.proofs.laws.leaves_are_dropped.Goals as goal

pub returns : goal.returns
returns c = drop_law
