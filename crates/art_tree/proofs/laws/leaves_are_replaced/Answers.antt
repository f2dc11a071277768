use Rattle.art_tree.proofs.TreeLaws.{replace_law}
use Rattle.art_tree.proofs.laws.leaves_are_replaced.Goals as goal

pub returns : goal.returns
returns c = replace_law
