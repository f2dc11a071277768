use Rattle.art_tree.proofs.TreeLaws.{merge_law}
use Rattle.art_tree.proofs.laws.nodes_are_merged_away.Goals as goal

pub returns : goal.returns
returns c = merge_law
