use Rattle.art_tree.proofs.TreeLaws.{fork_law}
use Rattle.art_tree.proofs.laws.nodes_come_between.Goals as goal

pub returns : goal.returns
returns c = fork_law
