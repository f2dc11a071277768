use Rattle.art_tree.proofs.TreeLaws.{one_to_one}
use Rattle.art_tree.proofs.laws.cells_have_one_path.Goals as goal

pub returns : goal.returns
returns c = one_to_one
