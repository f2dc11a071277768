use Rattle.art_tree.proofs.TreeLaws.{frame_law}
use Rattle.art_tree.proofs.laws.unlinked_cells_do_not_matter.Goals as goal

pub returns : goal.returns
returns c = frame_law
