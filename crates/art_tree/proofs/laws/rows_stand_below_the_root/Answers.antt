use Rattle.art_tree.proofs.TreeLaws.{rows_stand_below}
use Rattle.art_tree.proofs.laws.rows_stand_below_the_root.Goals as goal

pub returns : goal.returns
returns c = rows_stand_below
