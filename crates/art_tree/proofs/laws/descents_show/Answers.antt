use Rattle.art_tree.proofs.TreeLaws.{descends}
use Rattle.art_tree.proofs.laws.descents_show.Goals as goal

pub returns : goal.returns
returns c = descends
