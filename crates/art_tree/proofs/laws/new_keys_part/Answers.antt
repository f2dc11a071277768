use Rattle.art_tree.proofs.TreeLaws.{parts}
use Rattle.art_tree.proofs.laws.new_keys_part.Goals as goal

pub returns : goal.returns
returns c = parts
