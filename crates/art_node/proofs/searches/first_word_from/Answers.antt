use Rattle.std.proofs.Common.{rules}
use Rattle.art_node.proofs.searches.first_word_from.Goals as goal

pub returns-in-Node256 : goal.returns-in-Node256
returns-in-Node256 c = search rules
