use Rattle.std.proofs.Common.{rules}
use Rattle.art_node.proofs.searches.first_word.Goals as goal

pub returns-in-Node48 : goal.returns-in-Node48
returns-in-Node48 c = search rules
