use Rattle.std.proofs.Common.{rules}
use Rattle.art_node.proofs.words.child_word.Goals as goal

pub returns : goal.returns
returns c = search rules
