use Rattle.std.proofs.Common.{refl}
use Rattle.art_node.proofs.words.read_header.Goals as goal

pub returns-clause-count : goal.returns-clause-count
returns-clause-count c = refl
