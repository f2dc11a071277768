use Rattle.std.proofs.Common.{arith}
use Rattle.art_node.proofs.relaid.are_words.Goals as goal

pub returns : goal.returns
returns c p = omega (arith, c.type_inv.words p)
