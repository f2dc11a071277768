use Rattle.std.proofs.Common.{arith}
use Rattle.art_cell.specs.Lemmas.Empty.{one_byte_body}
use Rattle.art_node_uses.proofs.kinds.empty.Goals as goal

pub returns : goal.returns
returns g c = record { layout = c.requires; meaning = one_byte_body g.K.NodeKind.layout 1 (omega arith) }
