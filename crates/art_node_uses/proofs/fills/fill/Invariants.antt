use Rattle.art_cell.specs.Reads.{IsBodyOf}
use Rattle.art_node_uses.proofs.fills.fill.Given as goal

abbrev pub invariant-loop-byte : goal.invariant-loop-byte
invariant-loop-byte g l = IsBodyOf g.K.NodeKind.layout l.body
