use Rattle.art_cell.specs.Reads.{IsBodyOf}
use Rattle.art_node_uses.proofs.fills.take_all.Given as goal

abbrev pub invariant-loop-index : goal.invariant-loop-index
invariant-loop-index g l = IsBodyOf g.K.NodeKind.layout l.body
