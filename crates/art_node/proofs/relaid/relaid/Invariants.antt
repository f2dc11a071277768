use Rattle.std.proofs.Common.{◌≡◌, ◌≤◌, take}
use Rattle.art_cell.specs.Reads.{word_of}
use Rattle.art_cell.specs.Words.{child_of, entries, listed}
use Rattle.art_node.proofs.Copies.{Copied}
use Rattle.art_node.proofs.InOrder.{InOrder}
use Rattle.art_node.proofs.relaid.relaid.Given as goal

abbrev pub invariant-loop-index : goal.invariant-loop-index
invariant-loop-index g l = record {
  layout : l.after.layout ≡ g.New.NodeKind.layout;
  copied : Copied g.Old.NodeKind.layout g.New.NodeKind.layout (word_of l.body) (word_of l.after) l.index;
  order : InOrder g.New.NodeKind.layout (word_of l.after) l.index (entries g.Old.NodeKind.layout (word_of l.body));
  within : l.from ≤ 256;
  before : listed (child_of g.Old.NodeKind.layout (word_of l.body)) 0 l.from ≡ take l.index (entries g.Old.NodeKind.layout (word_of l.body));
}
