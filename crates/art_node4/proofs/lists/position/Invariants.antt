use Rattle.art_cell.specs.Reads.{word_of}
use Rattle.art_cell.specs.Words.{entries}
use Rattle.art_node4.specs.Sorted.{layout_of}
use Rattle.art_node4.proofs.Ascending.{Below}
use Rattle.art_node4.proofs.lists.position.Given as goal

abbrev pub invariant-loop-index : goal.invariant-loop-index
invariant-loop-index l = Below (entries (layout_of l.fn.sorted) (word_of l.body)) l.index l.byte
