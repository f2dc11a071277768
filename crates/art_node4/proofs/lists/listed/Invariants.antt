use Rattle.std.proofs.Common.{◌≡◌, map}
use Rattle.std.specs.List.{range_with_len}
use Rattle.art_cell.specs.Words.{first_child}
use Rattle.art_cell.specs.Reads.{word_of}
use Rattle.art_node4.specs.Sorted.{layout_of}
use Rattle.art_node4.proofs.NodeWords.{entry_here}
use Rattle.art_node4.proofs.lists.listed.Given as goal

abbrev pub invariant-loop-index : goal.invariant-loop-index
invariant-loop-index g l = l.list.items ≡ map (entry_here (first_child (layout_of l.fn.sorted)) (word_of l.body)) (range_with_len 0 l.index)
