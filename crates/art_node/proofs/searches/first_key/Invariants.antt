use Rattle.std.proofs.Common.{◌+◌, ◌*◌}
use Rattle.art_cell.specs.Words.{Words}
use Rattle.art_node4.specs.Sorted.{BelowAll}
use Rattle.art_node.specs.Searches.{IsKeyWord}
use Rattle.art_node.proofs.searches.first_key.Given as goal

abbrev pub invariant-loop-at : goal.invariant-loop-at
invariant-loop-at l = (w : Words) → IsKeyWord l.byte l.header l.number l.word w → BelowAll w (8 * l.number + l.at) l.byte
