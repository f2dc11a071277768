use Rattle.art_cell.specs.Words.{Words}
use Rattle.art_cell.specs.Reads.{Agrees}
use Rattle.art_node4.specs.Sorted.{BelowAll}
use Rattle.art_node4.proofs.searches.first_from.Given as goal

abbrev pub invariant-loop-index : goal.invariant-loop-index
invariant-loop-index l = (w : Words) → Agrees l.reads w → BelowAll w l.index l.byte
