use Rattle.art_cell.specs.declared.cells.Layout.TheVariants.{Node256}
use Rattle.art_cell.specs.Words.{Words, child_of}
use Rattle.art_cell.specs.Bodies.{IsBody}
use Rattle.art_cell.specs.Reads.{Agrees, NoneFrom}
use Rattle.art_node256.proofs.kind.Node256NodeKind.at_least.Given as goal

abbrev pub invariant-loop-at : goal.invariant-loop-at
invariant-loop-at l = (w : Words) → IsBody Node256 w → Agrees l.reads w → NoneFrom (child_of Node256 w) l.byte l.at
