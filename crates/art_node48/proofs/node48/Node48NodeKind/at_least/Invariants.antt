use Rattle.art_cell.specs.declared.cells.Layout.TheVariants.{Node48}
use Rattle.art_cell.specs.Words.{Words, child_of}
use Rattle.art_cell.specs.Bodies.{IsBody}
use Rattle.art_cell.specs.Reads.{Agrees, NoneFrom}
use Rattle.art_node48.proofs.node48.Node48NodeKind.at_least.Given as goal

abbrev pub invariant-loop-byte : goal.invariant-loop-byte
invariant-loop-byte l = (w : Words) → IsBody Node48 w → Agrees l.reads w → NoneFrom (child_of Node48 w) l.fn.byte l.byte
