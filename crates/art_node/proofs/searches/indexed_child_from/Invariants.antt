use Rattle.art_cell.specs.declared.cells.Layout.TheVariants.{Node48}
use Rattle.art_cell.specs.Bodies.{IsBody}
use Rattle.art_cell.specs.Reads.{NoneFrom}
use Rattle.art_cell.specs.Words.{Words, child_of}
use Rattle.art_node.specs.Searches.{HasWordFrom}
use Rattle.art_node.proofs.searches.indexed_child_from.Given as goal

abbrev pub invariant-loop-at : goal.invariant-loop-at
invariant-loop-at l = (w : Words) → IsBody Node48 w → HasWordFrom l.low l.number l.word w → NoneFrom (child_of Node48 w) l.low l.at
