use Rattle.art_cell.specs.declared.cells.Layout.TheVariants.{Node48}
use Rattle.art_cell.specs.Reads.{IsBodyOf}
use Rattle.art_node_uses.proofs.node48.seventeen.Given as goal

abbrev pub invariant-loop-byte : goal.invariant-loop-byte
invariant-loop-byte g l = IsBodyOf Node48 l.body
