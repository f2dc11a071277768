use Rattle.art_cell.specs.declared.cells.Layout.TheVariants.{Node16}
use Rattle.art_cell.specs.Reads.{IsBodyOf}
use Rattle.art_node_uses.proofs.node16.with_bytes.Given as goal

abbrev pub invariant-loop-byte : goal.invariant-loop-byte
invariant-loop-byte g l = IsBodyOf Node16 l.body
