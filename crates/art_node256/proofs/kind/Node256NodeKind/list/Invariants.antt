use Rattle.std.proofs.Common.{◌≡◌}
use Rattle.art_cell.specs.declared.cells.Layout.TheVariants.{Node256}
use Rattle.art_cell.specs.Words.{child_of, listed}
use Rattle.art_cell.specs.Reads.{word_of}
use Rattle.art_node256.proofs.kind.Node256NodeKind.list.Given as goal

abbrev pub invariant-loop-index : goal.invariant-loop-index
invariant-loop-index l = l.entries.items ≡ listed (child_of Node256 (word_of l.body)) 0 l.index
