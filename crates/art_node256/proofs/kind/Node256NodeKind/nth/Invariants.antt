use Rattle.std.proofs.Common.{◌≡◌, take}
use Rattle.art_cell.specs.declared.cells.Layout.TheVariants.{Node256}
use Rattle.art_cell.specs.Words.{child_of, entries, listed}
use Rattle.art_cell.specs.Reads.{word_of}
use Rattle.art_node256.proofs.kind.Node256NodeKind.nth.Given as goal

abbrev pub invariant-loop-at : goal.invariant-loop-at
invariant-loop-at l = listed (child_of Node256 (word_of l.body)) 0 l.at ≡ take l.fn._index (entries Node256 (word_of l.body))
