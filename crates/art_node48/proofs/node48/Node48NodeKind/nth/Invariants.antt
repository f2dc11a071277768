use Rattle.std.proofs.Common.{◌≡◌, take}
use Rattle.art_cell.specs.declared.cells.Layout.TheVariants.{Node48}
use Rattle.art_cell.specs.Words.{child_of, entries, listed}
use Rattle.art_cell.specs.Reads.{word_of}
use Rattle.art_node48.proofs.node48.Node48NodeKind.nth.Given as goal

abbrev pub invariant-loop-at : goal.invariant-loop-at
invariant-loop-at l = listed (child_of Node48 (word_of l.body)) 0 l.at ≡ take l.fn._index (entries Node48 (word_of l.body))
