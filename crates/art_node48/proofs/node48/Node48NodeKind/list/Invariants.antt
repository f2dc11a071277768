use Rattle.std.proofs.Common.{◌≡◌, ◌≤◌, length}
use Rattle.art_cell.specs.declared.cells.Layout.TheVariants.{Node48}
use Rattle.art_cell.specs.Words.{child_of, listed}
use Rattle.art_cell.specs.Reads.{word_of}
use Rattle.art_node48.proofs.node48.Node48NodeKind.list.Given as goal

abbrev pub invariant-loop-byte : goal.invariant-loop-byte
invariant-loop-byte l = record {
  few : length l.entries.items ≤ l.byte;
  items : l.entries.items ≡ listed (child_of Node48 (word_of l.body)) 0 l.byte;
}
