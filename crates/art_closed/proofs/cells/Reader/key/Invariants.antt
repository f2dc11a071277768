-- The bytes so far are those of the leaf's key.
use Rattle.std.proofs.Common.{◌≡◌, length, map}
use Rattle.std.specs.List.{range_with_len}
use Rattle.art_cell.specs.declared.cells.Cell.TheVariants as cells
use Rattle.art_cell.specs.Words.{packed}
use Rattle.art_closed.specs.Cells.{cells_in}
use Rattle.art_closed.proofs.cells.Reader.key.Given as goal

abbrev pub invariant-loop-at : goal.invariant-loop-at
invariant-loop-at l = record {
  few : length l.key.items ≡ l.at;
  read : l.key.items ≡ map (packed (cells_in l.self.sizes l.self.words.now (cells.Leaf l.number)) 2) (range_with_len 0 l.at);
}
