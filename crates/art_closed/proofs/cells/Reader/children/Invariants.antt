-- The words so far are those of the node.
use Rattle.std.proofs.Common.{◌≡◌, ◌<◌, ◌≤◌, ℕ, length, get_or}
use Rattle.art_cell.specs.declared.cells.Cell.TheVariants as cells
use Rattle.art_closed.specs.Cells.{cells_in}
use Rattle.art_closed.proofs.cells.Reader.children.Given as goal

abbrev pub invariant-loop-place : goal.invariant-loop-place
invariant-loop-place l = record {
  layout : l.body.layout ≡ l.node.layout;
  long : length l.body.words ≡ 266;
  same : (p : ℕ) → p < l.place → get_or l.body.words p 0 ≡ cells_in l.self.sizes l.self.words.now (cells.Node l.node) p;
  past : (p : ℕ) → l.place ≤ p → get_or l.body.words p 0 ≡ 0;
}
