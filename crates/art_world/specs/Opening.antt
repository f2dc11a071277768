-- A world that just opened.
use Rattle.std.specs.Prelude.{◌≡◌, ℕ, ◌+◌, ◌*◌}
use Rattle.art_cell.specs.declared.cells.Node.{Node}
use Rattle.art_cell.specs.declared.cells.Cell.TheVariants as cell
use Rattle.art_cell.specs.declared.cells.Link.TheVariants.{Node as node}
use Rattle.art_step.specs.declared.views.Sizes.{Sizes}
use Rattle.art_step.specs.OpeningWords.{opening_words}
use Rattle.art_step.specs.Opening.{Opens}
use Rattle.art_step.specs.Views.{IsNumber}
use Rattle.art_step.specs.WordRows.{newcomers, views_of}
use Rattle.art_world.specs.Contents.{Contents, memory_now}

-- a world that just opened: each pass knows nothing, and the counters of the anchor and of all nodes are at k
pub record OpensAt (z : Sizes) (k : ℕ) (w : Contents) : Type 0 where
  pub sizes : w.sizes ≡ z
  pub words : w.words ≡ opening_words z k
  pub views : w.views ≡ newcomers 0 z.passes
  pub opens : Opens z (memory_now w) (views_of w.views)
  pub anchor : (memory_now w).version cell.Anchor ≡ 4 * k
  pub nodes : (n : Node) → IsNumber z (node n) → (memory_now w).version (cell.Node n) ≡ 4 * k + 1
