-- The words of a cell as a body, and where a child word stands in it.
use Rattle.std.specs.Borrow.{Bor}
use Rattle.std.specs.Prelude.{◌≡◌, ◌^◌, ◌<◌, ◌≤◌, ℕ, List, Option, replicate, unwrap_or}
use Rattle.art_cell.specs.Reads.{word_of, word_read}
use Rattle.art_cell.specs.Words.{size}
use Rattle.art_cell.specs.declared.cells.Body.{Body}
use Rattle.art_cell.specs.declared.cells.Cell.{Cell}
use Rattle.art_cell.specs.declared.cells.Cell.TheVariants as cell
use Rattle.art_cell.specs.declared.cells.Node.{Node}
use Rattle.art_cell.specs.declared.cells.Layout.TheVariants.{Node4}
use Rattle.art_plan.specs.declared.changes.Site.{Site}
use Rattle.art_plan.specs.declared.changes.Site.TheVariants.{Root, Slot}
use Rattle.art_step.specs.declared.views.Stamp.{Stamp}

-- words of 0
abbrev pub blank : Body
blank = record { layout = Node4; words = replicate 266 0 }

-- the body has the layout of the node, and each word that was read of it; 0 stands where none was. Behind them stand any words
pub record HasWords (n : Node) (reads : List (Option ℕ)) (body : Body) : Type 0 where
  pub layout : body.layout ≡ n.layout
  pub words : (place : ℕ) → place < size n.layout → word_of body place ≡ unwrap_or (word_read reads place) 0
  pub behind : (place : ℕ) → size n.layout ≤ place → word_of body place < 2 ^ 64

-- so it is where the cell is a node
abbrev pub IsFilled : Cell → List (Option ℕ) → Body → Type 0
IsFilled c reads body = (n : Node) → c ≡ cell.Node n → HasWords n reads body

-- where a child word stands in the cell: in the anchor, or in the node, which has these words, at this byte
abbrev pub site_by : Cell → Stamp → Bor Body → ℕ → Site
site_by (cell.Node n) x body byte = Slot x body byte
site_by c x body byte = Root x

abbrev pub site_in : Stamp → Bor Body → ℕ → Site
site_in x body byte = site_by x.cell x body byte
