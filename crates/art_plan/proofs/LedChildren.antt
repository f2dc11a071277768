-- The child words of the cell that names the leaf lead to what they name, wherever the words that were read are those of a tree.
use Rattle.std.proofs.Common.{◌≡◌, ℕ, ◌++◌, ◌<◌, List, [], ◌∷◌, Option, Some, sym, ap, ◌∙◌, subst}
use Rattle.art_cell.specs.Children.{link_of}
use Rattle.art_cell.specs.Reads.{word_of}
use Rattle.art_cell.specs.Words.{child_of, prefix_of}
use Rattle.art_cell.specs.declared.cells.Cell.TheVariants as cell
use Rattle.art_cell.specs.declared.cells.Link.{Link}
use Rattle.art_cell.specs.declared.cells.Link.TheVariants.{Leaf as leaf, Node as node}
use Rattle.art_cell.specs.declared.cells.Node.{Node}
use Rattle.art_plan.proofs.SeenBodies.{seen_prefix, stands}
use Rattle.art_plan.proofs.WholeCells.{IsWhole, body_read, has_read}
use Rattle.art_plan.specs.ChooseInsert.Bodies.{HasWords, IsFilled}
use Rattle.art_step.proofs.Shows.{child_on}
use Rattle.art_step.specs.Knowledge.{CellAt, HoldsAll, IsShape, KnowsPath}
use Rattle.art_step.specs.Views.{cell_named}
use Rattle.art_step.specs.declared.views.Sizes.{Sizes}
use Rattle.art_step.specs.declared.views.Stamp.{Stamp}
use Rattle.art_step.specs.declared.views.View.{View}
use Rattle.art_tree.specs.Heaps.{Cells, heap_of}
use Rattle.art_tree.specs.Tree.{StandsAt, down}

-- a link at a path is a cell there
cell_there : (s : Cells) (d : Link) (q : List ℕ) → StandsAt (heap_of s) d q → CellAt s (cell_named d) q
cell_there s (leaf l) q there = there
cell_there s (node n) q there = there

module _ (z : Sizes) (v : View) (x : Stamp) (reads : List (Option ℕ)) (whole : IsWhole z v x reads) (n : Node) (on : x.cell ≡ cell.Node n) (byte word : ℕ) (d : Link) (low : byte < 256) (names : link_of word ≡ Some d) where
  -- the path of the node, its prefix as it was read, and the byte
  abbrev way : List ℕ
  way = whole.path.0 ++ prefix_of (word_of (body_read n reads)) ++ byte ∷ []

  -- where each tree in which the notes hold has the word at the byte, the path leads there
  pub child_led : ((s : Cells) → IsShape z s → HoldsAll v x s → child_of n.layout (s (cell.Node n)) byte ≡ Some word) → (q : List ℕ) × KnowsPath z v x (cell_named d) q
  child_led has = (
    way,
    λ s shape holds.
        let filled : IsFilled x.cell reads (body_read n reads) = (λ (m : Node) (at : x.cell ≡ cell.Node m).
        let same : cell.Node n ≡ cell.Node m = sym on ∙ at in
        let one : n ≡ m = cc in
        subst (λ (p : Node). HasWords p reads (body_read n reads)) one (has_read n reads)) in
        let on_path = stands z v x reads whole s shape holds n on (body_read n reads) filled in
        let child : (heap_of s).child n byte ≡ Some d = child_on s n byte (Some word) low (has s shape holds) ∙ names in
        cell_there s d way (down byte on_path child
        (ap (λ (p : List ℕ). whole.path.0 ++ p ++ byte ∷ []) (seen_prefix z v x reads whole s shape holds n on (body_read n reads) filled))),
  )
