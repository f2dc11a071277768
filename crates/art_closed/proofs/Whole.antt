-- The rows of a whole tree, from its root down.
use Rattle.std.proofs.Common.{◌≡◌, ◌≤◌, List, [], length, Some, None, refl, arith}
use Rattle.art_cell.specs.declared.cells.Link.{Link}
use Rattle.art_cell.specs.declared.cells.Link.TheVariants.{Leaf as leaf}
use Rattle.art_key.specs.declared.columns.Column.{Column}
use Rattle.art_step.specs.Knowledge.{IsShape}
use Rattle.art_step.specs.Views.{Member}
use Rattle.art_step.specs.declared.views.Sizes.{Sizes}
use Rattle.art_tree.specs.Heaps.{Cells, heap_of}
use Rattle.art_tree.specs.Tree.{Row, top}
use Rattle.art_tree.proofs.ByteTexts.{child_byte}
use Rattle.art_tree.proofs.Lookup.{absent_empty}
use Rattle.art_closed.specs.Listing.{Pair, listing, rows_spelled}
use Rattle.art_closed.specs.Rows.{AreRowsOf, SpellsTuples}
use Rattle.art_closed.proofs.Listed.{all_rows, ascends, each_row, few_rows, pair_cmp}
use Rattle.art_closed.proofs.Members.{all_members, sorted_none}
use Rattle.art_closed.proofs.Spelled.{rows_of}

module _ (z : Sizes) (s : Cells) (shape : IsShape z s) (schema : List Column) (keys : SpellsTuples schema (heap_of s)) where
  module _ (c : Link) (is : (heap_of s).root ≡ Some c) where
    row : (x : Pair) → Member x (listing (heap_of s) 64 c) → Row (heap_of s) x.0 x.1
    row x i = (each_row (heap_of s) shape.tree 64 c [] (top is refl) x i).0

    pub rows_from_root : AreRowsOf schema (heap_of s) (rows_spelled schema (listing (heap_of s) 64 c))
    rows_from_root =
        rows_of schema (heap_of s) keys (listing (heap_of s) 64 c) row
        (λ k v w. all_rows (heap_of s) shape.tree (child_byte s) 64 c [] k v (top is refl) (omega arith) (k, refl) w)
        (ascends (heap_of s) shape.tree 64 c [] (top is refl))

    -- they are no more than there are leaves
    pub few_from_root : length (listing (heap_of s) 64 c) ≤ z.leaves
    few_from_root =
        few_rows (heap_of s) z.leaves (λ l p at. shape.numbers (leaf l) p at) (listing (heap_of s) 64 c)
        (all_members (λ (x : Pair). Row (heap_of s) x.0 x.1) (listing (heap_of s) 64 c) row)
        (ascends (heap_of s) shape.tree 64 c [] (top is refl))

  pub no_rows : (heap_of s).root ≡ None → AreRowsOf schema (heap_of s) []
  no_rows none = rows_of schema (heap_of s) keys [] (λ x i. absurd i) (λ k v w. absurd (absent_empty (heap_of s) k none v w)) (sorted_none pair_cmp)
