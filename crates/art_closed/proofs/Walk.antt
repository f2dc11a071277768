-- The rows below a node, child by child.
use Rattle.std.proofs.Common.{◌≡◌, ℕ, ◌+◌, ◌-◌, ◌<◌, ◌≤◌, List, [], ◌∷◌, ◌++◌, length, get_or, take, Some, refl, sym, ap, ◌∙◌, subst, arith, append_assoc, append-nil, length-append}
use Rattle.std.proofs.lemmas.Grind.{flat_map-append}
use Rattle.std.proofs.lemmas.List.{length-map, map-append, take_more, take_all}
use Rattle.std.proofs.lemmas.List.Folds.{length-flat_map-take}
use Rattle.std.specs.List.{flat_map}
use Rattle.std.specs.Prelude.{Option}
use Rattle.art_cell.specs.declared.cells.Node.{Node}
use Rattle.art_cell.specs.declared.cells.Link.{Link}
use Rattle.art_cell.specs.declared.cells.Link.TheVariants.{Node as node}
use Rattle.art_cell.specs.declared.cells.Cell.TheVariants as cell
use Rattle.art_cell.specs.declared.node_kinds.Entry.{Entry}
use Rattle.art_cell.specs.Children.{link_of}
use Rattle.art_cell.specs.Words.{entries}
use Rattle.art_key.specs.declared.columns.Column.{Column}
use Rattle.art_model.specs.declared.rows.Row.{Row}
use Rattle.art_step.specs.Knowledge.{IsShape}
use Rattle.art_step.specs.declared.views.Sizes.{Sizes}
use Rattle.art_tree.specs.Heaps.{Cells, heap_of}
use Rattle.art_tree.specs.Tree.{down, path_past}
use Rattle.art_tree.proofs.Paths.{length_past}
use Rattle.art_closed.specs.Listing.{IsWithin, Pair, listing, of_child, row_spelled, rows_spelled}
use Rattle.art_closed.proofs.Listed.{listing_node}
use Rattle.art_closed.proofs.Read.{child_at_entry, listed_of_node}

module _ (z : Sizes) (s : Cells) (shape : IsShape z s) (n : Node) (depth : ℕ) (within : IsWithin (heap_of s) depth (node n)) (es : List Entry) (are : es ≡ entries n.layout (s (cell.Node n))) where
  -- what is below an entry
  abbrev below : Entry → List Pair
  below e = of_child (λ d. listing (heap_of s) (depth - 1) d) (link_of e.child)

  pub deep : 0 < depth
  deep = let short = shape.tree.short n within.0 within.1 in let far = within.2 in omega (arith, short, far)

  pub below_all : flat_map below es ≡ listing (heap_of s) depth (node n)
  below_all = ap (flat_map below) are ∙ (listed_of_node (λ d. listing (heap_of s) (depth - 1) d) s n ∙ sym (listing_node (heap_of s) n depth deep))

  module _ (i : ℕ) (d : Entry) (low : i < length es) where
    -- the child of an entry is within, one node less deep
    pub child_within : (c : Link) → link_of (get_or es i d).child ≡ Some c → IsWithin (heap_of s) (depth - 1) c
    child_within c is =
        let h = heap_of s in
        let p = within.0 in
        let e = get_or es i d in
        let at = subst (λ (l : List Entry). i < length l → h.child n (get_or l i d).byte ≡ link_of (get_or l i d).child) (sym are) (child_at_entry s n i d) low in
        let long = length_past h n p e.byte in
        let far = within.2 in
        let some = deep in
        (path_past h n p e.byte, down e.byte within.1 (at ∙ is) refl, omega (arith, long, far, some))

    module _ (schema : List Column) (before now : List Row) (so_far : now ≡ before ++ rows_spelled schema (flat_map below (take i es))) where
      -- there is room for its rows
      pub room_below : (room : ℕ) (c : Link) → link_of (get_or es i d).child ≡ Some c → length before + length (listing (heap_of s) depth (node n)) ≤ room → length now + length (listing (heap_of s) (depth - 1) c) ≤ room
      room_below room c is fits =
          let part = length-flat_map-take below es i d low in
          let one : length (below (get_or es i d)) ≡ length (listing (heap_of s) (depth - 1) c) = ap (λ (o : Option Link). length (of_child (λ d. listing (heap_of s) (depth - 1) d) o)) is in
          let whole = ap (λ (l : List Pair). length l) below_all in
          let long = ap length so_far ∙ length-append before (rows_spelled schema (flat_map below (take i es))) in
          let rows = length-map (flat_map below (take i es)) (row_spelled schema) in
          omega (arith, part, one, whole, long, rows, fits)

      -- and with these, those below one entry more are written
      pub one_more : (new : List Row) → new ≡ now ++ rows_spelled schema (below (get_or es i d)) → new ≡ before ++ rows_spelled schema (flat_map below (take (i + 1) es))
      one_more new is =
          let e = get_or es i d in
          let front = flat_map below (take i es) in
          let more : flat_map below (take (i + 1) es) ≡ front ++ below e = ap (flat_map below) (take_more es i d low) ∙ (flat_map-append below (take i es) (e ∷ []) ∙ ap (λ (l : List Pair). front ++ l) (append-nil (below e))) in
          is
          ∙ (ap (λ (l : List Row). l ++ rows_spelled schema (below e)) so_far
          ∙ (append_assoc before (rows_spelled schema front) (rows_spelled schema (below e))
          ∙ ap (λ (l : List Row). before ++ l) (sym (map-append (row_spelled schema) front (below e)) ∙ ap (rows_spelled schema) (sym more))))

  -- after the last entry all rows below the node are written
  pub all_below : (schema : List Column) (i : ℕ) (before now : List Row) → length es ≤ i → now ≡ before ++ rows_spelled schema (flat_map below (take i es)) → now ≡ before ++ rows_spelled schema (listing (heap_of s) depth (node n))
  all_below schema i before now past is =
      is ∙ ap (λ (l : List Pair). before ++ rows_spelled schema l) (ap (flat_map below) (take_all i es past) ∙ below_all)
