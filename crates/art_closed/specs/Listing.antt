-- The rows of a tree, as a walk from the top down lists them.
use Rattle.std.specs.Prelude.{ℕ, zero, suc, ◌+◌, ◌≤◌, List, [], ◌∷◌, length, map, Option, Some, None}
use Rattle.std.specs.List.{flat_map, range_with_len}
use Rattle.art_cell.specs.declared.cells.Link.{Link}
use Rattle.art_cell.specs.declared.cells.Link.TheVariants.{Leaf as leaf, Node as node}
use Rattle.art_key.specs.declared.columns.Column.{Column}
use Rattle.art_model.specs.declared.rows.Row.{Row}
use Rattle.art_tree.specs.Tree.{Heap, StandsAt}
use Rattle.art_typed.specs.Typed.{tuple_of}

-- the key of a leaf, and its value
abbrev pub Pair : Type 0
Pair = List ℕ × ℕ

-- what f lists of a child, where there is one
abbrev pub of_child : (Link → List Pair) → Option Link → List Pair
of_child f None = []
of_child f (Some d) = f d

-- what f lists of the children of so many bytes from one on, in ascending order of their bytes
unfoldable pub of_children : (Link → List Pair) → (ℕ → Option Link) → ℕ → ℕ → List Pair
of_children f child from count = flat_map (λ b. of_child f (child b)) (range_with_len from count)

-- the keys and values of the leaves from a link down, byte by byte, and no more than so many nodes deep
unfoldable pub listing : Heap → ℕ → Link → List Pair
listing h zero (leaf l) = (h.key l, h.value l) ∷ []
listing h zero (node n) = []
listing h (suc depth) (leaf l) = (h.key l, h.value l) ∷ []
listing h (suc depth) (node n) = of_children (λ d. listing h depth d) (h.child n) 0 256

-- the row that a leaf spells
abbrev pub row_spelled : List Column → Pair → Row
row_spelled schema x = record { tuple = tuple_of schema x.0; value = x.1 }

abbrev pub rows_spelled : List Column → List Pair → List Row
rows_spelled schema xs = map (row_spelled schema) xs

-- the cell is linked, and so deep a walk ends at leaves: paths are shorter than 64 bytes
abbrev pub IsWithin : Heap → ℕ → Link → Type 0
IsWithin h depth c = (p : List ℕ) × StandsAt h c p × (64 ≤ length p + depth)
