-- What stands below a child, from the top down.
use Rattle.std.specs.Prelude.{◌≡◌, ◌↔◌, ℕ, List, [], Some}
use Rattle.art_cell.specs.declared.cells.Node.{Node}
use Rattle.art_cell.specs.declared.cells.Link.{Link}
use Rattle.art_cell.specs.declared.cells.Link.TheVariants.{Leaf as leaf, Node as node}
use Rattle.art_tree.specs.Tree.{Heap, path_past, Begins, Row}

-- below the child c at path p stands the row (k, v): c is a leaf with this key and value, and p begins the key; or c is
-- a node, and the row stands below one of its children
pub data StandsBelow (h : Heap) : Link → List ℕ → List ℕ → ℕ → Type 0 where
  itself : {c : Link} {p k : List ℕ} {v : ℕ} (l : ℕ) → c ≡ leaf l → h.key l ≡ k → h.value l ≡ v → Begins p k → StandsBelow h c p k v
  under : {c : Link} {p k : List ℕ} {v : ℕ} (n : Node) (b : ℕ) (d : Link) → c ≡ node n → h.child n b ≡ Some d → StandsBelow h d (path_past h n p b) k v → StandsBelow h c p k v

-- the row stands below the root, at the empty path
abbrev pub StandsBelowRoot : Heap → List ℕ → ℕ → Type 0
StandsBelowRoot h k v = (c : Link) × (h.root ≡ Some c) × StandsBelow h c [] k v

-- the rows of linked leaves are those that stand below the root
abbrev pub RowsStandBelow : Heap → Type 0
RowsStandBelow h = (k : List ℕ) (v : ℕ) → Row h k v ↔ StandsBelowRoot h k v
