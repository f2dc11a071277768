-- What a descent by a key shows at a cell on its way, and where a new key parts from those that stand.
use Rattle.std.specs.Prelude.{◌≡◌, ◌≢◌, ℕ, List, ◌∷◌, ◌++◌, None}
use Rattle.art_cell.specs.declared.cells.Node.{Node}
use Rattle.art_cell.specs.declared.cells.Link.TheVariants.{Leaf as leaf, Node as node}
use Rattle.art_tree.specs.Tree.{Heap, path_past, StandsAt, Begins, Row}
use Rattle.art_tree.specs.Rows.{IsAbsent}

-- the key k is found at a leaf that has it. It is absent where there is no root, where a leaf on its way has another key,
-- where a node's prefix differs from it, where it ends with a prefix, and where a node has no child at its next byte
pub record Descends (h : Heap) (k : List ℕ) : Type 0 where
  pub empty : h.root ≡ None → IsAbsent h k
  pub found : (l : ℕ) (p : List ℕ) → StandsAt h (leaf l) p → h.key l ≡ k → Row h k (h.value l)
  pub other : (l : ℕ) (p : List ℕ) → StandsAt h (leaf l) p → Begins p k → h.key l ≢ k → IsAbsent h k
  pub differs : (n : Node) (p : List ℕ) → StandsAt h (node n) p → Begins p k → (Begins (p ++ h.prefix n) k → ⊥) → IsAbsent h k
  pub ends : (n : Node) (p : List ℕ) → StandsAt h (node n) p → p ++ h.prefix n ≡ k → IsAbsent h k
  pub free : (n : Node) (p : List ℕ) (b : ℕ) → StandsAt h (node n) p → Begins (path_past h n p b) k → h.child n b ≡ None → IsAbsent h k

-- the two texts have a front in common, and after it another byte each
pub record Parted (x y : List ℕ) : Type 0 where
  pub front : List ℕ
  pub left : ℕ
  pub right : ℕ
  pub left_rest : List ℕ
  pub right_rest : List ℕ
  pub is_left : x ≡ front ++ left ∷ left_rest
  pub is_right : y ≡ front ++ right ∷ right_rest
  pub apart : left ≢ right

-- the key k begins no row's key, and no row's key begins it
abbrev pub BeginsNone : Heap → List ℕ → Type 0
BeginsNone h k = (j : List ℕ) (v : ℕ) → Row h j v → (Begins k j → ⊥) × (Begins j k → ⊥)

-- what is left of the key k behind the path p parts from what stands there: from the prefix of a node that does not
-- begin it, and from what is left of a leaf's key
pub record Parts (h : Heap) (k : List ℕ) : Type 0 where
  pub at_node : (n : Node) (p : List ℕ) → StandsAt h (node n) p → (f : Begins p k) → (Begins (p ++ h.prefix n) k → ⊥) → Parted (h.prefix n) f.0
  pub at_leaf : (l : ℕ) (p : List ℕ) → StandsAt h (leaf l) p → (f : Begins p k) → (g : Begins p (h.key l)) → Parted g.0 f.0
