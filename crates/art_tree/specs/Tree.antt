-- Cells, and the paths at which they stand.
use Rattle.std.specs.Prelude.{◌≡◌, ℕ, ◌+◌, ◌<◌, List, [], ◌∷◌, ◌++◌, length, Option, Some}
use Rattle.art_cell.specs.declared.cells.Node.{Node}
use Rattle.art_cell.specs.declared.cells.Link.{Link}
use Rattle.art_cell.specs.declared.cells.Link.TheVariants.{Leaf as leaf, Node as node}

-- where a child word stands: in the anchor, or at a byte of a node
pub data Place : Type 0 where
  Top : Place
  Slot : Node → ℕ → Place

-- what all cells mean: a leaf is a number, a key and a value; a node has a prefix, and a child or none for each byte
pub record Heap : Type 0 where
  pub root : Option Link
  pub prefix : Node → List ℕ
  pub child : Node → ℕ → Option Link
  pub key : ℕ → List ℕ
  pub value : ℕ → ℕ

-- the child at a place
abbrev pub child_at_place : Heap → Place → Option Link
child_at_place h Top = h.root
child_at_place h (Slot n b) = h.child n b

-- the path of what node n, at path p, has at byte b: p, then n's prefix, then b
abbrev pub path_past : Heap → Node → List ℕ → ℕ → List ℕ
path_past h n p b = p ++ h.prefix n ++ b ∷ []

-- the cell c is linked, and the path r leads to it
pub data StandsAt (h : Heap) : Link → List ℕ → Type 0 where
  top : {c : Link} {r : List ℕ} → h.root ≡ Some c → r ≡ [] → StandsAt h c r
  down : {n : Node} {p : List ℕ} {c : Link} {r : List ℕ} (b : ℕ) → StandsAt h (node n) p → h.child n b ≡ Some c → r ≡ path_past h n p b → StandsAt h c r

-- the path of a place, where S says at which paths its node may stand
abbrev pub PathBy : Heap → (Link → List ℕ → Type 0) → Place → List ℕ → Type 0
PathBy h S Top r = r ≡ []
PathBy h S (Slot n b) r = (p : List ℕ) × S (node n) p × (r ≡ path_past h n p b)

-- the place is in the tree, and the path r leads to it
abbrev pub PlaceAt : Heap → Place → List ℕ → Type 0
PlaceAt h x r = PathBy h (StandsAt h) x r

-- p begins k
abbrev pub Begins : List ℕ → List ℕ → Type 0
Begins p k = (rest : List ℕ) × (p ++ rest ≡ k)

-- a leaf with this key and value is linked
pub record Row (h : Heap) (k : List ℕ) (v : ℕ) : Type 0 where
  pub number : ℕ
  pub path : List ℕ
  pub at : StandsAt h (leaf number) path
  pub key : h.key number ≡ k
  pub value : h.value number ≡ v

-- node n has two children
abbrev pub HasTwo : Heap → Node → Type 0
HasTwo h n = (a b : ℕ) × (c d : Link) × (a < b) × (h.child n a ≡ Some c) × (h.child n b ≡ Some d)

-- two places of the tree that hold one cell are one place
abbrev pub NamesOnce : Heap → Type 0
NamesOnce h = (x y : Place) (r p : List ℕ) (c : Link) → PlaceAt h x r → PlaceAt h y p → child_at_place h x ≡ Some c → child_at_place h y ≡ Some c → x ≡ y

-- what holds of every tree: each linked cell is named once, each linked node has two children, its path with its prefix
-- is shorter than a key can be, and the path of each linked leaf begins its key
pub record IsTree (h : Heap) : Type 0 where
  pub once : NamesOnce h
  pub splits : (n : Node) (p : List ℕ) → StandsAt h (node n) p → HasTwo h n
  pub short : (n : Node) (p : List ℕ) → StandsAt h (node n) p → length p + length (h.prefix n) < 64
  pub spelled : (l : ℕ) (p : List ℕ) → StandsAt h (leaf l) p → Begins p (h.key l)
