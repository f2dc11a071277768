-- What a look of a range from lo on finds in a tree, and how far it sees: the table of looks, row by row.
use Rattle.std.specs.Prelude.{◌≡◌, ◌⊎◌, ℕ, ◌≤◌, List, [], ◌++◌, Option, Some, None}
use Rattle.art_cell.specs.declared.cells.Link.{Link}
use Rattle.art_cell.specs.declared.cells.Link.TheVariants.{Leaf as leaf, Node as node}
use Rattle.art_cell.specs.declared.cells.Node.{Node}
use Rattle.art_look.specs.Fronts.{IsLow}
use Rattle.art_look.specs.declared.looks.Reach.{Reach}
use Rattle.art_look.specs.declared.looks.Reach.TheVariants.{Past, UpTo}
use Rattle.art_tree.specs.Looks.{Before, NoChildFrom, after}
use Rattle.art_tree.specs.Tree.{Begins, Heap, StandsAt, path_past}
use Rattle.art_tree.specs.declared.bounds.Bound.{Bound}
use Rattle.art_tree.specs.declared.bounds.Bound.TheVariants.{To}

-- how far a look sees that ends at the path q
abbrev pub end_at : Reach → List ℕ → Bound
end_at Past q = after q
end_at UpTo q = To q

-- node n stands at r, which begins lo, and d is its least child from lo's next byte on, or of all: the one at the byte c
pub record IsLeast (h : Heap) (lo : List ℕ) (n : Node) (r : List ℕ) (low c : ℕ) (d : Link) : Type 0 where
  pub at : StandsAt h (node n) r
  pub front : Begins r lo
  pub lowest : IsLow lo (r ++ h.prefix n) low
  pub from : low ≤ c
  pub none : NoChildFrom h n low c
  pub child : h.child n c ≡ Some d

-- a node stands at q, and its path with its prefix is before lo and does not begin it
pub record IsBefore (h : Heap) (lo q : List ℕ) : Type 0 where
  pub n : Node
  pub at : StandsAt h (node n) q
  pub front : Begins q lo
  pub before : Before (q ++ h.prefix n) lo
  pub apart : Begins (q ++ h.prefix n) lo → ⊥

-- the path of a node with its prefix is q and begins lo, and the node has no child from lo's next byte b on
pub record HasNoneFrom (h : Heap) (lo q : List ℕ) : Type 0 where
  pub n : Node
  pub r : List ℕ
  pub b : ℕ
  pub at : StandsAt h (node n) r
  pub front : Begins r lo
  pub next : Begins (path_past h n r b) lo
  pub none : (e : ℕ) → b ≤ e → h.child n e ≡ None
  pub path : q ≡ r ++ h.prefix n

-- the least child is a leaf, to which q leads
pub record HasLeaf (h : Heap) (lo q : List ℕ) (l : ℕ) : Type 0 where
  pub n : Node
  pub r : List ℕ
  pub low : ℕ
  pub c : ℕ
  pub least : IsLeast h lo n r low c (leaf l)
  pub path : q ≡ path_past h n r c

-- it is a node, to which q leads, and q does not begin lo
pub record HasNode (h : Heap) (lo q : List ℕ) : Type 0 where
  pub n : Node
  pub r : List ℕ
  pub low : ℕ
  pub c : ℕ
  pub m : Node
  pub least : IsLeast h lo n r low c (node m)
  pub apart : Begins (path_past h n r c) lo → ⊥
  pub path : q ≡ path_past h n r c

-- the leaf is the root, or the least child of a node
abbrev pub IsFirst : Heap → List ℕ → List ℕ → ℕ → Type 0
IsFirst h lo q l = ((h.root ≡ Some (leaf l)) × (q ≡ [])) ⊎ HasLeaf h lo q l

-- what is found, with the path q at which the look ends
abbrev pub IsRow : Heap → List ℕ → List ℕ → Reach → Option (List ℕ × ℕ) → Type 0
IsRow h lo q Past None = ((h.root ≡ None) × (q ≡ [])) ⊎ IsBefore h lo q ⊎ HasNoneFrom h lo q
IsRow h lo q Past (Some row) = (l : ℕ) × (h.key l ≡ row.0) × (h.value l ≡ row.1) × IsFirst h lo q l
IsRow h lo q UpTo None = HasNode h lo q
IsRow h lo q UpTo (Some row) = ⊥
