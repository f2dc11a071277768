-- What a verdict says of the key k, to which the first bytes, so many, lead.
use Rattle.std.specs.Prelude.{◌≡◌, ◌≢◌, ◌⊎◌, ℕ, ◌+◌, ◌<◌, ◌≤◌, List, [], ◌∷◌, ◌++◌, length, get_or, take, Option, Some, None}
use Rattle.art_cell.specs.declared.cells.Cell.{Cell}
use Rattle.art_cell.specs.declared.cells.Cell.TheVariants as cell
use Rattle.art_cell.specs.declared.cells.Link.TheVariants.{Leaf as leaf}
use Rattle.art_cell.specs.declared.cells.Node.{Node}
use Rattle.art_cell.specs.Words.{packed}
use Rattle.art_find.specs.Ways.{HasHeader, IsPastPrefix, count_in}
use Rattle.art_find.specs.declared.descents.Verdict.{Verdict}
use Rattle.art_find.specs.declared.descents.Verdict.TheVariants.{Found, Empty, LeafMismatch, PrefixMismatch, NoChild, Overlaps, Torn}
use Rattle.art_path.specs.Compared.{AreSame}
use Rattle.art_step.specs.Shows.{HasChild, Shows}
use Rattle.art_step.specs.declared.views.Sizes.{Sizes}
use Rattle.art_step.specs.declared.views.Stamp.{Stamp}
use Rattle.art_step.specs.declared.views.View.{View}
use Rattle.art_tree.specs.Heaps.{Cells, heap_of}
use Rattle.art_tree.specs.Tree.{Begins, Row}

-- the key's value, or that it has none
abbrev pub value_of : Verdict → Option ℕ
value_of (Found l value) = Some value
value_of Empty = None
value_of (LeafMismatch l at byte) = None
value_of (PrefixMismatch n header at) = None
value_of (NoChild n header) = None
value_of Overlaps = None
value_of Torn = None

-- ---- in a tree

-- the text j has the first bytes of the key, so many, and then this byte, which is another
pub record PartsAt (k j : List ℕ) (at byte : ℕ) : Type 0 where
  pub low : byte < 256
  pub front : Begins (take at k ++ byte ∷ []) j
  pub other : byte ≢ get_or k at 0

-- the cell names the leaf on the key's way, and the leaf has the key, with this value
pub record IsFound (s : Cells) (c : Cell) (l : ℕ) (k : List ℕ) (depth value : ℕ) : Type 0 where
  pub child : HasChild s c (leaf l) (take depth k)
  pub is_key : (heap_of s).key l ≡ k
  pub is_value : (heap_of s).value l ≡ value

-- or it has another, which parts from the key behind the path
pub record IsLeafMismatch (s : Cells) (c : Cell) (l : ℕ) (k : List ℕ) (depth at byte : ℕ) : Type 0 where
  pub child : HasChild s c (leaf l) (take depth k)
  pub behind : depth ≤ at
  pub parts : PartsAt k ((heap_of s).key l) at byte

-- the node is on the key's way, and its prefix parts from the key's next bytes at this index
pub record IsPrefixMismatch (s : Cells) (n : Node) (k : List ℕ) (depth header at : ℕ) : Type 0 where
  pub on : HasHeader s n k depth header
  pub same : AreSame (packed (s (cell.Node n)) 2) at k depth
  pub other : packed (s (cell.Node n)) 2 at ≢ get_or k (depth + at) 0

-- the path of the node with its prefix is the first bytes of the key, and it has no child at the next one
pub record IsFree (s : Cells) (n : Node) (k : List ℕ) (depth header : ℕ) : Type 0 where
  pub past : IsPastPrefix s n k depth header
  pub free : (heap_of s).child n (get_or k depth 0) ≡ None

-- the key begins that of a row, or that of a row begins it, and they are two
pub record HasOverlap (s : Cells) (k : List ℕ) : Type 0 where
  pub key : List ℕ
  pub value : ℕ
  pub row : Row (heap_of s) key value
  pub other : key ≢ k
  pub overlaps : Begins key k ⊎ Begins k key

-- ---- under a stamp

abbrev pub Says : Sizes → List ℕ → ℕ → Stamp → Verdict → View → Type 0
Says z k depth x (Found l value) v = (l < z.leaves) × Shows z v x (λ s. IsFound s x.cell l k depth value)
Says z k depth x Empty v = (x.cell ≡ cell.Anchor) × Shows z v x (λ s. (heap_of s).root ≡ None)
Says z k depth x (LeafMismatch l at byte) v = (l < z.leaves) × (at < length k) × Shows z v x (λ s. IsLeafMismatch s x.cell l k depth at byte)
Says z k depth x (PrefixMismatch n header at) v =
    (x.cell ≡ cell.Node n) × (at < count_in header) × (depth + at < length k) × Shows z v x (λ s. IsPrefixMismatch s n k depth header at)
Says z k depth x (NoChild n header) v = (x.cell ≡ cell.Node n) × (depth < length k) × Shows z v x (λ s. IsFree s n k depth header)
Says z k depth x Overlaps v = Shows z v x (λ s. HasOverlap s k)
Says z k depth x Torn v = Shows z v x (λ s. ⊥)
