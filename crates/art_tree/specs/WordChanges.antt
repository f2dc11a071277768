-- The changes of the tree, by the words that they write.
use Rattle.std.specs.Prelude.{◌≡◌, ◌≢◌, ◌⊎◌, ℕ, ◌^◌, ◌<◌, List, ◌∷◌, ◌++◌, ◌==◌, if◌then◌else◌, Option, Some, None, ⊤}
use Rattle.art_cell.specs.declared.cells.Layout.{Layout}
use Rattle.art_cell.specs.declared.cells.Node.{Node}
use Rattle.art_cell.specs.declared.cells.Link.{Link}
use Rattle.art_cell.specs.declared.cells.Link.TheVariants.{Leaf as leaf, Node as node}
use Rattle.art_cell.specs.declared.cells.Cell.{Cell}
use Rattle.art_cell.specs.declared.cells.Cell.TheVariants as cell
use Rattle.art_cell.specs.Bodies.{IsBody, Becomes}
use Rattle.art_tree.specs.Changes.{IsUnlinked, Edits, Replaces, Renews, Copies, Forks, Merges}
use Rattle.art_cell.specs.Children.{child_word, number_of}
use Rattle.art_tree.specs.Heaps.{Cells, node_prefix, heap_of, MeansTheSame}
use Rattle.art_cell.specs.Reads.{with_child, without_child}
use Rattle.art_tree.specs.Tree.{Place, Top, Slot, child_at_place, StandsAt, PlaceAt, NamesOnce}
use Rattle.art_cell.specs.Words.{Words, prefix_of, child_of}

-- ---- what is written

-- numbers take 32 bits
abbrev pub FitsWord : Link → Type 0
FitsWord c = number_of c < 2 ^ 32

-- a map of child words whose byte b has this child, or none
abbrev pub at_byte : (ℕ → Option ℕ) → ℕ → Option Link → ℕ → Option ℕ
at_byte child b (Some c) = with_child child b (child_word c)
at_byte child b None = without_child child b

-- the anchor's child word
abbrev pub word_of_child : Option Link → ℕ
word_of_child (Some c) = child_word c
word_of_child None = 0

-- the words of the place's cell now name this child there, or none, and mean else what they meant
abbrev pub WritesPlace : Cells → Cells → Place → Option Link → Type 0
WritesPlace s s' Top o = s' cell.Anchor 1 ≡ word_of_child o
WritesPlace s s' (Slot n b) o = (b < 256) × Becomes n.layout (s (cell.Node n)) (s' (cell.Node n)) (at_byte (child_of n.layout (s (cell.Node n))) b o)

-- the words are those of a node with this prefix and these child words
pub record WritesNode (layout : Layout) (w : Words) (p : List ℕ) (child : ℕ → Option ℕ) : Type 0 where
  pub body : IsBody layout w
  pub prefix : prefix_of w ≡ p
  pub children : (b : ℕ) → b < 256 → child_of layout w b ≡ child b

-- child words of two bytes alone
abbrev pub two_children : ℕ → Link → ℕ → Link → ℕ → Option ℕ
two_children a c b d e = if e == a then Some (child_word c) else if e == b then Some (child_word d) else None

-- the cell that has the place
abbrev pub cell_of : Place → Cell
cell_of Top = cell.Anchor
cell_of (Slot n b) = cell.Node n

-- all cells but the written ones mean what they meant
abbrev pub WritesOnly : Cells → Cells → (Cell → Type 0) → Type 0
WritesOnly s s' written = (c : Cell) → (written c → ⊥) → MeansTheSame c (s c) (s' c)

-- ---- the changes

-- the child at x becomes the leaf l, or none
pub record PlaceByWords (s s' : Cells) (x : Place) (o : Option Link) : Type 0 where
  pub put : WritesPlace s s' x o
  pub rest : WritesOnly s s' (λ c. c ≡ cell_of x)

-- node m comes to x, with n's prefix and these child words
pub record WayByWords (s s' : Cells) (x : Place) (n m : Node) (child : ℕ → Option ℕ) : Type 0 where
  pub put : WritesPlace s s' x (Some (node m))
  pub made : WritesNode m.layout (s' (cell.Node m)) (node_prefix (s (cell.Node n))) child
  pub rest : WritesOnly s s' (λ c. (c ≡ cell.Node m) ⊎ (c ≡ cell_of x))

-- a node c is written again with the prefix p and its own children
abbrev pub KeepsChildren : Cells → Cells → Link → (Node → List ℕ → Type 0) → Type 0
KeepsChildren s s' (leaf l) P = ⊤
KeepsChildren s s' (node n) P = (p : List ℕ) × P n p × WritesNode n.layout (s' (cell.Node n)) p (child_of n.layout (s (cell.Node n)))

-- node m comes between x and the cell c, with the prefix q; a node c loses q and a
pub record ForkByWords (s s' : Cells) (x : Place) (c : Link) (m : Node) (l a b : ℕ) (q : List ℕ) : Type 0 where
  pub put : WritesPlace s s' x (Some (node m))
  pub made : WritesNode m.layout (s' (cell.Node m)) q (two_children a c b (leaf l))
  pub cut : KeepsChildren s s' c (λ n p. node_prefix (s (cell.Node n)) ≡ q ++ a ∷ p)
  pub rest : WritesOnly s s' (λ d. (d ≡ cell.Node m) ⊎ ((d ≡ cell_of x) ⊎ ((o : Node) × (c ≡ node o) × (d ≡ cell.Node o))))

-- the cell c comes to x in place of node n; a node c gains n's prefix and a
pub record MergeByWords (s s' : Cells) (x : Place) (c : Link) (n : Node) (a : ℕ) : Type 0 where
  pub put : WritesPlace s s' x (Some c)
  pub gains : KeepsChildren s s' c (λ o p. p ≡ node_prefix (s (cell.Node n)) ++ a ∷ node_prefix (s (cell.Node o)))
  pub rest : WritesOnly s s' (λ d. (d ≡ cell_of x) ⊎ ((o : Node) × (c ≡ node o) × (d ≡ cell.Node o)))

-- ---- the laws: written words make the changes of the tree

abbrev pub AddByWords : Type 0
AddByWords = (s s' : Cells) (x : Place) (l : ℕ) → PlaceByWords s s' x (Some (leaf l)) → FitsWord (leaf l) →
    child_at_place (heap_of s) x ≡ None → IsUnlinked (heap_of s) (leaf l) →
    Edits (heap_of s) (heap_of s') x l × (child_at_place (heap_of s') x ≡ Some (leaf l))

abbrev pub DropByWords : Type 0
DropByWords = (s s' : Cells) (x : Place) (l : ℕ) (r : List ℕ) → PlaceByWords s s' x None →
    NamesOnce (heap_of s) → PlaceAt (heap_of s) x r → child_at_place (heap_of s) x ≡ Some (leaf l) →
    Edits (heap_of s) (heap_of s') x l × (child_at_place (heap_of s') x ≡ None)

abbrev pub ReplaceByWords : Type 0
ReplaceByWords = (s s' : Cells) (x : Place) (l i : ℕ) → PlaceByWords s s' x (Some (leaf i)) → FitsWord (leaf i) →
    child_at_place (heap_of s) x ≡ Some (leaf l) → IsUnlinked (heap_of s) (leaf i) →
    Replaces (heap_of s) (heap_of s') x l i

-- what is asked of a node that gives way to another
abbrev pub WayPremises : Cells → Place → List ℕ → Node → Node → Type 0
WayPremises s x r n m = NamesOnce (heap_of s) × PlaceAt (heap_of s) x r × (child_at_place (heap_of s) x ≡ Some (node n)) × IsUnlinked (heap_of s) (node m) × FitsWord (node m)

abbrev pub GrowByWords : Type 0
GrowByWords = (s s' : Cells) (x : Place) (r : List ℕ) (n m : Node) (b l : ℕ) →
    WayByWords s s' x n m (at_byte (child_of n.layout (s (cell.Node n))) b (Some (leaf l))) → WayPremises s x r n m →
    b < 256 → FitsWord (leaf l) → IsUnlinked (heap_of s) (leaf l) → child_at_place (heap_of s) (Slot n b) ≡ None →
    Renews (heap_of s) (heap_of s') x n m b l × (child_at_place (heap_of s') (Slot m b) ≡ Some (leaf l))

abbrev pub ShrinkByWords : Type 0
ShrinkByWords = (s s' : Cells) (x : Place) (r : List ℕ) (n m : Node) (b l : ℕ) →
    WayByWords s s' x n m (at_byte (child_of n.layout (s (cell.Node n))) b None) → WayPremises s x r n m →
    child_at_place (heap_of s) (Slot n b) ≡ Some (leaf l) →
    Renews (heap_of s) (heap_of s') x n m b l × (child_at_place (heap_of s') (Slot m b) ≡ None)

abbrev pub CopyByWords : Type 0
CopyByWords = (s s' : Cells) (x : Place) (r : List ℕ) (n m : Node) →
    WayByWords s s' x n m (child_of n.layout (s (cell.Node n))) → WayPremises s x r n m →
    Copies (heap_of s) (heap_of s') x n m

-- the new node's prefix is q
abbrev pub ForkedByWords : Type 0
ForkedByWords = (s s' : Cells) (x : Place) (r : List ℕ) (c : Link) (m : Node) (l a b : ℕ) (q : List ℕ) →
    ForkByWords s s' x c m l a b q → NamesOnce (heap_of s) → PlaceAt (heap_of s) x r → child_at_place (heap_of s) x ≡ Some c →
    IsUnlinked (heap_of s) (node m) → IsUnlinked (heap_of s) (leaf l) → a < 256 → b < 256 → a ≢ b →
    FitsWord c → FitsWord (node m) → FitsWord (leaf l) →
    Forks (heap_of s) (heap_of s') x c m l a b × ((heap_of s').prefix m ≡ q)

abbrev pub MergedByWords : Type 0
MergedByWords = (s s' : Cells) (x : Place) (r : List ℕ) (c : Link) (n : Node) (l a b : ℕ) →
    MergeByWords s s' x c n a → NamesOnce (heap_of s) → PlaceAt (heap_of s) x r → child_at_place (heap_of s) x ≡ Some (node n) →
    child_at_place (heap_of s) (Slot n a) ≡ Some c → child_at_place (heap_of s) (Slot n b) ≡ Some (leaf l) → a ≢ b →
    ((e : ℕ) → e ≢ a → e ≢ b → child_at_place (heap_of s) (Slot n e) ≡ None) → FitsWord c →
    Merges (heap_of s) (heap_of s') x c n l a b

-- linked cells that mean what they meant are the same tree
pub record SameByWords (s s' : Cells) : Type 0 where
  pub anchor : MeansTheSame cell.Anchor (s cell.Anchor) (s' cell.Anchor)
  pub leaves : (l : ℕ) (p : List ℕ) → StandsAt (heap_of s) (leaf l) p → MeansTheSame (cell.Leaf l) (s (cell.Leaf l)) (s' (cell.Leaf l))
  pub nodes : (n : Node) (p : List ℕ) → StandsAt (heap_of s) (node n) p → MeansTheSame (cell.Node n) (s (cell.Node n)) (s' (cell.Node n))

-- words that are the same after the version mean the same: a leaf has no version
abbrev pub SameBody : Cell → Words → Words → Type 0
SameBody (cell.Leaf l) w w' = (place : ℕ) → w' place ≡ w place
SameBody cell.Anchor w w' = (place : ℕ) → 0 < place → w' place ≡ w place
SameBody (cell.Node n) w w' = (place : ℕ) → 0 < place → w' place ≡ w place
