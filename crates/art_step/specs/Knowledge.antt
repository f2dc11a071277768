-- What words are those of a tree, and what a pass knows of them.
use Rattle.std.specs.Prelude.{◌≡◌, ◌⊎◌, ℕ, ◌<◌, ◌≤◌, List, [], length, Option, Some, None}
use Rattle.art_cell.specs.declared.cells.Node.{Node}
use Rattle.art_cell.specs.declared.cells.Cell.{Cell}
use Rattle.art_cell.specs.declared.cells.Cell.TheVariants as cell
use Rattle.art_cell.specs.declared.cells.Link.{Link}
use Rattle.art_cell.specs.declared.cells.Link.TheVariants.{Leaf as leaf, Node as node}
use Rattle.art_step.specs.declared.views.Fact.{Fact}
use Rattle.art_step.specs.declared.views.Fact.TheVariants.{Starts, Word, LeafWord}
use Rattle.art_step.specs.declared.views.Note.{Note}
use Rattle.art_step.specs.declared.views.Sizes.{Sizes}
use Rattle.art_step.specs.declared.views.Stamp.{Stamp}
use Rattle.art_step.specs.declared.views.View.{View}
use Rattle.art_step.specs.declared.deeds.Deed.{Deed}
use Rattle.art_cell.specs.Bodies.{IsBody}
use Rattle.art_cell.specs.Children.{link_of}
use Rattle.art_tree.specs.Heaps.{Cells, heap_of}
use Rattle.art_step.specs.Histories.{IsAnswered, becomes}
use Rattle.art_cell.specs.Leaves.{IsLeaf}
use Rattle.art_tree.specs.Rows.{ByteMap, HasRows}
use Rattle.art_tree.specs.Tree.{Heap, Row, StandsAt, IsTree}
use Rattle.art_step.specs.Views.{Member, IsNumber}
use Rattle.art_cell.specs.Words.{Words, child_of}

-- ---- a tree in words

-- the word names a cell
abbrev pub NamesCell : ℕ → Type 0
NamesCell word = (d : Link) × (link_of word ≡ Some d)

pub record IsNodeCell (n : Node) (w : Words) : Type 0 where
  pub body : IsBody n.layout w
  pub children : (b word : ℕ) → b < 256 → child_of n.layout w b ≡ Some word → NamesCell word

abbrev pub IsLeafCell : Words → Type 0
IsLeafCell w = (k : List ℕ) × (v : ℕ) × IsLeaf w k v × (length k ≤ 64)

-- the cells mean a tree; what is linked has its form, and there is such a cell
pub record IsShape (z : Sizes) (s : Cells) : Type 0 where
  pub tree : IsTree (heap_of s)
  pub anchor : (s cell.Anchor 1 ≡ 0) ⊎ NamesCell (s cell.Anchor 1)
  pub nodes : (n : Node) (p : List ℕ) → StandsAt (heap_of s) (node n) p → IsNodeCell n (s (cell.Node n))
  pub leaves : (l : ℕ) (p : List ℕ) → StandsAt (heap_of s) (leaf l) p → IsLeafCell (s (cell.Leaf l))
  pub numbers : (d : Link) (p : List ℕ) → StandsAt (heap_of s) d p → IsNumber z d

-- ---- facts

-- the path p leads to the cell; the empty one leads to the anchor
abbrev pub CellAt : Cells → Cell → List ℕ → Type 0
CellAt s cell.Anchor p = p ≡ []
CellAt s (cell.Leaf l) p = StandsAt (heap_of s) (leaf l) p
CellAt s (cell.Node n) p = StandsAt (heap_of s) (node n) p

-- the child of a cell at a byte; of the anchor at any
abbrev pub child_at : Heap → Cell → ℕ → Option Link
child_at h cell.Anchor b = h.root
child_at h (cell.Leaf l) b = None
child_at h (cell.Node n) b = h.child n b

-- the cell is in the tree and names the leaf
pub record NamesLeaf (s : Cells) (c : Cell) (l : ℕ) : Type 0 where
  pub path : List ℕ
  pub there : CellAt s c path
  pub byte : ℕ
  pub names : child_at (heap_of s) c byte ≡ Some (leaf l)

-- the fact holds of the cell c
abbrev pub Holds : Cells → Cell → Fact → Type 0
Holds s c (Starts p) = CellAt s c p
Holds s c (Word place value) = s c place ≡ value
Holds s c (LeafWord l place value) = NamesLeaf s c l × (s (cell.Leaf l) place ≡ value)

-- what was noted under the stamp holds
abbrev pub HoldsAll : View → Stamp → Cells → Type 0
HoldsAll v x s = (y : Note) → Member y v.notes → y.stamp ≡ x → Holds s x.cell y.fact

-- it holds of cells that mean a tree, and the keys of all its rows are admitted
pub record HoldsAmong (A : List ℕ → Type 0) (z : Sizes) (v : View) (x : Stamp) : Type 0 where
  pub cells : Cells
  pub shape : IsShape z cells
  pub holds : HoldsAll v x cells
  pub keys : (k : List ℕ) (value : ℕ) → Row (heap_of cells) k value → A k

-- ---- what follows from the notes under a stamp, in whatever tree

-- in each tree in which they hold, and each map with its rows, the event's answer is the map's, and the map stays
abbrev pub DecidesAnswer : Sizes → View → Stamp → Deed → Type 0
DecidesAnswer z v x what = (s : Cells) (m : ByteMap) → IsShape z s → HasRows (heap_of s) m → HoldsAll v x s → IsAnswered m what × (becomes m what ≡ m)

-- in each tree in which they hold, the path p leads to the cell d
abbrev pub KnowsPath : Sizes → View → Stamp → Cell → List ℕ → Type 0
KnowsPath z v x d p = (s : Cells) → IsShape z s → HoldsAll v x s → CellAt s d p

-- in each tree in which they hold, the stamp's cell names the leaf
abbrev pub KnowsLeaf : Sizes → View → Stamp → ℕ → Type 0
KnowsLeaf z v x l = (s : Cells) → IsShape z s → HoldsAll v x s → NamesLeaf s x.cell l
