-- Any change of the tree: what it touches, what it writes, and what it makes of the rows.
use Rattle.std.specs.Prelude.{◌≡◌, ◌⊎◌, ◌↔◌, ℕ, List, None}
use Rattle.art_cell.specs.declared.cells.Node.{Node}
use Rattle.art_cell.specs.declared.cells.Cell.{Cell}
use Rattle.art_cell.specs.declared.cells.Cell.TheVariants as cell
use Rattle.art_cell.specs.declared.cells.Link.{Link}
use Rattle.art_cell.specs.declared.cells.Link.TheVariants.{Leaf as leaf, Node as node}
use Rattle.art_step.specs.declared.views.Holding.{Holding}
use Rattle.art_step.specs.declared.views.InHand.{InHand}
use Rattle.art_step.specs.declared.views.Sizes.{Sizes}
use Rattle.art_step.specs.declared.views.View.{View}
use Rattle.art_step.specs.declared.deeds.Deed.{Deed}
use Rattle.art_tree.specs.Heaps.{Cells}
use Rattle.art_step.specs.Histories.{IsAnswered, becomes}
use Rattle.art_step.specs.Knowledge.{NamesCell, IsNodeCell, IsLeafCell}
use Rattle.art_tree.specs.Rows.{ByteMap, HasRows}
use Rattle.art_step.specs.Steps.Commit.{IsLinked}
use Rattle.art_tree.specs.Tree.{Heap}
use Rattle.art_step.specs.Views.{Member, IsNumber}

-- ---- what the pass has

-- the number is in hand
abbrev pub IsInHand : View → Link → Type 0
IsInHand v d = (i : InHand) × Member i v.hand × (i.link ≡ d)

-- the cell is held
abbrev pub IsHeld : View → Cell → Type 0
IsHeld v c = (h : Holding) × Member h v.held × (h.cell ≡ c)

-- the node is held, and was claimed
abbrev pub IsClaimed : View → Node → Type 0
IsClaimed v n = (h : Holding) × Member h v.held × (h.stamped ≡ None) × (h.cell ≡ cell.Node n)

-- ---- what it touches

-- the lists have the same members
abbrev pub SameMembers : List Link → List Link → Type 0
SameMembers ds es = (d : Link) → Member d ds ↔ Member d es

-- T are the touched cells, and E says where they stand after the change: those of us were linked and stand nowhere then,
-- those of ls are in hand and stand somewhere, the others that were linked stand somewhere, and no others do; a linked node
-- that is touched is held
pub record Touches (v : View) (us ls : List Link) (s : Cells) (T : Link → Type 0) (E : Link → List ℕ → Type 0) : Type 0 where
  pub leaves : (d : Link) → Member d us → T d × IsLinked s d × ((r : List ℕ) → E d r → ⊥)
  pub comes : (d : Link) → Member d ls → ((r : List ℕ) × E d r) × IsInHand v d
  pub stays : (d : Link) → IsLinked s d → (T d → ⊥) ⊎ (Member d us ⊎ ((r : List ℕ) × E d r))
  pub linked : (d : Link) (r : List ℕ) → E d r → Member d ls ⊎ IsLinked s d
  pub held : (n : Node) → IsLinked s (node n) → T (node n) → IsHeld v (cell.Node n)

-- ---- what it writes

-- the cell of the link has its form
abbrev pub IsFormed : Cells → Link → Type 0
IsFormed s (leaf l) = IsLeafCell (s (cell.Leaf l))
IsFormed s (node n) = IsNodeCell n (s (cell.Node n))

-- the anchor names a cell, or none
abbrev pub IsAnchorFormed : Cells → Type 0
IsAnchorFormed s = (s cell.Anchor 1 ≡ 0) ⊎ NamesCell (s cell.Anchor 1)

-- where P holds it writes words of cells of a tree, and of no leaf; the numbers of ls are such, and their cells have their form
pub record Forms (z : Sizes) (ls : List Link) (s s' : Cells) (P : Cell → Type 0) : Type 0 where
  pub anchor : IsAnchorFormed s'
  pub nodes : (n : Node) → IsLinked s (node n) → P (cell.Node n) → IsNodeCell n (s' (cell.Node n))
  pub no_leaf : (l : ℕ) → P (cell.Leaf l) → ⊥
  pub new : (d : Link) → Member d ls → IsNumber z d × IsFormed s' d

-- ---- what it makes of the rows

-- each map with the rows of h answers as the event says, and h' has the rows after it
abbrev pub RowsBy : Heap → Heap → Deed → Type 0
RowsBy h h' what = (f : ByteMap) → HasRows h f → IsAnswered f what × HasRows h' (becomes f what)
