-- A change of the tree beside which a node gives way to its copy: both are one commit. The copy has the words that the node would have
-- after the change alone, and the node itself is not written.
use Rattle.std.specs.Prelude.{◌≡◌, ◌≢◌, ◌⊎◌, ℕ, List, [], ◌∷◌, ◌++◌, Some, None}
use Rattle.art_cell.specs.declared.cells.Node.{Node}
use Rattle.art_cell.specs.declared.cells.Cell.TheVariants as cell
use Rattle.art_cell.specs.declared.cells.Link.{Link}
use Rattle.art_cell.specs.declared.cells.Link.TheVariants.{Node as node}
use Rattle.art_step.specs.declared.views.Holding.{Holding}
use Rattle.art_step.specs.declared.views.Sizes.{Sizes}
use Rattle.art_step.specs.declared.views.View.{View}
use Rattle.art_step.specs.declared.deeds.Deed.{Deed}
use Rattle.art_commit.specs.CommitLaws.{HasNode}
use Rattle.art_step.specs.Knowledge.{IsShape}
use Rattle.art_step.specs.Steps.Commit as commit
use Rattle.art_step.specs.Steps.Commit.{AllNew, Commits, IsLinked, Knows}
use Rattle.art_step.specs.Views.{IsNotHeld, Member, words_in}
use Rattle.art_cell.specs.Bodies.{IsBody}
use Rattle.art_cell.specs.Words.{child_of}
use Rattle.art_tree.specs.Heaps.{Cells, heap_of, node_prefix}
use Rattle.art_tree.specs.Tree.{Place, PlaceAt, child_at_place}
use Rattle.art_tree.specs.WordChanges.{WritesNode, WritesPlace, cell_of}

-- the cell is held as h is, with other new words perhaps
pub record IsHeldAs (hs : List Holding) (h : Holding) : Type 0 where
  pub holding : Holding
  pub has : Member holding hs
  pub cell : holding.cell ≡ h.cell
  pub stamped : holding.stamped ≡ h.stamped
  pub old : holding.old ≡ h.old

-- the pass as it stands for the change alone, which holds the cells of hs
abbrev pub for_change : View → List Holding → View
for_change v hs = record v { held = hs }

-- what the pass holds: the cells of hs for the change; the node n, which gives way; its copy m, which was claimed; and the cell of the
-- place x, which names n after the change alone and m after both. After the change alone n would have the words ns, and the cell of x
-- the words xs: what the change does not write keeps its words
pub record IsBeside (v : View) (hs : List Holding) (n m : Node) (x : Place) (worn copy above : Holding) (ns xs : List ℕ) : Type 0 where
  pub worn_held : Member worn v.held
  pub worn_is : worn.cell ≡ cell.Node n
  pub worn_stamped : (i : ℕ) × (worn.stamped ≡ Some i)
  pub worn_words : (h : Holding) → Member h hs → h.cell ≡ cell.Node n → h.new ≡ ns
  pub worn_rests : IsNotHeld hs (cell.Node n) → ns ≡ worn.old
  pub copy_held : Member copy v.held
  pub copy_is : copy.cell ≡ cell.Node m
  pub above_held : Member above v.held
  pub above_is : above.cell ≡ cell_of x
  pub above_claimed : above.stamped ≡ None → IsHeldAs hs above
  pub above_words : (h : Holding) → Member h hs → h.cell ≡ cell_of x → h.new ≡ xs
  pub above_rests : IsNotHeld hs (cell_of x) → xs ≡ above.old
  pub single : (h k : Holding) → Member h hs → Member k hs → h.cell ≡ k.cell → h ≡ k
  pub part : (h : Holding) → Member h hs → IsHeldAs v.held h
  pub rest : (h : Holding) → Member h v.held → IsHeldAs hs h ⊎ ((h ≡ worn) ⊎ ((h ≡ copy) ⊎ (h ≡ above)))
  pub stays : (h k : Holding) → Member h hs → Member k v.held → h.cell ≡ k.cell → h.cell ≢ cell.Node n → h.cell ≢ cell_of x → h.new ≡ k.new
  pub apart : n ≢ m
  pub not_copy : IsNotHeld hs (cell.Node m)
  pub above_apart : cell_of x ≢ cell.Node n
  pub above_other : cell_of x ≢ cell.Node m

-- what is written: the place names the copy, whose words are those that n has after the change alone, a node's
pub record WritesCopy (n m : Node) (x : Place) (copy above : Holding) (ns xs : List ℕ) : Type 0 where
  pub put : (t s' : Cells) → t (cell_of x) ≡ words_in xs → s' (cell_of x) ≡ words_in above.new → WritesPlace t s' x (Some (node m))
  pub made : IsBody n.layout (words_in ns) → WritesNode m.layout (words_in copy.new) (node_prefix (words_in ns)) (child_of n.layout (words_in ns))

-- the place x is in the tree, and names n there
pub record Names (t : Cells) (x : Place) (n : Node) : Type 0 where
  pub path : List ℕ
  pub at : PlaceAt (heap_of t) x path
  pub names : child_at_place (heap_of t) x ≡ Some (node n)

-- where the change alone may be made, the change and the renewal may be made: n, which was in the tree, leaves it too, and m comes. The
-- change does not bring m, and x names n in each tree that the change may leave
abbrev pub MayRenew : Type 0
MayRenew = (z : Sizes) (v : View) (what : Deed) (us ls : List Link) (hs : List Holding) (n m : Node) (x : Place) (worn copy above : Holding)
    (ns xs : List ℕ) → IsBeside v hs n m x worn copy above ns xs → HasNode z v m → WritesCopy n m x copy above ns xs →
    (Member (node m) ls → ⊥) → ((s : Cells) → IsShape z s → Knows v s → IsLinked s (node n)) →
    ((s t : Cells) → IsShape z s → Knows v s → AllNew hs s t → Commits z (for_change v hs) what us ls s t → Names t x n) →
    commit.May z (for_change v hs) what us ls → commit.May z v what (us ++ node n ∷ []) (ls ++ node m ∷ [])

-- a node that stood at the place x, whose cell the change does not write, stands there after it
abbrev pub StaysNamed : Type 0
StaysNamed = (z : Sizes) (v : View) (what : Deed) (us ls : List Link) (hs : List Holding) (n : Node) (x : Place) (s t : Cells) →
    IsNotHeld hs (cell_of x) → Names s x n → AllNew hs s t → Commits z (for_change v hs) what us ls s t → Names t x n
