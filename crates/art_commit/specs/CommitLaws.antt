-- Each change of the tree, written by a pass that holds the cells which it changes and no others, is a commit of its
-- command: what the commit's premise asks follows from the words that are written.
use Rattle.std.specs.Prelude.{◌≡◌, ◌≢◌, ◌⊎◌, ◌↔◌, ℕ, ◌<◌, ◌≤◌, List, [], ◌∷◌, ◌++◌, length, Option, Some, None}
use Rattle.std.specs.FinMap.{insert}
use Rattle.art_cell.specs.declared.cells.Node.{Node}
use Rattle.art_cell.specs.declared.cells.Cell.{Cell}
use Rattle.art_cell.specs.declared.cells.Cell.TheVariants as cell
use Rattle.art_cell.specs.declared.cells.Link.{Link}
use Rattle.art_cell.specs.declared.cells.Link.TheVariants.{Leaf as leaf, Node as node}
use Rattle.art_model.specs.declared.commands.Answer.TheVariants.{Inserted, Removed}
use Rattle.art_step.specs.Deeds.{key_of}
use Rattle.art_step.specs.declared.deeds.Act.TheVariants.{Insert, Remove}
use Rattle.art_step.specs.declared.views.Holding.{Holding}
use Rattle.art_step.specs.declared.views.InHand.{InHand}
use Rattle.art_step.specs.declared.views.Sizes.{Sizes}
use Rattle.art_step.specs.declared.views.View.{View}
use Rattle.art_step.specs.declared.deeds.Deed.{Deed}
use Rattle.art_step.specs.declared.deeds.Deed.TheVariants.{Done}
use Rattle.art_commit.specs.AnyChange.{IsHeld, IsClaimed, SameMembers, Touches, Forms, RowsBy}
use Rattle.art_tree.specs.Changes.{Moves}
use Rattle.art_tree.specs.Heaps.{Cells, node_prefix, heap_of}
use Rattle.art_step.specs.Histories.{IsAnswered, becomes}
use Rattle.art_step.specs.Knowledge.{IsShape}
use Rattle.art_cell.specs.Leaves.{IsLeaf}
use Rattle.art_tree.specs.Rows.{ByteMap, HasRows}
use Rattle.art_step.specs.Steps.Commit.{coming, Knows, AllNew, Commits}
use Rattle.art_tree.specs.Tree.{Place, Slot, child_at_place, path_past, PlaceAt, Begins, HasTwo}
use Rattle.art_step.specs.Views.{IsOnce, Member, IsNumber, words_in}
use Rattle.art_tree.specs.WordChanges.{FitsWord, at_byte, WritesPlace, WritesNode, two_children, cell_of, KeepsChildren}
use Rattle.art_cell.specs.Words.{child_of}

-- ---- what the pass has

-- a tree as the pass knows it, and the same with the new words of all cells that it holds
pub record Before (z : Sizes) (v : View) (s s' : Cells) : Type 0 where
  pub shape : IsShape z s
  pub knows : Knows v s
  pub new : AllNew v.held s s'

-- the leaf l is in hand, with the words of this key and value
pub record HasLeaf (z : Sizes) (v : View) (l : ℕ) (k : List ℕ) (value : ℕ) : Type 0 where
  pub hand : InHand
  pub has : Member hand v.hand
  pub link : hand.link ≡ leaf l
  pub words : IsLeaf (words_in hand.words) k value
  pub short : length k ≤ 64
  pub number : IsNumber z (leaf l)
  pub fits : FitsWord (leaf l)

-- the node m is in hand
pub record HasNode (z : Sizes) (v : View) (m : Node) : Type 0 where
  pub hand : InHand
  pub has : Member hand v.hand
  pub link : hand.link ≡ node m
  pub number : IsNumber z (node m)
  pub fits : FitsWord (node m)

-- the pass holds each of these cells, and no others
pub record HoldsJust (v : View) (P : Cell → Type 0) : Type 0 where
  pub each : (c : Cell) → P c → (h : Holding) × Member h v.held × (h.cell ≡ c)
  pub only : (h : Holding) → Member h v.held → P h.cell

-- of the nodes that it holds it claimed none but these
abbrev pub ClaimedAmong : View → (Node → Type 0) → Type 0
ClaimedAmong v P = (h : Holding) (n : Node) → Member h v.held → h.stamped ≡ None → h.cell ≡ cell.Node n → P n

-- the node that a link names, if it does
abbrev pub IsItsNode : Link → Cell → Type 0
IsItsNode c d = (n : Node) × (c ≡ node n) × (d ≡ cell.Node n)

-- ---- the law of all changes

-- a change that touches the cells of ts, which stand where es says afterwards, each with its path, is a commit
abbrev pub AnyCommits : Type 0
AnyCommits = (z : Sizes) (v : View) (s s' : Cells) (what : Deed) (us ls ts : List Link) (es : List (Link × List ℕ)) → Before z v s s' →
    ClaimedAmong v (λ n. Member (node n) ls) → IsOnce us →
    Moves (heap_of s) (heap_of s') (λ d. Member d ts) (λ d p. Member (d, p) es) → RowsBy (heap_of s) (heap_of s') what →
    Touches v us ls s (λ d. Member d ts) (λ d p. Member (d, p) es) → Forms z ls s s' (IsHeld v) →
    Commits z v what us ls s s'

-- a commit looks at the members of what leaves and of what comes, not at their order
abbrev pub SameCommits : Type 0
SameCommits = (z : Sizes) (v : View) (what : Deed) (us us' ls ls' : List Link) (s s' : Cells) → SameMembers us us' → IsOnce us' → SameMembers ls ls' →
    Commits z v what us ls s s' → Commits z v what us' ls' s s'

-- what comes with a commit is its leaf, where it has one, and each node that the pass claimed
abbrev pub ClaimedNodesCome : Type 0
ClaimedNodesCome = (v : View) (o : Option Link) (d : Link) → Member d (coming v o) ↔ ((o ≡ Some d) ⊎ ((n : Node) × (d ≡ node n) × IsClaimed v n))

-- ---- each change: x is the place that is written, r its path

-- a leaf comes to a free place
abbrev pub AddCommits : Type 0
AddCommits = (z : Sizes) (v : View) (s s' : Cells) (x : Place) (r : List ℕ) (l : ℕ) (k : List ℕ) (value : ℕ) → Before z v s s' →
    HasLeaf z v l k value → HoldsJust v (λ c. c ≡ cell_of x) → ClaimedAmong v (λ n. ⊥) →
    WritesPlace s s' x (Some (leaf l)) → PlaceAt (heap_of s) x r → child_at_place (heap_of s) x ≡ None → Begins r k →
    Commits z v (Done (Insert (key_of k) value) Inserted) [] (leaf l ∷ []) s s'

-- a leaf goes from the anchor, or from a node that keeps two children
abbrev pub DropCommits : Type 0
DropCommits = (z : Sizes) (v : View) (s s' : Cells) (x : Place) (r : List ℕ) (l : ℕ) → Before z v s s' →
    HoldsJust v (λ c. c ≡ cell_of x) → ClaimedAmong v (λ n. ⊥) →
    WritesPlace s s' x None → PlaceAt (heap_of s) x r → child_at_place (heap_of s) x ≡ Some (leaf l) →
    ((n : Node) (b : ℕ) → x ≡ Slot n b → HasTwo (heap_of s') n) →
    Commits z v (Done (Remove (key_of ((heap_of s).key l))) (Removed ((heap_of s).value l))) (leaf l ∷ []) [] s s'

-- a leaf gives way to another with its key: the event is one that gives the key the other's value
abbrev pub ReplaceCommits : Type 0
ReplaceCommits = (z : Sizes) (v : View) (s s' : Cells) (x : Place) (r : List ℕ) (l i : ℕ) (k : List ℕ) (value : ℕ) (what : Deed) → Before z v s s' →
    HasLeaf z v i k value → HoldsJust v (λ c. c ≡ cell_of x) → ClaimedAmong v (λ n. ⊥) →
    WritesPlace s s' x (Some (leaf i)) → PlaceAt (heap_of s) x r → child_at_place (heap_of s) x ≡ Some (leaf l) → (heap_of s).key l ≡ k →
    ((f : ByteMap) → HasRows (heap_of s) f → IsAnswered f what × (becomes f what ≡ insert f k value)) →
    Commits z v what (leaf l ∷ []) (leaf i ∷ []) s s'

-- node n at x gives way to m, which has its children and one leaf more
abbrev pub GrowCommits : Type 0
GrowCommits = (z : Sizes) (v : View) (s s' : Cells) (x : Place) (r : List ℕ) (n m : Node) (b l : ℕ) (k : List ℕ) (value : ℕ) → Before z v s s' →
    HasLeaf z v l k value → HasNode z v m → HoldsJust v (λ c. (c ≡ cell.Node n) ⊎ ((c ≡ cell.Node m) ⊎ (c ≡ cell_of x))) → ClaimedAmong v (λ o. o ≡ m) →
    s' (cell.Node n) ≡ s (cell.Node n) → WritesPlace s s' x (Some (node m)) →
    WritesNode m.layout (s' (cell.Node m)) (node_prefix (s (cell.Node n))) (at_byte (child_of n.layout (s (cell.Node n))) b (Some (leaf l))) →
    PlaceAt (heap_of s) x r → child_at_place (heap_of s) x ≡ Some (node n) → b < 256 → child_at_place (heap_of s) (Slot n b) ≡ None → Begins (path_past (heap_of s) n r b) k →
    Commits z v (Done (Insert (key_of k) value) Inserted) (node n ∷ []) (leaf l ∷ node m ∷ []) s s'

-- node n at x gives way to m, which has its children but for one leaf, and two still
abbrev pub ShrinkCommits : Type 0
ShrinkCommits = (z : Sizes) (v : View) (s s' : Cells) (x : Place) (r : List ℕ) (n m : Node) (b l : ℕ) → Before z v s s' →
    HasNode z v m → HoldsJust v (λ c. (c ≡ cell.Node n) ⊎ ((c ≡ cell.Node m) ⊎ (c ≡ cell_of x))) → ClaimedAmong v (λ o. o ≡ m) →
    s' (cell.Node n) ≡ s (cell.Node n) → WritesPlace s s' x (Some (node m)) →
    WritesNode m.layout (s' (cell.Node m)) (node_prefix (s (cell.Node n))) (at_byte (child_of n.layout (s (cell.Node n))) b None) →
    PlaceAt (heap_of s) x r → child_at_place (heap_of s) x ≡ Some (node n) → child_at_place (heap_of s) (Slot n b) ≡ Some (leaf l) → HasTwo (heap_of s') m →
    Commits z v (Done (Remove (key_of ((heap_of s).key l))) (Removed ((heap_of s).value l))) (node n ∷ leaf l ∷ []) (node m ∷ []) s s'

-- node n at x gives way to m, which has its children: the rows stay, so the event is one that changes no row
abbrev pub CopyCommits : Type 0
CopyCommits = (z : Sizes) (v : View) (s s' : Cells) (x : Place) (r : List ℕ) (n m : Node) (what : Deed) → Before z v s s' →
    HasNode z v m → HoldsJust v (λ c. (c ≡ cell.Node n) ⊎ ((c ≡ cell.Node m) ⊎ (c ≡ cell_of x))) → ClaimedAmong v (λ o. o ≡ m) →
    s' (cell.Node n) ≡ s (cell.Node n) → WritesPlace s s' x (Some (node m)) →
    WritesNode m.layout (s' (cell.Node m)) (node_prefix (s (cell.Node n))) (child_of n.layout (s (cell.Node n))) →
    PlaceAt (heap_of s) x r → child_at_place (heap_of s) x ≡ Some (node n) →
    ((f : ByteMap) → HasRows (heap_of s) f → IsAnswered f what × (becomes f what ≡ f)) →
    Commits z v what (node n ∷ []) (node m ∷ []) s s'

-- node m comes between x and the cell c, with the prefix q, c at byte a and the new leaf at byte b; a node c loses q and a
abbrev pub ForkCommits : Type 0
ForkCommits = (z : Sizes) (v : View) (s s' : Cells) (x : Place) (r : List ℕ) (c : Link) (m : Node) (l a b : ℕ) (q k : List ℕ) (value : ℕ) → Before z v s s' →
    HasLeaf z v l k value → HasNode z v m → HoldsJust v (λ d. (d ≡ cell.Node m) ⊎ ((d ≡ cell_of x) ⊎ IsItsNode c d)) → ClaimedAmong v (λ o. o ≡ m) →
    WritesPlace s s' x (Some (node m)) → WritesNode m.layout (s' (cell.Node m)) q (two_children a c b (leaf l)) →
    KeepsChildren s s' c (λ n p. node_prefix (s (cell.Node n)) ≡ q ++ a ∷ p) →
    PlaceAt (heap_of s) x r → child_at_place (heap_of s) x ≡ Some c → a < 256 → b < 256 → a ≢ b →
    ((i : ℕ) → c ≡ leaf i → Begins (r ++ q ++ a ∷ []) ((heap_of s).key i)) → Begins (r ++ q ++ b ∷ []) k →
    Commits z v (Done (Insert (key_of k) value) Inserted) [] (leaf l ∷ node m ∷ []) s s'

-- node n at x, which has the cell c at a and the leaf l at b alone, gives way to c; a node c gains n's prefix and a
abbrev pub MergeCommits : Type 0
MergeCommits = (z : Sizes) (v : View) (s s' : Cells) (x : Place) (r : List ℕ) (c : Link) (n : Node) (l a b : ℕ) → Before z v s s' →
    HoldsJust v (λ d. (d ≡ cell.Node n) ⊎ ((d ≡ cell_of x) ⊎ IsItsNode c d)) → ClaimedAmong v (λ n. ⊥) →
    s' (cell.Node n) ≡ s (cell.Node n) → WritesPlace s s' x (Some c) →
    KeepsChildren s s' c (λ o p. p ≡ node_prefix (s (cell.Node n)) ++ a ∷ node_prefix (s (cell.Node o))) →
    PlaceAt (heap_of s) x r → child_at_place (heap_of s) x ≡ Some (node n) → child_at_place (heap_of s) (Slot n a) ≡ Some c → child_at_place (heap_of s) (Slot n b) ≡ Some (leaf l) → a ≢ b →
    ((e : ℕ) → e ≢ a → e ≢ b → child_at_place (heap_of s) (Slot n e) ≡ None) →
    Commits z v (Done (Remove (key_of ((heap_of s).key l))) (Removed ((heap_of s).value l))) (node n ∷ leaf l ∷ []) [] s s'
