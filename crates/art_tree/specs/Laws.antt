-- The laws of the tree.
use Rattle.std.specs.Prelude.{◌≡◌, ◌⊎◌, ◌↔◌, ℕ, ◌≤◌, List, length, Some, None}
use Rattle.std.specs.Ordering.{nat_cmp}
use Rattle.std.specs.Cmp.Lexicographic.{slice_cmp}
use Rattle.std.specs.FinMap.{insert, remove, find, is_sorted}
use Rattle.std.specs.Prelude.{T}
use Rattle.art_cell.specs.declared.cells.Node.{Node}
use Rattle.art_cell.specs.declared.cells.Link.{Link}
use Rattle.art_cell.specs.declared.cells.Link.TheVariants.{Leaf as leaf, Node as node}
use Rattle.art_tree.specs.Tree.{Place, Slot, Heap, child_at_place, path_past, StandsAt, PlaceAt, Begins, Row, HasTwo, IsTree}
use Rattle.art_tree.specs.Rows.{ByteMap, HasRows}
use Rattle.art_tree.specs.Changes.{IsUnlinked, Edits, Replaces, Renews, Copies, Forks, Merges, Moves}

-- a change of the heap h to h' does this: it is a tree, the touched cells are where E says and the others where they were,
-- and its rows are those of g where they were those of f
pub record Does (h h' : Heap) (T : Link → Type 0) (E : Link → List ℕ → Type 0) (f g : ByteMap) : Type 0 where
  pub moves : Moves h h' T E
  pub rows : HasRows h f → HasRows h' g

-- ---- the touched cells of each change, and their paths afterwards, where r is the path of the place x

abbrev pub EditTouched : ℕ → Link → Type 0
EditTouched l d = d ≡ leaf l

abbrev pub EditPaths : Heap → Place → ℕ → List ℕ → Link → List ℕ → Type 0
EditPaths h' x l r d p = (d ≡ leaf l) × (p ≡ r) × (child_at_place h' x ≡ Some (leaf l))

abbrev pub ReplaceTouched : ℕ → ℕ → Link → Type 0
ReplaceTouched l i d = (d ≡ leaf l) ⊎ (d ≡ leaf i)

abbrev pub ReplacePaths : ℕ → List ℕ → Link → List ℕ → Type 0
ReplacePaths i r d p = (d ≡ leaf i) × (p ≡ r)

abbrev pub RenewTouched : Node → Node → ℕ → Link → Type 0
RenewTouched n m l d = (d ≡ node n) ⊎ ((d ≡ node m) ⊎ (d ≡ leaf l))

abbrev pub RenewPaths : Heap → Heap → Node → Node → ℕ → ℕ → List ℕ → Link → List ℕ → Type 0
RenewPaths h h' n m b l r d p = ((d ≡ node m) × (p ≡ r)) ⊎ ((d ≡ leaf l) × (p ≡ path_past h n r b) × (h'.child m b ≡ Some (leaf l)))

abbrev pub CopyTouched : Node → Node → Link → Type 0
CopyTouched n m d = (d ≡ node n) ⊎ (d ≡ node m)

abbrev pub CopyPaths : Node → List ℕ → Link → List ℕ → Type 0
CopyPaths m r d p = (d ≡ node m) × (p ≡ r)

abbrev pub ForkTouched : Link → Node → ℕ → Link → Type 0
ForkTouched c m l d = (d ≡ c) ⊎ ((d ≡ node m) ⊎ (d ≡ leaf l))

abbrev pub ForkPaths : Heap → Link → Node → ℕ → ℕ → ℕ → List ℕ → Link → List ℕ → Type 0
ForkPaths h' c m l a b r d p = ((d ≡ c) × (p ≡ path_past h' m r a)) ⊎ (((d ≡ node m) × (p ≡ r)) ⊎ ((d ≡ leaf l) × (p ≡ path_past h' m r b)))

abbrev pub MergeTouched : Link → Node → ℕ → Link → Type 0
MergeTouched c n l d = (d ≡ node n) ⊎ ((d ≡ leaf l) ⊎ (d ≡ c))

abbrev pub MergePaths : Link → List ℕ → Link → List ℕ → Type 0
MergePaths c r d p = (d ≡ c) × (p ≡ r)

-- ---- the changes

-- a leaf comes to a free place, or to the empty anchor
abbrev pub AddLaw : Type 0
AddLaw = (h h' : Heap) (x : Place) (l : ℕ) (r : List ℕ) (f : ByteMap) → IsTree h → PlaceAt h x r → Edits h h' x l →
    child_at_place h x ≡ None → child_at_place h' x ≡ Some (leaf l) → IsUnlinked h (leaf l) → Begins r (h.key l) →
    Does h h' (EditTouched l) (EditPaths h' x l r) f (insert f (h.key l) (h.value l))

-- a leaf goes from the anchor, or from a node that keeps two children
abbrev pub DropLaw : Type 0
DropLaw = (h h' : Heap) (x : Place) (l : ℕ) (r : List ℕ) (f : ByteMap) → IsTree h → PlaceAt h x r → Edits h h' x l →
    child_at_place h x ≡ Some (leaf l) → child_at_place h' x ≡ None → ((n : Node) (b : ℕ) → x ≡ Slot n b → HasTwo h' n) →
    Does h h' (EditTouched l) (EditPaths h' x l r) f (remove f (h.key l))

-- a leaf gives way to another with its key
abbrev pub ReplaceLaw : Type 0
ReplaceLaw = (h h' : Heap) (x : Place) (l i : ℕ) (r : List ℕ) (f : ByteMap) → IsTree h → PlaceAt h x r → Replaces h h' x l i →
    h.key i ≡ h.key l →
    Does h h' (ReplaceTouched l i) (ReplacePaths i r) f (insert f (h.key i) (h.value i))

-- a node gives way to a copy that has a leaf more
abbrev pub GrowLaw : Type 0
GrowLaw = (h h' : Heap) (x : Place) (n m : Node) (b l : ℕ) (r : List ℕ) (f : ByteMap) → IsTree h → PlaceAt h x r → Renews h h' x n m b l →
    h'.child m b ≡ Some (leaf l) → IsUnlinked h (leaf l) → Begins (path_past h n r b) (h.key l) →
    Does h h' (RenewTouched n m l) (RenewPaths h h' n m b l r) f (insert f (h.key l) (h.value l))

-- a node gives way to a copy that has a leaf less, and two children still
abbrev pub ShrinkLaw : Type 0
ShrinkLaw = (h h' : Heap) (x : Place) (n m : Node) (b l : ℕ) (r : List ℕ) (f : ByteMap) → IsTree h → PlaceAt h x r → Renews h h' x n m b l →
    h.child n b ≡ Some (leaf l) → h'.child m b ≡ None → HasTwo h' m →
    Does h h' (RenewTouched n m l) (RenewPaths h h' n m b l r) f (remove f (h.key l))

-- a node gives way to a copy
abbrev pub CopyLaw : Type 0
CopyLaw = (h h' : Heap) (x : Place) (n m : Node) (r : List ℕ) (f : ByteMap) → IsTree h → PlaceAt h x r → Copies h h' x n m →
    Does h h' (CopyTouched n m) (CopyPaths m r) f f

-- a node comes between a place and what it held, a leaf or a node
abbrev pub ForkLaw : Type 0
ForkLaw = (h h' : Heap) (x : Place) (c : Link) (m : Node) (l a b : ℕ) (r : List ℕ) (f : ByteMap) → IsTree h → PlaceAt h x r → Forks h h' x c m l a b →
    ((i : ℕ) → c ≡ leaf i → Begins (path_past h' m r a) (h.key i)) → Begins (path_past h' m r b) (h.key l) → length (h.key l) ≤ 64 →
    Does h h' (ForkTouched c m l) (ForkPaths h' c m l a b r) f (insert f (h.key l) (h.value l))

-- a node that would come down to one child gives way to it
abbrev pub MergeLaw : Type 0
MergeLaw = (h h' : Heap) (x : Place) (c : Link) (n : Node) (l a b : ℕ) (r : List ℕ) (f : ByteMap) → IsTree h → PlaceAt h x r → Merges h h' x c n l a b →
    Does h h' (MergeTouched c n l) (MergePaths c r) f (remove f (h.key l))

-- ---- what changes nothing

-- what is not linked does not matter
pub record FrameLaw (h h' : Heap) : Type 0 where
  pub paths : (c : Link) (r : List ℕ) → StandsAt h c r ↔ StandsAt h' c r
  pub sound : IsTree h → IsTree h'
  pub rows : (f : ByteMap) → HasRows h f → HasRows h' f

-- an ascending list of keys and values, each once
abbrev pub IsAscending : List (List ℕ × ℕ) → Type 0
IsAscending es = T (is_sorted (slice_cmp nat_cmp) es)

-- the list has the rows of the heap
abbrev pub ListsRows : Heap → List (List ℕ × ℕ) → Type 0
ListsRows h es = (k : List ℕ) (v : ℕ) → Row h k v ↔ (find (slice_cmp nat_cmp) k es ≡ Some v)

-- a row whose key begins with the path
pub record RowFrom (h : Heap) (p : List ℕ) : Type 0 where
  pub key : List ℕ
  pub value : ℕ
  pub row : Row h key value
  pub begins : Begins p key
