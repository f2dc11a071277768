-- The changes of one insert or removal, each by the cells that it writes.
use Rattle.std.specs.Prelude.{◌≡◌, ◌≢◌, ◌⊎◌, ℕ, List, ◌∷◌, ◌++◌, Some, None}
use Rattle.art_cell.specs.declared.cells.Node.{Node}
use Rattle.art_cell.specs.declared.cells.Link.{Link}
use Rattle.art_cell.specs.declared.cells.Link.TheVariants.{Leaf as leaf, Node as node}
use Rattle.art_tree.specs.Tree.{Place, Slot, Heap, child_at_place, StandsAt, PlaceAt, IsTree}

-- no path leads to the cell
abbrev pub IsUnlinked : Heap → Link → Type 0
IsUnlinked h c = (r : List ℕ) → StandsAt h c r → ⊥

-- leaves stay as they are
pub record SameLeaves (h h' : Heap) : Type 0 where
  pub keys : (l : ℕ) → h'.key l ≡ h.key l
  pub values : (l : ℕ) → h'.value l ≡ h.value l

-- no other place of the tree names the cell
abbrev pub NamedOnlyAt : Heap → Link → Place → Type 0
NamedOnlyAt h c x = (y : Place) (r : List ℕ) → PlaceAt h y r → child_at_place h y ≡ Some c → y ≡ x

-- the leaf l, or none, at the place x, and all else as it was
pub record Edits (h h' : Heap) (x : Place) (l : ℕ) : Type 0 where
  pub old : (d : Link) → child_at_place h x ≡ Some d → d ≡ leaf l
  pub new : (d : Link) → child_at_place h' x ≡ Some d → d ≡ leaf l
  pub rest : (y : Place) → y ≢ x → child_at_place h' y ≡ child_at_place h y
  pub prefixes : (n : Node) → h'.prefix n ≡ h.prefix n
  pub leaves : SameLeaves h h'
  pub only : NamedOnlyAt h (leaf l) x

-- the leaf l at x gives way to the leaf i
pub record Replaces (h h' : Heap) (x : Place) (l i : ℕ) : Type 0 where
  pub was : child_at_place h x ≡ Some (leaf l)
  pub now : child_at_place h' x ≡ Some (leaf i)
  pub rest : (y : Place) → y ≢ x → child_at_place h' y ≡ child_at_place h y
  pub prefixes : (n : Node) → h'.prefix n ≡ h.prefix n
  pub leaves : SameLeaves h h'
  pub new : IsUnlinked h (leaf i)

-- node n at x gives way to m, which was free and has n's prefix
pub record GivesWay (h h' : Heap) (x : Place) (n m : Node) : Type 0 where
  pub was : child_at_place h x ≡ Some (node n)
  pub now : child_at_place h' x ≡ Some (node m)
  pub prefix : h'.prefix m ≡ h.prefix n
  pub rest : (y : Place) → y ≢ x → ((a : ℕ) → y ≢ Slot m a) → child_at_place h' y ≡ child_at_place h y
  pub prefixes : (o : Node) → o ≢ m → h'.prefix o ≡ h.prefix o
  pub leaves : SameLeaves h h'
  pub fresh : IsUnlinked h (node m)

-- and m has n's children but for the leaf l, or none, at b
pub record Renews (h h' : Heap) (x : Place) (n m : Node) (b l : ℕ) : Type 0 where
  pub gives_way : GivesWay h h' x n m
  pub old : (d : Link) → h.child n b ≡ Some d → d ≡ leaf l
  pub new : (d : Link) → h'.child m b ≡ Some d → d ≡ leaf l
  pub same : (a : ℕ) → a ≢ b → h'.child m a ≡ h.child n a
  pub only : NamedOnlyAt h (leaf l) (Slot n b)

-- and m has n's children
pub record Copies (h h' : Heap) (x : Place) (n m : Node) : Type 0 where
  pub gives_way : GivesWay h h' x n m
  pub same : (a : ℕ) → h'.child m a ≡ h.child n a

-- above the cell c at x comes node m, which was free: c at byte a and the new leaf l at byte b; a node c loses m's prefix and a
pub record Forks (h h' : Heap) (x : Place) (c : Link) (m : Node) (l a b : ℕ) : Type 0 where
  pub was : child_at_place h x ≡ Some c
  pub now : child_at_place h' x ≡ Some (node m)
  pub one : h'.child m a ≡ Some c
  pub two : h'.child m b ≡ Some (leaf l)
  pub none : (e : ℕ) → e ≢ a → e ≢ b → h'.child m e ≡ None
  pub apart : a ≢ b
  pub short : (n : Node) → c ≡ node n → h.prefix n ≡ h'.prefix m ++ a ∷ h'.prefix n
  pub rest : (y : Place) → y ≢ x → ((e : ℕ) → y ≢ Slot m e) → child_at_place h' y ≡ child_at_place h y
  pub prefixes : (o : Node) → o ≢ m → c ≢ node o → h'.prefix o ≡ h.prefix o
  pub leaves : SameLeaves h h'
  pub fresh : IsUnlinked h (node m)
  pub new : IsUnlinked h (leaf l)

-- node n at x, which has the cell c at a and the leaf l at b alone, gives way to c; a node c gains n's prefix and a
pub record Merges (h h' : Heap) (x : Place) (c : Link) (n : Node) (l a b : ℕ) : Type 0 where
  pub was : child_at_place h x ≡ Some (node n)
  pub one : h.child n a ≡ Some c
  pub two : h.child n b ≡ Some (leaf l)
  pub none : (e : ℕ) → e ≢ a → e ≢ b → h.child n e ≡ None
  pub apart : a ≢ b
  pub now : child_at_place h' x ≡ Some c
  pub longer : (o : Node) → c ≡ node o → h'.prefix o ≡ h.prefix n ++ a ∷ h.prefix o
  pub rest : (y : Place) → y ≢ x → child_at_place h' y ≡ child_at_place h y
  pub prefixes : (o : Node) → c ≢ node o → h'.prefix o ≡ h.prefix o
  pub leaves : SameLeaves h h'

-- after a change: the touched cells are where E says, all others where they were, and it is a tree
pub record Moves (h h' : Heap) (T : Link → Type 0) (E : Link → List ℕ → Type 0) : Type 0 where
  pub sound : IsTree h'
  pub others : (d : Link) (r : List ℕ) → (T d → ⊥) → StandsAt h d r → StandsAt h' d r
  pub linked : (d : Link) (r : List ℕ) → StandsAt h' d r → (T d × E d r) ⊎ ((T d → ⊥) × StandsAt h d r)
  pub touched : (d : Link) (r : List ℕ) → E d r → StandsAt h' d r

-- the heaps agree on what is linked
pub record SameTree (h h' : Heap) : Type 0 where
  pub root : h'.root ≡ h.root
  pub child : (n : Node) (p : List ℕ) (b : ℕ) → StandsAt h (node n) p → h'.child n b ≡ h.child n b
  pub prefix : (n : Node) (p : List ℕ) → StandsAt h (node n) p → h'.prefix n ≡ h.prefix n
  pub key : (l : ℕ) (p : List ℕ) → StandsAt h (leaf l) p → h'.key l ≡ h.key l
  pub value : (l : ℕ) (p : List ℕ) → StandsAt h (leaf l) p → h'.value l ≡ h.value l
