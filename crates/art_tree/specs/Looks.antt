-- What a look of a range shows.
use Rattle.std.specs.Prelude.{◌≡◌, ◌↔◌, ◌⊎◌, ℕ, ◌+◌, ◌<◌, ◌≤◌, List, [], ◌∷◌, ◌++◌, nat_lt, if◌then◌else◌, Some, None, ⊤}
use Rattle.std.specs.Ordering.{nat_cmp}
use Rattle.std.specs.Cmp.Lexicographic.{slice_cmp}
use Rattle.std.specs.declared.cmp.Ordering.TheVariants.{Less}
use Rattle.art_cell.specs.declared.cells.Node.{Node}
use Rattle.art_cell.specs.declared.cells.Link.TheVariants.{Leaf as leaf}
use Rattle.art_tree.specs.declared.bounds.Bound.{Bound}
use Rattle.art_tree.specs.declared.bounds.Bound.TheVariants.{To, End}
use Rattle.art_tree.specs.Tree.{Heap, path_past, Begins, Row}

abbrev pub Before : List ℕ → List ℕ → Type 0
Before j k = slice_cmp nat_cmp j k ≡ Less

abbrev pub IsBelow : List ℕ → Bound → Type 0
IsBelow k (To q) = Before k q
IsBelow k End = ⊤

-- the range from lo on, before hi
abbrev pub InRange : List ℕ → Bound → List ℕ → Type 0
InRange lo hi k = (Before k lo → ⊥) × IsBelow k hi

-- no row lies in the range
abbrev pub NoneIn : Heap → List ℕ → Bound → Type 0
NoneIn h lo hi = (k : List ℕ) (v : ℕ) → Row h k v → InRange lo hi k → ⊥

-- no row but this one lies in the range
abbrev pub OnlyIn : Heap → List ℕ → Bound → List ℕ → ℕ → Type 0
OnlyIn h lo hi j u = (k : List ℕ) (v : ℕ) → Row h k v → InRange lo hi k → (k ≡ j) × (v ≡ u)

-- ---- the bound just above a text

-- a row's key below hi is before p or begins with it
abbrev pub Caps : Heap → List ℕ → Bound → Type 0
Caps h p hi = (k : List ℕ) (v : ℕ) → Row h k v → IsBelow k hi → Before k p ⊎ Begins p k

-- the byte, and then the bound; where there is none, the next byte, if there is one
abbrev pub raise : ℕ → Bound → Bound
raise a (To q) = To (a ∷ q)
raise a End = if nat_lt a 255 then To ((a + 1) ∷ []) else End

-- the last byte below 255 is raised, and what follows it goes
abbrev pub after : List ℕ → Bound
after [] = End
after (a ∷ p) = raise a (after p)

abbrev pub AreBytes : List ℕ → Type 0
AreBytes [] = ⊤
AreBytes (a ∷ p) = (a < 256) × AreBytes p

-- below `after p` are exactly the byte texts that are before p or begin with it
abbrev pub AfterIsExact : Type 0
AfterIsExact = (p k : List ℕ) → AreBytes p → AreBytes k → IsBelow k (after p) ↔ (Before k p ⊎ Begins p k)

-- no byte text below `after p` is above all byte texts that begin with p
abbrev pub AfterIsLeast : Type 0
AfterIsLeast = (p q : List ℕ) → AreBytes p → AreBytes q → IsBelow q (after p) → ((k : List ℕ) → AreBytes k → Begins p k → Before k q) → ⊥

-- where keys are bytes, `after p` caps p
abbrev pub AfterCaps : Type 0
AfterCaps = (h : Heap) (p : List ℕ) → AreBytes p → ((k : List ℕ) (v : ℕ) → Row h k v → AreBytes k) → Caps h p (after p)

-- ---- the rows of the table of looks

-- no byte from low on, and before high, has a child
abbrev pub NoChildFrom : Heap → Node → ℕ → ℕ → Type 0
NoChildFrom h n low high = (e : ℕ) → low ≤ e → e < high → h.child n e ≡ None

-- at the anchor: no root, and a leaf as the root
pub record LooksAtAnchor (h : Heap) (lo : List ℕ) (hi : Bound) : Type 0 where
  pub empty : h.root ≡ None → NoneIn h lo hi
  pub alone : (l : ℕ) → h.root ≡ Some (leaf l) → OnlyIn h lo hi (h.key l) (h.value l)

-- at node n, whose path r begins lo: its whole path is before lo and does not begin it; it has no child from lo's next byte b
-- on; its least child from b on is a leaf; or a node above b; and the last two with the least child of all, where lo ends
-- within the whole path or is before it
pub record LooksAtNode (h : Heap) (n : Node) (r lo : List ℕ) : Type 0 where
  pub short : (hi : Bound) → Before (r ++ h.prefix n) lo → (Begins (r ++ h.prefix n) lo → ⊥) → Caps h r hi → NoneIn h lo hi
  pub none : (hi : Bound) (b : ℕ) → Begins (path_past h n r b) lo → ((e : ℕ) → b ≤ e → h.child n e ≡ None) → Caps h (r ++ h.prefix n) hi → NoneIn h lo hi
  pub a_leaf : (hi : Bound) (b c l : ℕ) → Begins (path_past h n r b) lo → h.child n c ≡ Some (leaf l) → NoChildFrom h n b c → Caps h (path_past h n r c) hi → OnlyIn h lo hi (h.key l) (h.value l)
  pub a_node : (b c : ℕ) → Begins (path_past h n r b) lo → NoChildFrom h n b c → NoneIn h lo (To (path_past h n r c))
  pub first_leaf : (hi : Bound) (c l : ℕ) → h.child n c ≡ Some (leaf l) → NoChildFrom h n 0 c → Caps h (path_past h n r c) hi → OnlyIn h lo hi (h.key l) (h.value l)
  pub first_node : (c : ℕ) → NoChildFrom h n 0 c → NoneIn h lo (To (path_past h n r c))
