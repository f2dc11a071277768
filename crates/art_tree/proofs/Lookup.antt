-- What a descent by a key has found.
use Rattle.std.proofs.Common.{◌≡◌, ◌≢◌, ℕ, ◌<◌, ◌≤◌, List, [], ◌∷◌, ◌++◌, length, Some, None, refl, sym, ap, ◌∙◌, subst, length-append, ⊎_elim, arith}
use Rattle.std.proofs.lemmas.Bool.{cases_lt}
use Rattle.art_cell.specs.declared.cells.Node.{Node}
use Rattle.art_cell.specs.declared.cells.Link.{Link}
use Rattle.art_cell.specs.declared.cells.Link.TheVariants.{Leaf as leaf, Node as node}
use Rattle.art_tree.specs.Tree.{Place, Top, Slot, Heap, child_at_place, path_past, StandsAt, PlaceAt, Begins, Row, IsTree}
use Rattle.art_tree.specs.Rows.{IsAbsent}
use Rattle.art_tree.proofs.Paths.{Under, here, go, next_byte, begins_more, begins_trans, under_begins, from_root, length_past, on_the_way}

-- a leaf has nothing below it
leaf_under : (h : Heap) (m : ℕ) (c d : Link) (p r : List ℕ) → c ≡ leaf m → Under h c p d r → c ≡ d
leaf_under h m c d p r is (here ec ep) = ec
leaf_under h m c d p r is (go b first u) = absurd (cc)

abbrev pub WayOn : Heap → Node → List ℕ → List ℕ → Type 0
WayOn h n p k = (b : ℕ) × (e : Link) × (h.child n b ≡ Some e) × Begins (path_past h n p b) k

node_under : (h : Heap) (n : Node) (m : ℕ) (c d : Link) (p r k : List ℕ) → c ≡ node n → d ≡ leaf m → Under h c p d r → Begins r k → WayOn h n p k
node_under h n m c d p r k is is' (here ec ep) f = absurd (cc)
node_under h n m c d p r k is is' (go {n = i} {e = e} b first u) f =
    let same : i ≡ n = cc in
    subst (λ x. WayOn h x p k) same (b, e, first, begins_trans (path_past h i p b) r k (under_begins h e d (path_past h i p b) r u) f)

row_begins : (h : Heap) (s : IsTree h) (k : List ℕ) (v : ℕ) (w : Row h k v) → Begins w.path k
row_begins h s k v w = subst (λ x. Begins w.path x) w.key (s.spelled w.number w.path w.at)

-- a key's way leads to a leaf: the row of the key, if any, is that leaf
pub row_at_leaf : (h : Heap) (n : ℕ) (p k : List ℕ) (v : ℕ) → IsTree h → StandsAt h (leaf n) p → Begins p k → (w : Row h k v) → w.number ≡ n
row_at_leaf h n p k v s at f w =
    ⊎_elim
    (λ (lt : length w.path < length p). let same = leaf_under h w.number (leaf w.number) (leaf n) w.path p refl (on_the_way h (leaf w.number) (leaf n) w.path p k w.at at (row_begins h s k v w) f (omega arith)) in cc)
    (λ (ge : length p ≤ length w.path). let same = leaf_under h n (leaf n) (leaf w.number) p w.path refl (on_the_way h (leaf n) (leaf w.number) p w.path k at w.at f (row_begins h s k v w) ge) in cc)
    (cases_lt (length w.path) (length p))

-- a key's way leads to a node: the row of the key, if any, is below it
pub row_at_node : (h : Heap) (n : Node) (p k : List ℕ) (v : ℕ) → IsTree h → StandsAt h (node n) p → Begins p k → Row h k v → WayOn h n p k
row_at_node h n p k v s at f w =
    ⊎_elim
    (λ (lt : length w.path < length p). let same = leaf_under h w.number (leaf w.number) (node n) w.path p refl (on_the_way h (leaf w.number) (node n) w.path p k w.at at (row_begins h s k v w) f (omega arith)) in absurd (cc))
    (λ (ge : length p ≤ length w.path). node_under h n w.number (node n) (leaf w.number) p w.path k refl refl (on_the_way h (node n) (leaf w.number) p w.path k at w.at f (row_begins h s k v w) ge) (row_begins h s k v w))
    (cases_lt (length w.path) (length p))

pub absent_other : (h : Heap) (n : ℕ) (p k : List ℕ) → IsTree h → StandsAt h (leaf n) p → Begins p k → h.key n ≢ k → (v : ℕ) → Row h k v → ⊥
absent_other h n p k s at f other v w = other (ap h.key (sym (row_at_leaf h n p k v s at f w)) ∙ w.key)

pub absent_differs : (h : Heap) (n : Node) (p k : List ℕ) → IsTree h → StandsAt h (node n) p → Begins p k → (Begins (p ++ h.prefix n) k → ⊥) → (v : ℕ) → Row h k v → ⊥
absent_differs h n p k s at f differs v w =
    let on = row_at_node h n p k v s at f w in
    differs (begins_more (p ++ h.prefix n) (on.0 ∷ []) k on.3)

pub absent_ends : (h : Heap) (n : Node) (p k : List ℕ) → IsTree h → StandsAt h (node n) p → p ++ h.prefix n ≡ k → (v : ℕ) → Row h k v → ⊥
absent_ends h n p k s at ends v w =
    let on = row_at_node h n p k v s at (h.prefix n, ends) w in
    omega (arith, ap length on.3.1, length-append (path_past h n p on.0) on.3.0, length_past h n p on.0, ap length ends, length-append p (h.prefix n))

pub absent_entry : (h : Heap) (n : Node) (p k : List ℕ) (b : ℕ) → IsTree h → StandsAt h (node n) p → Begins (path_past h n p b) k → h.child n b ≡ None → (v : ℕ) → Row h k v → ⊥
absent_entry h n p k b s at f free v w =
    let on = row_at_node h n p k v s at (begins_more p (h.prefix n) k (begins_more (p ++ h.prefix n) (b ∷ []) k f)) w in
    let same : on.0 ≡ b = next_byte (p ++ h.prefix n) k on.0 b on.3 f in
    let none : h.child n on.0 ≡ None = ap (λ x. h.child n x) same ∙ free in
    let some = on.2 in
    cc

pub absent_empty : (h : Heap) (k : List ℕ) → h.root ≡ None → (v : ℕ) → Row h k v → ⊥
absent_empty h k empty v w = let f = from_root h (leaf w.number) w.path w.at in let is = f.is in cc

-- a key's way leads to a place that holds nothing: no row has the key
pub absent_free : (h : Heap) (x : Place) (r k : List ℕ) → IsTree h → PlaceAt h x r → child_at_place h x ≡ None → Begins r k → IsAbsent h k
absent_free h Top r k s at free f = absent_empty h k free
absent_free h (Slot n b) r k s at free f = absent_entry h n at.0 k b s at.1 (subst (λ z. Begins z k) at.2 f) free
