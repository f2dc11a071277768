-- What the words that are read of a cell mean.
use Rattle.std.proofs.Common.{◌≡◌, ◌≢◌, ℕ, zero, suc, ◌+◌, ◌/◌, ◌%◌, ◌<◌, ◌≤◌, Bool, true, false, cond, ltb, List, [], ◌∷◌, ◌++◌, length, get_or, set, replicate, refl, sym, ap, ap₂, ◌∙◌, subst, arith, ⊎_elim}
use Rattle.std.proofs.lemmas.Bool.{cases_eq, cases_lt, le-ltb}
use Rattle.std.proofs.lemmas.List.{get_or-replicate, get_or-set_other, get_or-set_same, get_or_past, length-replicate}
use Rattle.std.specs.List.{AllByRecursion, cons_option, flat_map}
use Rattle.std.specs.Option.{option_and_then, option_map}
use Rattle.std.specs.Prelude.{Option, Some, None}
use Rattle.art_cell.specs.declared.cells.Node.{Node}
use Rattle.art_cell.specs.declared.cells.Link.{Link}
use Rattle.art_cell.specs.declared.cells.Cell.TheVariants as cell
use Rattle.art_cell.specs.declared.cells.Layout.{Layout}
use Rattle.art_cell.specs.declared.cells.Layout.TheVariants.{Node4, Node16, Node48, Node256}
use Rattle.art_cell.specs.declared.node_kinds.Entry.{Entry}
use Rattle.art_cell.specs.Children.{link_of}
use Rattle.art_cell.specs.Words.{Words, byte_of, child_of, entries, listed, packed, size}
use Rattle.art_step.specs.WordPlaces.{is_inside, place_of}
use Rattle.art_step.specs.WordRows.{word_in}
use Rattle.art_step.specs.declared.views.Sizes.{Sizes}
use Rattle.art_tree.specs.Heaps.{Cells, heap_of}
use Rattle.art_tree.proofs.Meanings.{words_mean}
use Rattle.art_closed.specs.Listing.{Pair, of_child, of_children}

pub size_fits : (k : Layout) → size k ≤ 266
size_fits Node4 = omega arith
size_fits Node16 = omega arith
size_fits Node48 = omega arith
size_fits Node256 = omega arith

pub size_some : (k : Layout) → 1 ≤ size k
size_some Node4 = omega arith
size_some Node16 = omega arith
size_some Node48 = omega arith
size_some Node256 = omega arith

-- ---- the words of a node

either_way : (b : Bool) (x : ℕ) → cond b x x ≡ x
either_way true x = refl
either_way false x = refl

-- no word stands at the version's place, or past the last
pub no_first_word : (z : Sizes) (ws : List ℕ) (n : Node) → word_in z ws (cell.Node n) 0 ≡ 0
no_first_word z ws n = either_way (is_inside z (cell.Node n)) 0

no_later_word : (z : Sizes) (ws : List ℕ) (n : Node) (i : ℕ) → size n.layout ≤ i → word_in z ws (cell.Node n) i ≡ 0
no_later_word z ws n i past =
    ap (λ t. cond (is_inside z (cell.Node n)) (cond (ltb i 1) 0 (cond t (get_or ws (place_of z (cell.Node n) + i) 0) 0)) 0) (le-ltb i (size n.layout) past)
    ∙ (ap (λ x. cond (is_inside z (cell.Node n)) x 0) (either_way (ltb i 1) 0) ∙ either_way (is_inside z (cell.Node n)) 0)

-- words that are those of the node as far as it goes, and 0 after that, are those of the node
pub all_words : (z : Sizes) (ws words : List ℕ) (n : Node) → ((p : ℕ) → p < size n.layout → get_or words p 0 ≡ word_in z ws (cell.Node n) p) → ((p : ℕ) → size n.layout ≤ p → get_or words p 0 ≡ 0)
    → (λ (p : ℕ). get_or words p 0) ≡ word_in z ws (cell.Node n)
all_words z ws words n same past = λ i p. at p i
  where
    at : (p : ℕ) → get_or words p 0 ≡ word_in z ws (cell.Node n) p
    at p = ⊎_elim (λ (low : p < size n.layout). same p low) (λ high. past p high ∙ sym (no_later_word z ws n p high)) (cases_lt p (size n.layout))

-- ---- the bytes of a leaf

pub packed_byte : (w : Words) (at : ℕ) → packed w 2 at ≡ byte_of (w (2 + at / 8)) (at % 8)
unfolding packed
packed_byte w at = refl

-- ---- the children of a node

-- what is listed of the entries of a node is what is listed of its children
over_entries : (f : Link → List Pair) (child : ℕ → Option ℕ) (from count : ℕ) →
    flat_map (λ (e : Entry). of_child f (link_of e.child)) (listed child from count) ≡ of_children f (λ b. option_and_then link_of (child b)) from count
unfolding of_children
over_entries f child from zero = refl
over_entries f child from (suc count) = step (child from) (over_entries f child (from + 1) count)
  where
    step : (o : Option ℕ) → flat_map (λ (e : Entry). of_child f (link_of e.child)) (listed child (from + 1) count) ≡ of_children f (λ b. option_and_then link_of (child b)) (from + 1) count
        → flat_map (λ (e : Entry). of_child f (link_of e.child)) (cons_option (option_map (λ (c : ℕ). record { byte = from; child = c }) o) (listed child (from + 1) count))
        ≡ of_child f (option_and_then link_of o) ++ of_children f (λ b. option_and_then link_of (child b)) (from + 1) count
    step None rest = rest
    step (Some c) rest = ap (λ (l : List Pair). of_child f (link_of c) ++ l) rest

same_children : (f : Link → List Pair) (child other : ℕ → Option Link) (from count most : ℕ) → from + count ≤ most → ((b : ℕ) → b < most → child b ≡ other b) → of_children f child from count ≡ of_children f other from count
unfolding of_children
same_children f child other from zero most fits same = refl
same_children f child other from (suc count) most fits same =
    ap₂ (λ (o : Option Link) (l : List Pair). of_child f o ++ l) (same from (omega (arith, fits))) (same_children f child other (from + 1) count most (omega (arith, fits)) same)

pub listed_of_node : (f : Link → List Pair) (s : Cells) (n : Node) → flat_map (λ (e : Entry). of_child f (link_of e.child)) (entries n.layout (s (cell.Node n))) ≡ of_children f ((heap_of s).child n) 0 256
listed_of_node f s n =
    over_entries f (child_of n.layout (s (cell.Node n))) 0 256
    ∙ sym (same_children f ((heap_of s).child n) (λ b. option_and_then link_of (child_of n.layout (s (cell.Node n)) b)) 0 256 256 (omega arith) (λ b low. (words_mean s).child n b low))

-- ---- the entries of a node

all_at : {A : Type 0} (P : A → Type 0) (xs : List A) (i : ℕ) (d : A) → AllByRecursion P xs → i < length xs → P (get_or xs i d)
all_at P [] i d all low = absurd (omega arith)
all_at P (x ∷ xs) zero d all low = all.0
all_at P (x ∷ xs) (suc i) d all low = all_at P xs i d all.1 (omega arith)

-- each entry has its byte's child
all_listed : (child : ℕ → Option ℕ) (from count most : ℕ) → from + count ≤ most → AllByRecursion (λ (e : Entry). (e.byte < most) × (child e.byte ≡ Some e.child)) (listed child from count)
all_listed child from zero most fits = tt
all_listed child from (suc count) most fits = one (child from) refl (all_listed child (from + 1) count most (omega (arith, fits)))
  where
    one : (o : Option ℕ) → child from ≡ o → AllByRecursion (λ (e : Entry). (e.byte < most) × (child e.byte ≡ Some e.child)) (listed child (from + 1) count)
        → AllByRecursion (λ (e : Entry). (e.byte < most) × (child e.byte ≡ Some e.child)) (cons_option (option_map (λ (c : ℕ). record { byte = from; child = c }) o) (listed child (from + 1) count))
    one None is rest = rest
    one (Some c) is rest = ((omega (arith, fits), is), rest)

pub child_at_entry : (s : Cells) (n : Node) (i : ℕ) (d : Entry) → i < length (entries n.layout (s (cell.Node n))) →
    (heap_of s).child n (get_or (entries n.layout (s (cell.Node n))) i d).byte ≡ link_of (get_or (entries n.layout (s (cell.Node n))) i d).child
child_at_entry s n i d low =
    let w = s (cell.Node n) in
    let r = all_at (λ (e : Entry). (e.byte < 256) × (child_of n.layout w e.byte ≡ Some e.child)) (entries n.layout w) i d (all_listed (child_of n.layout w) 0 256 256 (omega arith)) low in
    (words_mean s).child n (get_or (entries n.layout w) i d).byte r.0 ∙ ap (option_and_then link_of) r.1

-- ---- the words of a node, as they are copied

pub all_same : (n p x : ℕ) → get_or (replicate n x) p x ≡ x
all_same n p x = ⊎_elim
    (λ (low : p < n). get_or-replicate n p x x low)
    (λ high. get_or_past (replicate n x) p x (let long = length-replicate n x in omega (arith, long, high)))
    (cases_lt p n)

pub length_same : (n x : ℕ) → length (replicate n x) ≡ n
length_same n x = length-replicate n x

pub one_word_more : (words : List ℕ) (place : ℕ) (w : Words) → place < length words → ((p : ℕ) → p < place → get_or words p 0 ≡ w p) → (p : ℕ) → p < place + 1 → get_or (set words place (w place)) p 0 ≡ w p
one_word_more words place w low same p less = ⊎_elim
    (λ (e : p ≡ place). subst (λ (q : ℕ). get_or (set words place (w place)) q 0 ≡ w q) (sym e) (get_or-set_same words place (w place) 0 low))
    (λ (other : p ≢ place). get_or-set_other words place p (w place) 0 other ∙ same p (omega (arith, less, other)))
    (cases_eq p place)

pub no_word_past : (words : List ℕ) (place x : ℕ) → ((p : ℕ) → place ≤ p → get_or words p 0 ≡ 0) → (p : ℕ) → place + 1 ≤ p → get_or (set words place x) p 0 ≡ 0
no_word_past words place x past p more = get_or-set_other words place p x 0 (λ (e : p ≡ place). omega (arith, e, more)) ∙ past p (omega (arith, more))
