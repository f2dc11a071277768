-- The premises of each law can be met: one heap goes through them all, from no root by leaves and nodes to no root again.
use Rattle.std.proofs.Common.{◌≡◌, ◌≢◌, ◌⊎◌, ℕ, zero, suc, ◌+◌, ◌<◌, ◌≤◌, max, Bool, true, false, cond, eqb, ne_eqb, List, [], ◌∷◌, Option, Some, None, refl, sym, ap, subst, ⊎_elim, arith, lit<, lit≤}
use Rattle.std.proofs.lemmas.Bool.{cases_eq}
use Rattle.std.specs.FinMap.{insert, remove, empty}
use Rattle.art_cell.specs.declared.cells.Node.{Node}
use Rattle.art_cell.specs.declared.cells.Link.{Link}
use Rattle.art_cell.specs.declared.cells.Link.TheVariants.{Leaf as leaf, Node as node}
use Rattle.art_cell.specs.declared.cells.Layout.{Layout}
use Rattle.art_cell.specs.declared.cells.Layout.TheVariants.{Node4, Node16, Node48, Node256}
use Rattle.art_tree.specs.Tree.{Place, Top, Slot, Heap, child_at_place, StandsAt, top, down, PlaceAt, Begins, HasTwo}
use Rattle.art_tree.specs.Rows.{ByteMap, HasRows}
use Rattle.art_tree.specs.Changes.{IsUnlinked, SameLeaves, NamedOnlyAt, Edits, GivesWay, Moves}
use Rattle.art_tree.specs.Laws.{Does, EditTouched, EditPaths, ReplaceTouched, ReplacePaths, RenewTouched, RenewPaths, CopyTouched, CopyPaths, ForkTouched, ForkPaths, MergeTouched, MergePaths}
use Rattle.art_tree.proofs.Frame.{opened_sound, opened_rows, opened_unlinked, only_held, only_unlinked}
use Rattle.art_tree.proofs.TreeLaws.{add_law, drop_law, replace_law, grow_law, shrink_law, copy_law, fork_law, merge_law}

-- ---- the cells

-- the node that the second leaf brings, the larger one, the smaller one after it, its copy, and the node above the copy
abbrev pub first_node : Node
first_node = record { layout = Node4; number = 0 }

abbrev pub large_node : Node
large_node = record { layout = Node16; number = 0 }

abbrev pub small_node : Node
small_node = record { layout = Node4; number = 1 }

abbrev pub copy_node : Node
copy_node = record { layout = Node4; number = 2 }

abbrev pub upper_node : Node
upper_node = record { layout = Node4; number = 3 }

-- leaves 2 and 4 have one key
abbrev pub keys : ℕ → List ℕ
keys zero = 1 ∷ 2 ∷ 3 ∷ []
keys (suc zero) = 1 ∷ 5 ∷ []
keys (suc (suc zero)) = 1 ∷ 7 ∷ []
keys (suc (suc (suc zero))) = 1 ∷ 9 ∷ []
keys (suc (suc (suc (suc zero)))) = 1 ∷ 7 ∷ []
keys (suc (suc (suc (suc (suc n))))) = 8 ∷ []

-- what differs from heap to heap: the root, the children of the first node and of the copy at byte 7, and the copy's prefix
pub record Shape : Type 0 where
  pub root : Option Link
  pub of_first : Option Link
  pub of_copy : Option Link
  pub prefix : List ℕ

-- leaves 0 and 1 at their bytes, and the given children at bytes 7 and 9
abbrev pub four : Option Link → Option Link → ℕ → Option Link
four c d b = cond (eqb b 2) (Some (leaf 0)) (cond (eqb b 5) (Some (leaf 1)) (cond (eqb b 7) c (cond (eqb b 9) d None)))

-- the upper node has the copy at byte 1 and leaf 5 at byte 8, and the others have leaves
abbrev pub children : Shape → Layout → ℕ → ℕ → Option Link
children s Node4 zero b = four s.of_first None b
children s Node4 (suc zero) b = four (Some (leaf 2)) None b
children s Node4 (suc (suc zero)) b = four s.of_copy None b
children s Node4 (suc (suc (suc n))) b = cond (eqb b 1) (Some (node copy_node)) (cond (eqb b 8) (Some (leaf 5)) None)
children s Node16 n b = four (Some (leaf 2)) (Some (leaf 3)) b
children s Node48 n b = None
children s Node256 n b = None

abbrev pub prefixes : Shape → Layout → ℕ → List ℕ
prefixes s Node4 zero = 1 ∷ []
prefixes s Node4 (suc zero) = 1 ∷ []
prefixes s Node4 (suc (suc zero)) = s.prefix
prefixes s Node4 (suc (suc (suc n))) = []
prefixes s Node16 n = 1 ∷ []
prefixes s Node48 n = []
prefixes s Node256 n = []

abbrev pub heap : Shape → Heap
heap s = record { root = s.root; prefix = λ n. prefixes s n.layout n.number; child = λ n. children s n.layout n.number; key = keys; value = λ l. l + 10 }

-- ---- the shape, and the map, after each step

abbrev pub at_opening : Shape
at_opening = record { root = None; of_first = None; of_copy = Some (leaf 2); prefix = 1 ∷ [] }

abbrev pub at_leaf_came : Shape
at_leaf_came = record at_opening { root = Some (leaf 0) }

abbrev pub at_forked : Shape
at_forked = record at_opening { root = Some (node first_node) }

abbrev pub at_added : Shape
at_added = record at_forked { of_first = Some (leaf 2) }

abbrev pub at_grown : Shape
at_grown = record at_added { root = Some (node large_node) }

abbrev pub at_shrunk : Shape
at_shrunk = record at_added { root = Some (node small_node) }

abbrev pub at_copied : Shape
at_copied = record at_added { root = Some (node copy_node) }

abbrev pub at_replaced : Shape
at_replaced = record at_copied { of_copy = Some (leaf 4) }

abbrev pub at_raised : Shape
at_raised = record at_replaced { root = Some (node upper_node); prefix = [] }

abbrev pub at_dropped : Shape
at_dropped = record at_raised { of_copy = None }

abbrev pub at_lowered : Shape
at_lowered = record at_dropped { root = Some (node copy_node); prefix = 1 ∷ [] }

abbrev pub at_merged : Shape
at_merged = record at_lowered { root = Some (leaf 1) }

abbrev pub at_emptied : Shape
at_emptied = record at_lowered { root = None }

abbrev pub map_leaf_came : ByteMap
map_leaf_came = insert empty (keys 0) 10

abbrev pub map_forked : ByteMap
map_forked = insert map_leaf_came (keys 1) 11

abbrev pub map_added : ByteMap
map_added = insert map_forked (keys 2) 12

abbrev pub map_grown : ByteMap
map_grown = insert map_added (keys 3) 13

abbrev pub map_shrunk : ByteMap
map_shrunk = remove map_grown (keys 3)

abbrev pub map_replaced : ByteMap
map_replaced = insert map_shrunk (keys 4) 14

abbrev pub map_raised : ByteMap
map_raised = insert map_replaced (keys 5) 15

abbrev pub map_dropped : ByteMap
map_dropped = remove map_raised (keys 4)

abbrev pub map_lowered : ByteMap
map_lowered = remove map_dropped (keys 5)

abbrev pub map_merged : ByteMap
map_merged = remove map_lowered (keys 0)

abbrev pub map_emptied : ByteMap
map_emptied = remove map_merged (keys 1)

-- ---- what the steps share

same_leaves : (s t : Shape) → SameLeaves (heap s) (heap t)
same_leaves s t = record { keys = λ l. refl; values = λ l. refl }

-- children that agree at byte 7 agree
at_seven : (c d : Option Link) (b : ℕ) → (b ≡ 7 → d ≡ c) → four d None b ≡ four c None b
at_seven c d b f = ⊎_elim (λ (e : b ≡ 7). ap (λ z. four z None b) (f e)) (λ (g : b ≢ 7). simp (ne_eqb b 7 g)) (cases_eq b 7)

-- with none at bytes 7 and 9, leaves 0 and 1 are alone
two_alone : (b : ℕ) → b ≢ 2 → b ≢ 5 → four None None b ≡ None
two_alone b e f = simp (ne_eqb b 2 e, ne_eqb b 5 f, none)
  where
    none : (x : Bool) → ◌≡◌ {A = Option Link} (cond x None None) None
    none true = refl
    none false = refl

-- the large node differs from the others at byte 9
at_nine : (b : ℕ) → b ≢ 9 → four (Some (leaf 2)) (Some (leaf 3)) b ≡ four (Some (leaf 2)) None b
at_nine b f = simp (ne_eqb b 9 f)

-- shapes that differ at one place have heaps that do
elsewhere : (s t : Shape) (x : Place) → (Top ≢ x → t.root ≡ s.root) → (Slot first_node 7 ≢ x → t.of_first ≡ s.of_first) → (Slot copy_node 7 ≢ x → t.of_copy ≡ s.of_copy) →
    (y : Place) → y ≢ x → child_at_place (heap t) y ≡ child_at_place (heap s) y
elsewhere s t x f g i Top other = f other
elsewhere s t x f g i (Slot n b) other = slot n.layout n.number other
  where
    slot : (y : Layout) (k : ℕ) → Slot (record { layout = y; number = k }) b ≢ x → children t y k b ≡ children s y k b
    slot Node4 zero other = at_seven s.of_first t.of_first b (λ e. g (subst (λ z. Slot first_node z ≢ x) e other))
    slot Node4 (suc zero) other = refl
    slot Node4 (suc (suc zero)) other = at_seven s.of_copy t.of_copy b (λ e. i (subst (λ z. Slot copy_node z ≢ x) e other))
    slot Node4 (suc (suc (suc k))) other = refl
    slot Node16 k other = refl
    slot Node48 k other = refl
    slot Node256 k other = refl

-- shapes that differ at the root alone
root_alone : (s t : Shape) → t.of_first ≡ s.of_first → t.of_copy ≡ s.of_copy → (y : Place) → y ≢ Top → child_at_place (heap t) y ≡ child_at_place (heap s) y
root_alone s t first copy = elsewhere s t Top (λ f. absurd (f refl)) (λ f. first) (λ f. copy)

-- no prefix differs but the copy's
same_prefix : (s t : Shape) (n : Node) → (copy_node ≡ n → t.prefix ≡ s.prefix) → prefixes t n.layout n.number ≡ prefixes s n.layout n.number
same_prefix s t n = of n.layout n.number
  where
    of : (y : Layout) (k : ℕ) → (copy_node ≡ record { layout = y; number = k } → t.prefix ≡ s.prefix) → prefixes t y k ≡ prefixes s y k
    of Node4 zero f = refl
    of Node4 (suc zero) f = refl
    of Node4 (suc (suc zero)) f = f refl
    of Node4 (suc (suc (suc k))) f = refl
    of Node16 k f = refl
    of Node48 k f = refl
    of Node256 k f = refl

-- a leaf comes or goes
edits : (s t : Shape) (x : Place) (l : ℕ) →
    ((d : Link) → child_at_place (heap s) x ≡ Some d → d ≡ leaf l) → ((d : Link) → child_at_place (heap t) x ≡ Some d → d ≡ leaf l) →
    ((y : Place) → y ≢ x → child_at_place (heap t) y ≡ child_at_place (heap s) y) → t.prefix ≡ s.prefix → NamedOnlyAt (heap s) (leaf l) x → Edits (heap s) (heap t) x l
edits s t x l old new rest front only = record { old = old; new = new; rest = rest; prefixes = λ n. same_prefix s t n (λ e. front); leaves = same_leaves s t; only = only }

-- the root n gives way to m
gives_way : (s t : Shape) (n m : Node) → s.root ≡ Some (node n) → t.root ≡ Some (node m) → prefixes t m.layout m.number ≡ prefixes s n.layout n.number →
    t.of_first ≡ s.of_first → t.of_copy ≡ s.of_copy → t.prefix ≡ s.prefix → IsUnlinked (heap s) (node m) → GivesWay (heap s) (heap t) Top n m
gives_way s t n m was now prefix first copy front fresh = record {
  was = was;
  now = now;
  prefix = prefix;
  rest = λ y other own. root_alone s t first copy y other;
  prefixes = λ k other. same_prefix s t k (λ e. front);
  leaves = same_leaves s t;
  fresh = fresh;
}

-- the step at which each cell comes; no Node48 and no Node256 does
abbrev step_of_leaf : ℕ → ℕ
step_of_leaf zero = 1
step_of_leaf (suc zero) = 2
step_of_leaf (suc (suc zero)) = 3
step_of_leaf (suc (suc (suc zero))) = 4
step_of_leaf (suc (suc (suc (suc zero)))) = 7
step_of_leaf (suc (suc (suc (suc (suc n))))) = 8

abbrev step_of_node : Layout → ℕ → ℕ
step_of_node Node4 zero = 2
step_of_node Node4 (suc zero) = 5
step_of_node Node4 (suc (suc zero)) = 6
step_of_node Node4 (suc (suc (suc n))) = 8
step_of_node Node16 n = 4
step_of_node Node48 n = 9
step_of_node Node256 n = 9

abbrev step_of : Link → ℕ
step_of (leaf n) = step_of_leaf n
step_of (node n) = step_of_node n.layout n.number

-- the last step at which one of the cells comes
abbrev latest : List Link → ℕ
latest [] = 0
latest (c ∷ cs) = max (step_of c) (latest cs)

-- the cell is one of these, as the laws say of touched cells
abbrev OneOf : List Link → Link → Type 0
OneOf [] c = ⊥
OneOf (d ∷ []) c = c ≡ d
OneOf (d ∷ e ∷ ds) c = (c ≡ d) ⊎ OneOf (e ∷ ds) c

by_latest : (ds : List Link) (c : Link) → OneOf ds c → step_of c ≤ latest ds
by_latest [] c none = absurd none
by_latest (d ∷ []) c e = let f = ap step_of e in omega (arith, f)
by_latest (d ∷ e ∷ ds) c one = ⊎_elim (λ (f : c ≡ d). let g = ap step_of f in omega (arith, g)) (λ (f : OneOf (e ∷ ds) c). let g = by_latest (e ∷ ds) c f in omega (arith, g)) one

-- nothing is linked but what came by the step
abbrev LinkedBy : ℕ → Shape → Type 0
LinkedBy i s = (c : Link) (r : List ℕ) → StandsAt (heap s) c r → step_of c ≤ i

-- and after the next step, which touches no cell that comes later
linked_by : {E : Link → List ℕ → Type 0} (s t : Shape) (i : ℕ) (ds : List Link) → Moves (heap s) (heap t) (OneOf ds) E → latest ds ≤ suc i → LinkedBy i s → LinkedBy (suc i) t
linked_by s t i ds moves last was c r at = ⊎_elim (λ f. let g = by_latest ds c f.0 in omega arith) (λ f. let g = was c r f.1 in omega arith) (moves.linked c r at)

-- what comes later is not linked
free : (i : ℕ) (s : Shape) (c : Link) → LinkedBy i s → i < step_of c → IsUnlinked (heap s) c
free i s c by late r at = let f = by c r at in absurd (omega arith)

-- ---- the steps

-- leaf 0 comes to the empty anchor
pub leaf_came : Does (heap at_opening) (heap at_leaf_came) (EditTouched 0) (EditPaths (heap at_leaf_came) Top 0 []) empty map_leaf_came
leaf_came = add_law (heap at_opening) (heap at_leaf_came) Top 0 [] empty (opened_sound (heap at_opening) refl) refl
    (edits at_opening at_leaf_came Top 0 (λ d e. cc) (λ d e. cc) (root_alone at_opening at_leaf_came refl refl) refl
    (only_unlinked (heap at_opening) Top (leaf 0) (opened_unlinked (heap at_opening) (leaf 0) refl)))
    refl refl (opened_unlinked (heap at_opening) (leaf 0) refl) (keys 0, refl)

linked_leaf_came : LinkedBy 1 at_leaf_came
linked_leaf_came = linked_by at_opening at_leaf_came 0 (leaf 0 ∷ []) leaf_came.moves (lit≤ tt) (λ c r at. absurd (opened_unlinked (heap at_opening) c refl r at))

-- leaf 1 comes, and a node above both leaves
pub forked : Does (heap at_leaf_came) (heap at_forked) (ForkTouched (leaf 0) first_node 1) (ForkPaths (heap at_forked) (leaf 0) first_node 1 2 5 []) map_leaf_came map_forked
forked = fork_law (heap at_leaf_came) (heap at_forked) Top (leaf 0) first_node 1 2 5 [] map_leaf_came leaf_came.moves.sound refl
    (record {
      was = refl;
      now = refl;
      one = refl;
      two = refl;
      none = two_alone;
      apart = λ e. absurd (omega arith);
      short = λ n e. absurd (cc);
      rest = λ y other own. root_alone at_leaf_came at_forked refl refl y other;
      prefixes = λ k other c. same_prefix at_leaf_came at_forked k (λ e. refl);
      leaves = same_leaves at_leaf_came at_forked;
      fresh = free 1 at_leaf_came (node first_node) linked_leaf_came (lit< tt);
      new = free 1 at_leaf_came (leaf 1) linked_leaf_came (lit< tt);
    })
    (λ k e. let f : 0 ≡ k = cc in subst (λ z. Begins (1 ∷ 2 ∷ []) (keys z)) f (3 ∷ [], refl))
    ([], refl) (lit≤ tt)

linked_forked : LinkedBy 2 at_forked
linked_forked = linked_by at_leaf_came at_forked 1 (leaf 0 ∷ node first_node ∷ leaf 1 ∷ []) forked.moves (lit≤ tt) linked_leaf_came

-- leaf 2 comes at a free byte of the node
pub added : Does (heap at_forked) (heap at_added) (EditTouched 2) (EditPaths (heap at_added) (Slot first_node 7) 2 (1 ∷ 7 ∷ [])) map_forked map_added
added = add_law (heap at_forked) (heap at_added) (Slot first_node 7) 2 (1 ∷ 7 ∷ []) map_forked forked.moves.sound ([], top refl refl, refl)
    (edits at_forked at_added (Slot first_node 7) 2 (λ d e. cc) (λ d e. cc) (elsewhere at_forked at_added (Slot first_node 7) (λ f. refl) (λ f. absurd (f refl)) (λ f. refl)) refl
    (only_unlinked (heap at_forked) (Slot first_node 7) (leaf 2) (free 2 at_forked (leaf 2) linked_forked (lit< tt))))
    refl refl (free 2 at_forked (leaf 2) linked_forked (lit< tt)) ([], refl)

linked_added : LinkedBy 3 at_added
linked_added = linked_by at_forked at_added 2 (leaf 2 ∷ []) added.moves (lit≤ tt) linked_forked

-- the node gives way to a larger one, which has leaf 3 too
pub grown : Does (heap at_added) (heap at_grown) (RenewTouched first_node large_node 3) (RenewPaths (heap at_added) (heap at_grown) first_node large_node 9 3 []) map_added map_grown
grown = grow_law (heap at_added) (heap at_grown) Top first_node large_node 9 3 [] map_added added.moves.sound refl
    (record {
      gives_way = gives_way at_added at_grown first_node large_node refl refl refl refl refl refl (free 3 at_added (node large_node) linked_added (lit< tt));
      old = λ d e. cc;
      new = λ d e. cc;
      same = at_nine;
      only = only_unlinked (heap at_added) (Slot first_node 9) (leaf 3) (free 3 at_added (leaf 3) linked_added (lit< tt));
    })
    refl (free 3 at_added (leaf 3) linked_added (lit< tt)) ([], refl)

linked_grown : LinkedBy 4 at_grown
linked_grown = linked_by at_added at_grown 3 (node first_node ∷ node large_node ∷ leaf 3 ∷ []) grown.moves (lit≤ tt) linked_added

-- the large node gives way to a smaller one, which has not leaf 3
pub shrunk : Does (heap at_grown) (heap at_shrunk) (RenewTouched large_node small_node 3) (RenewPaths (heap at_grown) (heap at_shrunk) large_node small_node 9 3 []) map_grown map_shrunk
shrunk = shrink_law (heap at_grown) (heap at_shrunk) Top large_node small_node 9 3 [] map_grown grown.moves.sound refl
    (record {
      gives_way = gives_way at_grown at_shrunk large_node small_node refl refl refl refl refl refl (free 4 at_grown (node small_node) linked_grown (lit< tt));
      old = λ d e. cc;
      new = λ d e. cc;
      same = λ b f. sym (at_nine b f);
      only = only_held (heap at_grown) (Slot large_node 9) (1 ∷ 9 ∷ []) (leaf 3) grown.moves.sound.once ([], top refl refl, refl) refl;
    })
    refl refl (2, 5, leaf 0, leaf 1, lit< tt, refl, refl)

linked_shrunk : LinkedBy 5 at_shrunk
linked_shrunk = linked_by at_grown at_shrunk 4 (node large_node ∷ node small_node ∷ leaf 3 ∷ []) shrunk.moves (lit≤ tt) linked_grown

-- the small node gives way to a copy
pub copied : Does (heap at_shrunk) (heap at_copied) (CopyTouched small_node copy_node) (CopyPaths copy_node []) map_shrunk map_shrunk
copied = copy_law (heap at_shrunk) (heap at_copied) Top small_node copy_node [] map_shrunk shrunk.moves.sound refl
    (record {
      gives_way = gives_way at_shrunk at_copied small_node copy_node refl refl refl refl refl refl (free 5 at_shrunk (node copy_node) linked_shrunk (lit< tt));
      same = λ b. refl;
    })

linked_copied : LinkedBy 6 at_copied
linked_copied = linked_by at_shrunk at_copied 5 (node small_node ∷ node copy_node ∷ []) copied.moves (lit≤ tt) linked_shrunk

-- leaf 2 gives way to leaf 4, which has its key
pub replaced : Does (heap at_copied) (heap at_replaced) (ReplaceTouched 2 4) (ReplacePaths 4 (1 ∷ 7 ∷ [])) map_shrunk map_replaced
replaced = replace_law (heap at_copied) (heap at_replaced) (Slot copy_node 7) 2 4 (1 ∷ 7 ∷ []) map_shrunk copied.moves.sound ([], top refl refl, refl)
    (record {
      was = refl;
      now = refl;
      rest = elsewhere at_copied at_replaced (Slot copy_node 7) (λ f. refl) (λ f. refl) (λ f. absurd (f refl));
      prefixes = λ n. same_prefix at_copied at_replaced n (λ e. refl);
      leaves = same_leaves at_copied at_replaced;
      new = free 6 at_copied (leaf 4) linked_copied (lit< tt);
    }) refl

linked_replaced : LinkedBy 7 at_replaced
linked_replaced = linked_by at_copied at_replaced 6 (leaf 2 ∷ leaf 4 ∷ []) replaced.moves (lit≤ tt) linked_copied

-- leaf 5 comes, and a node above the copy, which loses its prefix
pub raised :
    Does (heap at_replaced) (heap at_raised) (ForkTouched (node copy_node) upper_node 5) (ForkPaths (heap at_raised) (node copy_node) upper_node 5 1 8 []) map_replaced map_raised
raised = fork_law (heap at_replaced) (heap at_raised) Top (node copy_node) upper_node 5 1 8 [] map_replaced replaced.moves.sound refl
    (record {
      was = refl;
      now = refl;
      one = refl;
      two = refl;
      none = λ b e f. simp (ne_eqb b 1 e, ne_eqb b 8 f);
      apart = λ e. absurd (omega arith);
      short = λ n e. let f : copy_node ≡ n = cc in subst (λ z. prefixes at_replaced z.layout z.number ≡ 1 ∷ prefixes at_raised z.layout z.number) f refl;
      rest = λ y other own. root_alone at_replaced at_raised refl refl y other;
      prefixes = λ k other c. same_prefix at_replaced at_raised k (λ e. absurd (c (ap node e)));
      leaves = same_leaves at_replaced at_raised;
      fresh = free 7 at_replaced (node upper_node) linked_replaced (lit< tt);
      new = free 7 at_replaced (leaf 5) linked_replaced (lit< tt);
    })
    (λ k e. absurd (cc)) ([], refl) (lit≤ tt)

-- leaf 4 goes from the copy, which keeps two children
pub dropped : Does (heap at_raised) (heap at_dropped) (EditTouched 4) (EditPaths (heap at_dropped) (Slot copy_node 7) 4 (1 ∷ 7 ∷ [])) map_raised map_dropped
dropped = drop_law (heap at_raised) (heap at_dropped) (Slot copy_node 7) 4 (1 ∷ 7 ∷ []) map_raised raised.moves.sound below
    (edits at_raised at_dropped (Slot copy_node 7) 4 (λ d e. cc) (λ d e. cc) (elsewhere at_raised at_dropped (Slot copy_node 7) (λ f. refl) (λ f. refl) (λ f. absurd (f refl))) refl
    (only_held (heap at_raised) (Slot copy_node 7) (1 ∷ 7 ∷ []) (leaf 4) raised.moves.sound.once below refl))
    refl refl (λ n b e. let f : copy_node ≡ n = cc in subst (HasTwo (heap at_dropped)) f (2, 5, leaf 0, leaf 1, lit< tt, refl, refl))
  where
    below : PlaceAt (heap at_raised) (Slot copy_node 7) (1 ∷ 7 ∷ [])
    below = (1 ∷ [], down 1 (top refl refl) refl refl, refl)

-- leaf 5 goes, and the node above the copy gives way to it
pub lowered : Does (heap at_dropped) (heap at_lowered) (MergeTouched (node copy_node) upper_node 5) (MergePaths (node copy_node) []) map_dropped map_lowered
lowered = merge_law (heap at_dropped) (heap at_lowered) Top (node copy_node) upper_node 5 1 8 [] map_dropped dropped.moves.sound refl
    (record {
      was = refl;
      one = refl;
      two = refl;
      none = λ b e f. simp (ne_eqb b 1 e, ne_eqb b 8 f);
      apart = λ e. absurd (omega arith);
      now = refl;
      longer = λ k e. let f : copy_node ≡ k = cc in subst (λ z. prefixes at_lowered z.layout z.number ≡ 1 ∷ prefixes at_dropped z.layout z.number) f refl;
      rest = root_alone at_dropped at_lowered refl refl;
      prefixes = λ k c. same_prefix at_dropped at_lowered k (λ e. absurd (c (ap node e)));
      leaves = same_leaves at_dropped at_lowered;
    })

-- leaf 0 goes, and the copy gives way to leaf 1
pub merged : Does (heap at_lowered) (heap at_merged) (MergeTouched (leaf 1) copy_node 0) (MergePaths (leaf 1) []) map_lowered map_merged
merged = merge_law (heap at_lowered) (heap at_merged) Top (leaf 1) copy_node 0 5 2 [] map_lowered lowered.moves.sound refl
    (record {
      was = refl;
      one = refl;
      two = refl;
      none = λ b e f. two_alone b f e;
      apart = λ e. absurd (omega arith);
      now = refl;
      longer = λ k e. absurd (cc);
      rest = root_alone at_lowered at_merged refl refl;
      prefixes = λ k c. same_prefix at_lowered at_merged k (λ e. refl);
      leaves = same_leaves at_lowered at_merged;
    })

-- leaf 1 goes from the anchor
pub emptied : Does (heap at_merged) (heap at_emptied) (EditTouched 1) (EditPaths (heap at_emptied) Top 1 []) map_merged map_emptied
emptied = drop_law (heap at_merged) (heap at_emptied) Top 1 [] map_merged merged.moves.sound refl
    (edits at_merged at_emptied Top 1 (λ d e. cc) (λ d e. cc) (root_alone at_merged at_emptied refl refl) refl
    (only_held (heap at_merged) Top [] (leaf 1) merged.moves.sound.once refl refl))
    refl refl (λ n b e. absurd (cc))

-- no root again, and the map after all inserts and removals
pub at_last : HasRows (heap at_emptied) map_emptied
at_last = emptied.rows (merged.rows (lowered.rows (dropped.rows (raised.rows (replaced.rows (copied.rows (shrunk.rows (grown.rows (added.rows (forked.rows (leaf_came.rows (opened_rows (heap at_opening) refl))))))))))))
