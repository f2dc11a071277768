-- What a listing has: the rows of the tree, all of them, in ascending order of their keys.
use Rattle.std.proofs.Common.{◌≡◌, ℕ, zero, suc, ◌+◌, ◌-◌, ◌<◌, ◌≤◌, false, List, [], ◌∷◌, ◌++◌, length, inl, ⊎_elim, refl, sym, ap, ap₂, ◌∙◌, subst, arith, eqb, ne_eqb}
use Rattle.std.proofs.lemmas.Bool.{cases_eq, false≢true}
use Rattle.std.proofs.lemmas.Cmp.{nat_list_cmp_total, tied_itself}
use Rattle.std.proofs.lemmas.Map.Steps.{length-le_from_distinct_below}
use Rattle.std.specs.Prelude.{Option, Some, None, true}
use Rattle.std.specs.List.{AllByRecursion, IsDistinct, list_any}
use Rattle.std.specs.List.Sorted.{IsStrictlySortedBy}
use Rattle.std.specs.Ordering.{nat_cmp}
use Rattle.std.specs.Cmp.Lexicographic.{slice_cmp}
use Rattle.std.specs.declared.cmp.Ordering.{Ordering}
use Rattle.std.specs.declared.cmp.Ordering.TheVariants.{Less, Equal}
use Rattle.art_cell.specs.declared.cells.Node.{Node}
use Rattle.art_cell.specs.declared.cells.Link.{Link}
use Rattle.art_cell.specs.declared.cells.Link.TheVariants.{Leaf as leaf, Node as node}
use Rattle.art_step.specs.Views.{Member}
use Rattle.art_step.proofs.SetsView.{member_append, member_back, member_front}
use Rattle.art_tree.specs.Tree.{Begins, Heap, IsTree, Row, StandsAt, down, path_past}
use Rattle.art_tree.proofs.Lookup.{row_at_leaf, row_at_node}
use Rattle.art_tree.proofs.Order.{before_byte}
use Rattle.art_tree.proofs.Paths.{begins_more, length_past}
use Rattle.art_closed.specs.Listing.{Pair, listing, of_child, of_children}
use Rattle.art_closed.proofs.Members.{sorted_both, sorted_none, sorted_one}

abbrev pub pair_cmp : Pair → Pair → Ordering
pair_cmp x y = slice_cmp nat_cmp x.0 y.0

pub listing_leaf : (h : Heap) (depth l : ℕ) → listing h depth (leaf l) ≡ (h.key l, h.value l) ∷ []
unfolding listing
listing_leaf h zero l = refl
listing_leaf h (suc depth) l = refl

-- ---- of the children of a node

module _ (f : Link → List Pair) (child : ℕ → Option Link) where
  -- what is listed of a child
  pub record OfChild (x : Pair) (from count : ℕ) : Type 0 where
    pub byte : ℕ
    pub low : from ≤ byte
    pub link : Link
    pub is : child byte ≡ Some link
    pub listed : Member x (f link)

  of_one : (x : Pair) (o : Option Link) → Member x (of_child f o) → (d : Link) × (o ≡ Some d) × Member x (f d)
  of_one x None i = absurd i
  of_one x (Some d) i = (d, refl, i)

  pub listed_of : (x : Pair) (from count : ℕ) → Member x (of_children f child from count) → OfChild x from count
  unfolding of_children
  listed_of x from zero i = absurd i
  listed_of x from (suc count) i = ⊎_elim
      (λ (j : Member x (of_child f (child from))). let o = of_one x (child from) j in record { byte = from; low = omega arith; link = o.0; is = o.1; listed = o.2 })
      (λ (j : Member x (of_children f child (from + 1) count)). let r = listed_of x (from + 1) count j in let low = r.low in record { byte = r.byte; low = omega (arith, low); link = r.link; is = r.is; listed = r.listed })
      (member_append x (of_child f (child from)) (of_children f child (from + 1) count) i)

  pub of_listed : (x : Pair) (from count b : ℕ) (d : Link) → from ≤ b → b < from + count → child b ≡ Some d → Member x (f d) → Member x (of_children f child from count)
  unfolding of_children
  of_listed x from zero b d low high is i = absurd (omega (arith, low, high))
  of_listed x from (suc count) b d low high is i = ⊎_elim
      (λ (e : b ≡ from). member_front x (of_child f (child from)) (of_children f child (from + 1) count) (subst (λ (o : Option Link). Member x (of_child f o)) (sym is ∙ ap child e) i))
      (λ other. member_back x (of_child f (child from)) (of_children f child (from + 1) count) (of_listed x (from + 1) count b d (omega (arith, low, other)) (omega (arith, high)) is i))
      (cases_eq b from)

  -- each child's list is sorted, and what is below a lower byte stands before what is below a higher one
  pub sorted_of : (from count : ℕ) → ((b : ℕ) (d : Link) → child b ≡ Some d → IsStrictlySortedBy pair_cmp (f d))
      → ((a b : ℕ) (c d : Link) (x y : Pair) → a < b → child a ≡ Some c → child b ≡ Some d → Member x (f c) → Member y (f d) → pair_cmp x y ≡ Less)
      → IsStrictlySortedBy pair_cmp (of_children f child from count)
  unfolding of_children
  sorted_of from zero sorted before = sorted_none pair_cmp
  sorted_of from (suc count) sorted before =
      sorted_both pair_cmp (of_child f (child from)) (of_children f child (from + 1) count) (one (child from) refl) (sorted_of (from + 1) count sorted before) (λ x y i j.
      let o = of_one x (child from) i in
      let r = listed_of y (from + 1) count j in
      let low = r.low in
      before from r.byte o.0 r.link x y (omega (arith, low)) o.1 r.is o.2 r.listed)
    where
      one : (o : Option Link) → child from ≡ o → IsStrictlySortedBy pair_cmp (of_child f o)
      one None e = sorted_none pair_cmp
      one (Some d) e = sorted from d e

-- ---- of a tree

module _ (h : Heap) (s : IsTree h) where
  -- each pair is a row, below the cell
  pub each_row : (depth : ℕ) (c : Link) (p : List ℕ) → StandsAt h c p → (x : Pair) → Member x (listing h depth c) → Row h x.0 x.1 × Begins p x.0
  unfolding listing
  each_row depth (leaf l) p at x i = subst (λ (y : Pair). Row h y.0 y.1 × Begins p y.0) (sym (only (subst (Member x) (listing_leaf h depth l) i)))
      (record { number = l; path = p; at = at; key = refl; value = refl }, s.spelled l p at)
    where
      only : Member x ((h.key l, h.value l) ∷ []) → x ≡ (h.key l, h.value l)
      only j = ⊎_elim (λ (e : x ≡ (h.key l, h.value l)). e) (λ (none : ⊥). absurd none) j
  each_row zero (node n) p at x i = absurd i
  each_row (suc depth) (node n) p at x i =
      let r = listed_of (λ d. listing h depth d) (h.child n) x 0 256 i in
      let w = each_row depth r.link (path_past h n p r.byte) (down r.byte at r.is refl) x r.listed in
      (w.0, begins_more p (h.prefix n) x.0 (begins_more (p ++ h.prefix n) (r.byte ∷ []) x.0 w.1))

  -- they ascend
  pub ascends : (depth : ℕ) (c : Link) (p : List ℕ) → StandsAt h c p → IsStrictlySortedBy pair_cmp (listing h depth c)
  unfolding listing
  ascends depth (leaf l) p at = subst (IsStrictlySortedBy pair_cmp) (sym (listing_leaf h depth l)) (sorted_one pair_cmp (h.key l, h.value l))
  ascends zero (node n) p at = sorted_none pair_cmp
  ascends (suc depth) (node n) p at = sorted_of (λ d. listing h depth d) (h.child n) 0 256
      (λ b d is. ascends depth d (path_past h n p b) (down b at is refl))
      (λ a b c d x y less isa isb i j.
      before_byte (p ++ h.prefix n) x.0 y.0 a b
      (each_row depth c (path_past h n p a) (down a at isa refl) x i).1
      (each_row depth d (path_past h n p b) (down b at isb refl) y j).1
      less)

  -- all rows below the cell are there
  pub all_rows : ((n : Node) (b : ℕ) (d : Link) → h.child n b ≡ Some d → b < 256) → (depth : ℕ) (c : Link) (p k : List ℕ) (v : ℕ) → StandsAt h c p → 64 ≤ length p + depth → Begins p k → Row h k v
      → Member (k, v) (listing h depth c)
  unfolding listing
  all_rows bytes depth (leaf l) p k v at deep begins w =
      let same : w.number ≡ l = row_at_leaf h l p k v s at begins w in
      subst (Member (k, v)) (sym (listing_leaf h depth l)) (inl (ap₂ (λ (j : List ℕ) (u : ℕ). (j, u)) (sym w.key ∙ ap h.key same) (sym w.value ∙ ap h.value same)))
  all_rows bytes zero (node n) p k v at deep begins w = absurd (omega (arith, deep, s.short n p at))
  all_rows bytes (suc depth) (node n) p k v at deep begins w =
      let on = row_at_node h n p k v s at begins w in
      of_listed (λ d. listing h depth d) (h.child n) (k, v) 0 256 on.0 on.1 (omega arith) (let low = bytes n on.0 on.1 on.2 in omega (arith, low)) on.2
      (all_rows bytes depth on.1 (path_past h n p on.0) k v (down on.0 at on.2 refl) (omega (arith, deep, length_past h n p on.0)) on.3 w)

-- ---- how many there are

module _ (h : Heap) (most : ℕ) (low : (l : ℕ) (p : List ℕ) → StandsAt h (leaf l) p → l < most) where
  abbrev numbers : (xs : List Pair) → AllByRecursion (λ (x : Pair). Row h x.0 x.1) xs → List ℕ
  numbers [] rows = []
  numbers (x ∷ xs) rows = rows.0.number ∷ numbers xs rows.1

  length_numbers : (xs : List Pair) (rows : AllByRecursion (λ (x : Pair). Row h x.0 x.1) xs) → length (numbers xs rows) ≡ length xs
  length_numbers [] rows = refl
  length_numbers (x ∷ xs) rows = ap suc (length_numbers xs rows.1)

  not_itself : (k : List ℕ) → slice_cmp nat_cmp k k ≡ Less → ⊥
  not_itself k e = let same = tied_itself nat_list_cmp_total k in let both : Less ≡ Equal = sym e ∙ same in cc (both)

  others : (x : Pair) (r : Row h x.0 x.1) (xs : List Pair) (rows : AllByRecursion (λ (y : Pair). Row h y.0 y.1) xs) → AllByRecursion (λ (y : Pair). pair_cmp x y ≡ Less) xs
      → AllByRecursion (λ (q : ℕ). eqb r.number q ≡ false) (numbers xs rows)
  others x r [] rows less = tt
  others x r (y ∷ xs) rows less = (
    ne_eqb r.number rows.0.number (λ e.
        let key : x.0 ≡ y.0 = sym r.key ∙ (ap h.key e ∙ rows.0.key) in
        not_itself y.0 (subst (λ (k : List ℕ). slice_cmp nat_cmp k y.0 ≡ Less) key less.0)),
    others x r xs rows.1 less.1,
  )

  distinct : (xs : List Pair) (rows : AllByRecursion (λ (x : Pair). Row h x.0 x.1) xs) → IsStrictlySortedBy pair_cmp xs → IsDistinct eqb (numbers xs rows)
  unfolding IsDistinct IsStrictlySortedBy
  distinct [] rows sorted = tt
  distinct (x ∷ xs) rows sorted = (others x rows.0 xs rows.1 sorted.0, distinct xs rows.1 sorted.1)

  below : (xs : List Pair) (rows : AllByRecursion (λ (x : Pair). Row h x.0 x.1) xs) (q : ℕ) → list_any (eqb q) (numbers xs rows) ≡ true → q < most
  below [] rows q e = absurd (false≢true e)
  below (x ∷ xs) rows q e = ⊎_elim
      (λ (same : q ≡ rows.0.number). subst (λ (n : ℕ). n < most) (sym same) (low rows.0.number rows.0.path rows.0.at))
      (λ other. below xs rows.1 q (rw (ne_eqb q rows.0.number other) at e))
      (cases_eq q rows.0.number)

  -- ascending rows are no more than there are leaves
  pub few_rows : (xs : List Pair) → AllByRecursion (λ (x : Pair). Row h x.0 x.1) xs → IsStrictlySortedBy pair_cmp xs → length xs ≤ most
  few_rows xs rows sorted =
      let fits = length-le_from_distinct_below (numbers xs rows) most (distinct xs rows sorted) (below xs rows) in
      let long = length_numbers xs rows in
      omega (arith, fits, long)

-- ---- one step of a walk

pub listing_node : (h : Heap) (n : Node) (depth : ℕ) → 0 < depth → listing h depth (node n) ≡ of_children (λ d. listing h (depth - 1) d) (h.child n) 0 256
unfolding listing
listing_node h n zero pos = absurd (omega arith)
listing_node h n (suc depth) pos =
    let same : suc depth - 1 ≡ depth = omega arith in
    ap (λ (k : ℕ). of_children (λ d. listing h k d) (h.child n) 0 256) (sym same)
