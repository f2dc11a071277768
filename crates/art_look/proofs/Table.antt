-- A row of the table of looks says what there is, as far as it sees.
use Rattle.std.proofs.Common.{◌≡◌, ◌⊎◌, ℕ, ◌<◌, Bool, true, false, List, [], ◌∷◌, ◌++◌, Option, Some, None, inl, inr, refl, sym, ap, ◌∙◌, subst, arith, ⊎_elim, nat_cmp, append-nil}
use Rattle.std.specs.Prelude.{if◌then◌else◌}
use Rattle.std.proofs.lemmas.Bool.{cases_Bool, cases_order}
use Rattle.std.proofs.lemmas.Cmp.{nat_list_cmp_total}
use Rattle.std.specs.Cmp.Lexicographic.{slice_cmp}
use Rattle.std.specs.FinMap.{get}
use Rattle.std.specs.Ordering.{is_lt, ordering_reverse}
use Rattle.std.specs.declared.cmp.Ordering.{Ordering}
use Rattle.std.specs.declared.cmp.Ordering.TheVariants.{Less, Equal, Greater}
use Rattle.art_cell.specs.declared.cells.Link.{Link}
use Rattle.art_cell.specs.declared.cells.Link.TheVariants.{Leaf as leaf, Node as node}
use Rattle.art_cell.specs.declared.cells.Node.{Node}
use Rattle.art_key.specs.Bounds.{is_before}
use Rattle.art_key.specs.declared.bounds.Bound.{Bound as KeyBound}
use Rattle.art_key.specs.declared.bounds.Bound.TheVariants as key_bound
use Rattle.art_look.specs.Fronts.{IsLow}
use Rattle.art_look.specs.Seen.{bound_at, nearer, row_seen, row_within, with_key}
use Rattle.art_look.specs.Table.{HasNode, IsFirst, IsLeast, IsRow, end_at}
use Rattle.art_look.specs.declared.looks.Reach.{Reach}
use Rattle.art_look.specs.declared.looks.Reach.TheVariants.{Past, UpTo}
use Rattle.art_look.proofs.Ends.{past_more}
use Rattle.art_step.specs.Deeds.{bound_of, key_of}
use Rattle.art_step.specs.Histories.{OnlyRow}
use Rattle.art_tree.specs.Heaps.{Cells, heap_of}
use Rattle.art_tree.specs.Looks.{AreBytes, Before, Caps, InRange, IsBelow, NoneIn, OnlyIn, after}
use Rattle.art_tree.specs.Rows.{ByteMap, HasRows}
use Rattle.art_tree.specs.Tree.{Begins, Heap, IsTree, Row, StandsAt, down, path_past, top}
use Rattle.art_tree.specs.declared.bounds.Bound.{Bound}
use Rattle.art_tree.specs.declared.bounds.Bound.TheVariants.{To, End}
use Rattle.art_tree.proofs.After.{after_caps}
use Rattle.art_tree.proofs.ByteTexts.{append_bytes, key_bytes, path_bytes, prefix_bytes}
use Rattle.art_tree.proofs.Full.{caps_after}
use Rattle.art_tree.proofs.Order.{before_byte}
use Rattle.art_tree.proofs.Paths.{begins_more}
use Rattle.art_tree.proofs.TreeLaws.{looks_at_anchor, looks_at_node}

-- ---- ends of ranges

less_is : (o : Ordering) → is_lt o ≡ true → o ≡ Less
less_is Less e = refl
less_is Equal e = cc
less_is Greater e = cc

-- what is below an end is below one that is not before it
below_later : (k : List ℕ) (a b : KeyBound) → is_before a b ≡ false → IsBelow k (bound_of b) → IsBelow k (bound_of a)
below_later k (key_bound.At a) (key_bound.At b) later below = from (slice_cmp nat_cmp a.items b.items) refl
  where
    from : (o : Ordering) → slice_cmp nat_cmp a.items b.items ≡ o → Before k a.items
    from Less is = let test : is_lt (slice_cmp nat_cmp a.items b.items) ≡ true = ap is_lt is in cc
    from Equal is =
        nat_list_cmp_total.antisymm k a.items
        ∙ ap ordering_reverse (nat_list_cmp_total.congr a.items b.items k is)
        ∙ sym (nat_list_cmp_total.antisymm k b.items)
        ∙ below
    from Greater is = nat_list_cmp_total.trans k b.items a.items below (nat_list_cmp_total.antisymm b.items a.items ∙ ap ordering_reverse is)
below_later k (key_bound.At a) key_bound.End later below = cc
below_later k key_bound.End b later below = tt

-- and below one that is after it
below_earlier : (k : List ℕ) (a b : KeyBound) → is_before a b ≡ true → IsBelow k (bound_of a) → IsBelow k (bound_of b)
below_earlier k (key_bound.At a) (key_bound.At b) earlier below = nat_list_cmp_total.trans k a.items b.items below (less_is (slice_cmp nat_cmp a.items b.items) earlier)
below_earlier k (key_bound.At a) key_bound.End earlier below = tt
below_earlier k key_bound.End b earlier below = cc

below_nearer : (k : List ℕ) (a b : KeyBound) → IsBelow k (bound_of (nearer a b)) → IsBelow k (bound_of a) × IsBelow k (bound_of b)
below_nearer k a b below = ⊎_elim
    (λ (earlier : is_before a b ≡ true).
    let here : IsBelow k (bound_of a) = subst (λ (t : Bool). IsBelow k (bound_of (if t then a else b))) earlier below in
    (here, below_earlier k a b earlier here))
    (λ (later : is_before a b ≡ false).
    let here : IsBelow k (bound_of b) = subst (λ (t : Bool). IsBelow k (bound_of (if t then a else b))) later below in
    (below_later k a b later here, here))
    (cases_Bool (is_before a b))

pub nearer_below : (k : List ℕ) (a b : KeyBound) → IsBelow k (bound_of a) → IsBelow k (bound_of b) → IsBelow k (bound_of (nearer a b))
nearer_below k a b one other = either (is_before a b)
  where
    either : (t : Bool) → IsBelow k (bound_of (if t then a else b))
    either true = one
    either false = other

-- a key is before an end where it is below it
pub before_below : (k : List ℕ) (hi : KeyBound) → is_before (key_bound.At (key_of k)) hi ≡ true → IsBelow k (bound_of hi)
before_below k (key_bound.At a) earlier = less_is (slice_cmp nat_cmp k a.items) earlier
before_below k key_bound.End earlier = tt

not_below : (k : List ℕ) (hi : KeyBound) → is_before (key_bound.At (key_of k)) hi ≡ false → IsBelow k (bound_of hi) → ⊥
not_below k (key_bound.At a) later below = let test : is_lt (slice_cmp nat_cmp k a.items) ≡ true = ap is_lt below in cc
not_below k key_bound.End later below = cc

pub bound_back : (b : Bound) → bound_of (bound_at b) ≡ b
bound_back (To k) = refl
bound_back End = refl

-- ---- what there is, as far as a row of the table sees

module _ (s : Cells) (tree : IsTree (heap_of s)) where
  abbrev h : Heap
  h = heap_of s

  are_bytes : (k : List ℕ) (v : ℕ) → Row h k v → AreBytes k
  are_bytes k v row = subst AreBytes row.key (key_bytes s row.number)

  caps : (q : List ℕ) → AreBytes q → Caps h q (after q)
  caps q bytes = caps_after h q bytes are_bytes

  -- all that is found is this leaf
  leaf_only : (lo q : List ℕ) (l : ℕ) → IsFirst h lo q l → OnlyIn h lo (after q) (h.key l) (h.value l)
  leaf_only lo q l (inl root) = (looks_at_anchor h lo (after q) tree).alone l root.0
  leaf_only lo q l (inr has) = subst (λ (p : List ℕ). OnlyIn h lo (after p) (h.key l) (h.value l)) (sym has.path) (child has.least has.least.lowest)
    where
      child : IsLeast h lo has.n has.r has.low has.c (leaf l) → IsLow lo (has.r ++ h.prefix has.n) has.low → OnlyIn h lo (after (path_past h has.n has.r has.c)) (h.key l) (h.value l)
      child least (inl begins) = (looks_at_node h has.n has.r lo tree least.at least.front).a_leaf _ has.low has.c l begins least.child least.none (caps _ (path_bytes s (leaf l) _ (down has.c least.at least.child refl)))
      child least (inr past) = (looks_at_node h has.n has.r lo tree least.at least.front).first_leaf _ has.c l least.child
          (λ e low high. least.none e (omega (arith, past.0)) high) (caps _ (path_bytes s (leaf l) _ (down has.c least.at least.child refl)))

  -- its key begins with the path
  leaf_begins : (lo q : List ℕ) (l : ℕ) → IsFirst h lo q l → StandsAt h (leaf l) q
  leaf_begins lo q l (inl root) = top root.0 root.1
  leaf_begins lo q l (inr has) = down has.c has.least.at has.least.child has.path

  leaf_below : (lo q : List ℕ) (l : ℕ) → IsFirst h lo q l → IsBelow (h.key l) (after q)
  leaf_below lo q l first =
      let at = leaf_begins lo q l first in
      (after_caps q (h.key l) (path_bytes s (leaf l) q at) (key_bytes s l)).1 (inr (tree.spelled l q at))

  -- nothing is found
  path_is_bytes : (n : Node) (r : List ℕ) → StandsAt h (node n) r → AreBytes (r ++ h.prefix n)
  path_is_bytes n r at = append_bytes r (h.prefix n) (path_bytes s (node n) r at) (prefix_bytes s n)

  none_past : (lo q : List ℕ) → IsRow h lo q Past None → NoneIn h lo (after q)
  none_past lo q (inl empty) = (looks_at_anchor h lo (after q) tree).empty empty.0
  none_past lo q (inr (inl is)) = (looks_at_node h is.n q lo tree is.at is.front).short (after q) is.before is.apart (caps q (path_bytes s (node is.n) q is.at))
  none_past lo q (inr (inr has)) = subst (λ (p : List ℕ). NoneIn h lo (after p)) (sym has.path)
      ((looks_at_node h has.n has.r lo tree has.at has.front).none _ has.b has.next has.none (caps _ (path_is_bytes has.n has.r has.at)))

  none_up_to : (lo q : List ℕ) → HasNode h lo q → NoneIn h lo (To q)
  none_up_to lo q has = subst (λ (p : List ℕ). NoneIn h lo (To p)) (sym has.path) (child has.least has.least.lowest)
    where
      child : IsLeast h lo has.n has.r has.low has.c (node has.m) → IsLow lo (has.r ++ h.prefix has.n) has.low → NoneIn h lo (To (path_past h has.n has.r has.c))
      child least (inl begins) = (looks_at_node h has.n has.r lo tree least.at least.front).a_node has.low has.c begins least.none
      child least (inr past) = (looks_at_node h has.n has.r lo tree least.at least.front).first_node has.c (λ e low high. least.none e (omega (arith, past.0)) high)

  -- ---- so a map with its rows has this one, or none, before the nearer of both ends

  module _ (m : ByteMap) (rows : HasRows h m) (lo : List ℕ) (hi : KeyBound) where
    none_row : (b : Bound) → NoneIn h lo b → OnlyRow m lo (bound_of (nearer (bound_at b) hi)) None
    none_row b none k v is range =
        let below : IsBelow k b = subst (IsBelow k) (bound_back b) (below_nearer k (bound_at b) hi range.1).0 in
        none k v ((rows k v).1 is) (range.0, below)

    module _ (q : List ℕ) (l : ℕ) (first : IsFirst h lo q l) where
      abbrev k : List ℕ
      k = h.key l

      abbrev v : ℕ
      v = h.value l

      abbrev end : Bound
      end = bound_of (nearer (bound_at (after q)) hi)

      only : (j : List ℕ) (w : ℕ) → get m j ≡ Some w → InRange lo end j → j ≡ k
      only j w is range = (leaf_only lo q l first j w ((rows j w).1 is) (range.0, subst (IsBelow j) (bound_back (after q)) (below_nearer j (bound_at (after q)) hi range.1).0)).0

      row : Row h k v
      row = record { number = l; path = q; at = leaf_begins lo q l first; key = refl; value = refl }

      high : (t : Bool) → is_before (key_bound.At (key_of k)) hi ≡ t → (Before k lo → ⊥) → OnlyRow m lo end (if t then Some (key_of k, v) else None)
      high true is from = (
        (rows k v).0 row,
        (from, nearer_below k (bound_at (after q)) hi (subst (IsBelow k) (sym (bound_back (after q))) (leaf_below lo q l first)) (before_below k hi is)),
        only,
      )
      high false is from = λ j w has range.
          let same = only j w has range in
          let below = (below_nearer j (bound_at (after q)) hi range.1).1 in
          not_below k hi is (subst (λ (i : List ℕ). IsBelow i (bound_of hi)) same below)

      low : (t : Bool) → is_before (key_bound.At (key_of k)) (key_bound.At (key_of lo)) ≡ t
          → OnlyRow m lo end (if t then None else if is_before (key_bound.At (key_of k)) hi then Some (key_of k, v) else None)
      low true is = λ j w has range. range.0 (subst (λ (i : List ℕ). Before i lo) (sym (only j w has range)) (less_is (slice_cmp nat_cmp k lo) is))
      low false is = high (is_before (key_bound.At (key_of k)) hi) refl (λ (e : Before k lo). let test : is_lt (slice_cmp nat_cmp k lo) ≡ true = ap is_lt e in cc)

      leaf_row : OnlyRow m lo end (row_within lo hi k v)
      leaf_row = low (is_before (key_bound.At (key_of k)) (key_bound.At (key_of lo))) refl

    pub row_is_exact : (q k : List ℕ) (reach : Reach) (o : Option ℕ) → IsRow h lo q reach (with_key k o) → OnlyRow m lo (bound_of (nearer (bound_at (end_at reach q)) hi)) (row_seen lo hi k o)
    row_is_exact q j Past None is = none_row (after q) (none_past lo q is)
    row_is_exact q j Past (Some w) is =
        subst (λ (i : List ℕ). OnlyRow m lo (bound_of (nearer (bound_at (after q)) hi)) (row_within lo hi i w)) is.1
        (subst (λ (u : ℕ). OnlyRow m lo (bound_of (nearer (bound_at (after q)) hi)) (row_within lo hi (h.key is.0) u)) is.2 (leaf_row q is.0 is.3))
    row_is_exact q j UpTo None is = none_row (To q) (none_up_to lo q is)
    row_is_exact q j UpTo (Some w) never = absurd never

  -- ---- and what a row sees ends after the lower end

  module _ (lo : List ℕ) (bytes : AreBytes lo) where
    begun_below : (q : List ℕ) → AreBytes q → Begins q lo → IsBelow lo (after q)
    begun_below q path f = (after_caps q lo path bytes).1 (inr f)

    earlier_below : (q : List ℕ) → AreBytes q → Before lo q → IsBelow lo (after q)
    earlier_below q path e = (after_caps q lo path bytes).1 (inl e)

    -- the path of the least child is not before lo
    least_after : (n : Node) (r : List ℕ) (low c : ℕ) (d : Link) → IsLeast h lo n r low c d → Before lo (path_past h n r c) ⊎ Begins (path_past h n r c) lo
    least_after n r low c d least = from least.lowest
      where
        from : IsLow lo (r ++ h.prefix n) low → Before lo (path_past h n r c) ⊎ Begins (path_past h n r c) lo
        from (inl begins) = ⊎_elim
            (λ (same : low ≡ c). inr (subst (λ (b : ℕ). Begins (path_past h n r b) lo) same begins))
            (⊎_elim
            (λ (less : low < c). inl (before_byte (r ++ h.prefix n) lo (path_past h n r c) low c begins ([], append-nil _) less))
            (λ (more : c < low). absurd (omega (arith, more, least.from))))
            (cases_order low c)
        from (inr past) = inl (past_more lo (r ++ h.prefix n) c past.1)

    pub row_goes_on : (q : List ℕ) (reach : Reach) (found : Option (List ℕ × ℕ)) → IsRow h lo q reach found → IsBelow lo (end_at reach q)
    row_goes_on q Past None (inl empty) = subst (λ (p : List ℕ). IsBelow lo (after p)) (sym empty.1) tt
    row_goes_on q Past None (inr (inl is)) = begun_below q (path_bytes s (node is.n) q is.at) is.front
    row_goes_on q Past None (inr (inr has)) = subst (λ (p : List ℕ). IsBelow lo (after p)) (sym has.path) (begun_below _ (path_is_bytes has.n has.r has.at) (begins_more (has.r ++ h.prefix has.n) (has.b ∷ []) lo has.next))
    row_goes_on q Past (Some found) (l, is_key, is_value, inl root) = subst (λ (p : List ℕ). IsBelow lo (after p)) (sym root.1) tt
    row_goes_on q Past (Some found) (l, is_key, is_value, inr has) = subst (λ (p : List ℕ). IsBelow lo (after p)) (sym has.path) (⊎_elim
        (λ (e : Before lo (path_past h has.n has.r has.c)). earlier_below _ (path_bytes s (leaf l) _ (down has.c has.least.at has.least.child refl)) e)
        (λ (f : Begins (path_past h has.n has.r has.c) lo). begun_below _ (path_bytes s (leaf l) _ (down has.c has.least.at has.least.child refl)) f)
        (least_after has.n has.r has.low has.c (leaf l) has.least))
    row_goes_on q UpTo None has = subst (Before lo) (sym has.path) (⊎_elim
        (λ (e : Before lo (path_past h has.n has.r has.c)). e)
        (λ (f : Begins (path_past h has.n has.r has.c) lo). absurd (has.apart f))
        (least_after has.n has.r has.low has.c (node has.m) has.least))
    row_goes_on q UpTo (Some found) never = absurd never
