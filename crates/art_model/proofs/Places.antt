-- Where a tuple stands among rows that are sorted in an order, and what the map answers there.
use Rattle.std.proofs.Common.{◌≡◌, ℕ, ◌+◌, ◌-◌, ◌<◌, ◌≤◌, List, [], ◌∷◌, ◌++◌, Some, None, Result, Ok, Err, MatchResult, inl, inr, cond, length, get_or, take, drop, refl, sym, ap, ◌∙◌, subst, arith, add-one, insert, remove}
use Rattle.std.proofs.lemmas.List.{take-append-drop, length-take-le, length-drop, get_or-take, get_or-drop}
use Rattle.std.proofs.lemmas.List.Elements.{recursion_from_All, All-from_recursion}
use Rattle.std.proofs.lemmas.Bool.{cases_lt}
use Rattle.std.specs.List.Sorted.{IsSearchInRange, IsBinarySearchResult, IsNonDecreasingBy}
use Rattle.std.specs.Cmp.{alike_right}
use Rattle.std.proofs.Math.Seq.{drop-cons}
use Rattle.std.specs.declared.cmp.Ordering.{Ordering}
use Rattle.std.specs.declared.cmp.Ordering.TheVariants.{Less, Equal, Greater}
use Rattle.std.specs.Ordering.{ordering_index}
use Rattle.std.specs.List.{AllByRecursion}
use Rattle.std.specs.List.Sorted.{IsStrictlySortedBy}
use Rattle.art_model.specs.declared.rows.Row.{Row}
use Rattle.art_model.specs.Rows.{Order, Sorted, Tuple, tuple_cmp, IsSortedRows, value_at, rows_before, rows_after, with_row, without_row}
use Rattle.art_model.specs.Places.{StandBefore, StandAfter, IsPlaceOf, IsGapFor}
use Rattle.art_model.proofs.Order.{same_by, tuple_total}
use Rattle.art_model.proofs.Parts.{gap_before, gap_after, place_before, place_after, All-each, Sorted-second, Sorted-with, Sorted-without, above_same, above_greater, below_greater}

module _ (order : Order) where
  -- how rows compare
  abbrev row_cmp : Row → Row → Ordering
  row_cmp a b = tuple_cmp order a.tuple b.tuple

  -- ---- the map's words over a list in two parts, or with a row between them

  value_at-before : (front rows : List Row) (t : Tuple) → StandBefore order t front → value_at (front ++ rows) t ≡ value_at rows t
  value_at-before [] rows t h = refl
  value_at-before (row ∷ front) rows t h = ap (λ b. cond b (Some row.value) (value_at (front ++ rows) t)) (same_by order row.tuple t h.0) ∙ value_at-before front rows t h.1

  value_at-after : (back : List Row) (t : Tuple) → StandAfter order t back → value_at back t ≡ None
  value_at-after [] t h = refl
  value_at-after (row ∷ back) t h = ap (λ b. cond b (Some row.value) (value_at back t)) (same_by order row.tuple t h.0) ∙ value_at-after back t h.1

  module _ (front back : List Row) (t : Tuple) (before : StandBefore order t front) (after : StandAfter order t back) where
    pub gap_value : value_at (front ++ back) t ≡ None
    gap_value = value_at-before front back t before ∙ value_at-after back t after

    pub gap_with : (v : ℕ) → with_row order (front ++ back) t v ≡ front ++ record { tuple = t; value = v } ∷ back
    gap_with v =
        let b : rows_before order (front ++ back) t ≡ front = gap_before (λ row. tuple_cmp order row.tuple t) front back before after in
        let a : rows_after order (front ++ back) t ≡ back = gap_after (λ row. tuple_cmp order row.tuple t) front back before after in
        λ i. b i ++ record { tuple = t; value = v } ∷ a i

    pub gap_sorted : (v : ℕ) → IsSortedRows order (front ++ back) → IsSortedRows order (front ++ record { tuple = t; value = v } ∷ back)
    gap_sorted v sorted =
        let above = All-each (λ row. tuple_cmp order row.tuple t ≡ Greater) (λ row. tuple_cmp order t row.tuple ≡ Less) (λ row. below_greater (tuple_total order) t row.tuple) back after in
        Sorted-with row_cmp front (record { tuple = t; value = v }) back sorted before above

    module _ (row : Row) (same : tuple_cmp order row.tuple t ≡ Equal) where
      pub place_value : value_at (front ++ row ∷ back) t ≡ Some row.value
      place_value = value_at-before front (row ∷ back) t before ∙ ap (λ b. cond b (Some row.value) (value_at back t)) (same_by order row.tuple t same)

      pub place_without : without_row order (front ++ row ∷ back) t ≡ front ++ back
      place_without =
          let b : rows_before order (front ++ row ∷ back) t ≡ front = place_before (λ r. tuple_cmp order r.tuple t) front row back before same after in
          let a : rows_after order (front ++ row ∷ back) t ≡ back = place_after (λ r. tuple_cmp order r.tuple t) front row back before same after in
          λ i. b i ++ a i

  -- ---- the same by the number of a place

  module _ (rows : List Row) (i : ℕ) where
    -- the rows, cut round the one at the place
    pub cut_at : (d : Row) → i < length rows → take i rows ++ get_or rows i d ∷ drop (i + 1) rows ≡ rows
    cut_at d within = ap (λ l. take i rows ++ l) (rw add-one (sym (drop-cons rows i d within))) ∙ take-append-drop i rows

    -- the row at the place stands before all later ones
    later : (d : Row) → i < length rows → IsSortedRows order rows → AllByRecursion (λ row. tuple_cmp order (get_or rows i d).tuple row.tuple ≡ Less) (drop (i + 1) rows)
    unfolding IsStrictlySortedBy
    later d within sorted = (Sorted-second row_cmp (take i rows) (get_or rows i d ∷ drop (i + 1) rows) (subst (IsSortedRows order) (sym (cut_at d within)) sorted)).0

    -- from a fact of each place to the fact of each row
    all_before : (P : Row → Type 0) → ((j : ℕ) (d : Row) → j < i → P (get_or rows j d)) → i ≤ length rows → AllByRecursion P (take i rows)
    all_before P each within = recursion_from_All P (take i rows) (λ j d below.
        let j_below : j < i = omega (arith, length-take-le i rows within) in
        subst P (sym (get_or-take i rows j d j_below)) (each j d j_below))

    all_after : (P : Row → Type 0) → ((j : ℕ) (d : Row) → i ≤ j → j < length rows → P (get_or rows j d)) → AllByRecursion P (drop i rows)
    all_after P each = recursion_from_All P (drop i rows) (λ j d below.
        subst P (sym (get_or-drop i rows j d)) (each (i + j) d (omega arith) (omega (arith, length-drop i rows))))

  module _ (rows : List Row) (sorted : IsSortedRows order rows) where
    -- an earlier row stands before a later one
    earlier : (i j : ℕ) (d : Row) → i < j → j < length rows → tuple_cmp order (get_or rows i d).tuple (get_or rows j d).tuple ≡ Less
    earlier i j d lt within =
        let row = get_or rows i d in
        let P : Row → Type 0 = λ r. tuple_cmp order row.tuple r.tuple ≡ Less in
        let here : P (get_or (drop (i + 1) rows) (j - (i + 1)) d) = All-from_recursion P (drop (i + 1) rows) (later rows i d (omega arith) sorted) (j - (i + 1)) d (omega (arith, length-drop (i + 1) rows)) in
        let at : get_or (drop (i + 1) rows) (j - (i + 1)) d ≡ get_or rows j d = get_or-drop (i + 1) rows (j - (i + 1)) d ∙ ap (λ n. get_or rows n d) (omega arith) in
        subst P at here

    module _ (t : Tuple) where
      abbrev at : Row → Ordering
      at row = tuple_cmp order row.tuple t

      index_up : (x y : Row) → tuple_cmp order x.tuple y.tuple ≡ Less → (o : Ordering) → at x ≡ o → ordering_index o ≤ ordering_index (at y)
      index_up x y less Less e = omega arith
      index_up x y less Equal e = rw (above_same (tuple_total order) t x.tuple y.tuple e less) (omega arith)
      index_up x y less Greater e = rw (above_greater (tuple_total order) t x.tuple y.tuple e less) (omega arith)

      -- the comparisons with the tuple rise along the rows
      rises : IsNonDecreasingBy (λ row. ordering_index (at row)) rows
      rises i j d le within = elim (cases_lt i j) [
        | inl lt ↦ index_up (get_or rows i d) (get_or rows j d) (earlier i j d lt within) (at (get_or rows i d)) refl
        | inr ge ↦ let same : i ≡ j = omega arith in subst (λ n. ordering_index (at (get_or rows i d)) ≤ ordering_index (at (get_or rows n d))) same (omega arith)
      ]

      -- a binary search ends at the row with the tuple, or in the gap for it
      pub searched : (r : Result ℕ ℕ) → IsSearchInRange r (length rows) → IsBinarySearchResult at rows r → MatchResult r (IsPlaceOf order rows t) (IsGapFor order rows t)
      searched (Ok i) within equal = record {
        within = within;
        same = equal;
        before = all_before rows i (λ row. at row ≡ Less) (λ j d below. sym (alike_right (tuple_total order) (get_or rows i d).tuple t (get_or rows j d).tuple (equal d)) ∙ earlier j i d below within) (omega arith);
        after = all_after rows (i + 1) (λ row. at row ≡ Greater) (λ j d above inside. above_same (tuple_total order) t (get_or rows i d).tuple (get_or rows j d).tuple (equal d) (earlier i j d (omega arith) inside));
      }
      searched (Err i) within parted = record {
        within = within;
        before = all_before rows i (λ row. at row ≡ Less) (λ j d below. (parted rises).0 j d (omega arith) below) within;
        after = all_after rows i (λ row. at row ≡ Greater) (λ j d above inside. (parted rises).1 j d above inside);
      }

  module _ (rows : List Row) (t : Tuple) (i : ℕ) where
    module _ (place : IsPlaceOf order rows t i) where
      no_row : Row
      no_row = record { tuple = record { items = [] }; value = 0 }

      pub found_value : (d : Row) → value_at rows t ≡ Some (get_or rows i d).value
      found_value d = ap (λ l. value_at l t) (sym (cut_at rows i d place.within)) ∙ place_value (take i rows) (drop (i + 1) rows) t place.before place.after (get_or rows i d) (place.same d)

      pub found_without : without_row order rows t ≡ remove rows i
      found_without =
          let row = get_or rows i no_row in
          ap (λ l. without_row order l t) (sym (cut_at rows i no_row place.within)) ∙ place_without (take i rows) (drop (i + 1) rows) t place.before place.after row (place.same no_row) ∙ ap (λ n. take i rows ++ drop n rows) (add-one i)

      pub found_sorted : IsSortedRows order rows → IsSortedRows order (remove rows i)
      found_sorted sorted =
          let cut = subst (IsSortedRows order) (sym (cut_at rows i no_row place.within)) sorted in
          subst (λ n. IsSortedRows order (take i rows ++ drop n rows)) (add-one i) (Sorted-without row_cmp (take i rows) (get_or rows i no_row) (drop (i + 1) rows) cut)

    module _ (gap : IsGapFor order rows t i) where
      pub absent_value : value_at rows t ≡ None
      absent_value = ap (λ l. value_at l t) (sym (take-append-drop i rows)) ∙ gap_value (take i rows) (drop i rows) t gap.before gap.after

      pub added_with : (v : ℕ) → with_row order rows t v ≡ insert rows i (record { tuple = t; value = v })
      added_with v = ap (λ l. with_row order l t v) (sym (take-append-drop i rows)) ∙ gap_with (take i rows) (drop i rows) t gap.before gap.after v

      pub added_sorted : (v : ℕ) → IsSortedRows order rows → IsSortedRows order (insert rows i (record { tuple = t; value = v }))
      added_sorted v sorted = gap_sorted (take i rows) (drop i rows) t gap.before gap.after v (subst (IsSortedRows order) (sym (take-append-drop i rows)) sorted)

-- ---- for a search of a slice that has the rows of a map, in its order

module _ {order : Order} {slice rows : List Row} {m : Sorted} {t : Tuple} {i : ℕ} (read : slice ≡ rows) (whole : record { order = order; rows = rows } ≡ m) where
  module _ (place : IsPlaceOf order slice t i) where
    place_in_rows : IsPlaceOf order rows t i
    place_in_rows = subst (λ l. IsPlaceOf order l t i) read place

    pub there : {row : Row} → row ≡ get_or rows i row → value_at m.rows t ≡ Some row.value
    there {row} at = ap (λ (n : Sorted). value_at n.rows t) (sym whole) ∙ found_value order rows t i place_in_rows row ∙ ap (λ (r : Row). Some r.value) (sym at)

    pub taken_out : without_row m.order m.rows t ≡ remove rows i
    taken_out = ap (λ (n : Sorted). without_row n.order n.rows t) (sym whole) ∙ found_without order rows t i place_in_rows

    pub taken_out_sorted : IsSortedRows order rows → IsSortedRows order (remove rows i)
    taken_out_sorted sorted = found_sorted order rows t i place_in_rows sorted

  module _ (gap : IsGapFor order slice t i) where
    gap_in_rows : IsGapFor order rows t i
    gap_in_rows = subst (λ l. IsGapFor order l t i) read gap

    pub nowhere : value_at m.rows t ≡ None
    nowhere = ap (λ (n : Sorted). value_at n.rows t) (sym whole) ∙ absent_value order rows t i gap_in_rows

    pub put_in : {copy : Tuple} (v : ℕ) → copy ≡ t → insert rows i (record { tuple = copy; value = v }) ≡ with_row m.order m.rows t v
    put_in {copy} v copied =
        ap (λ (u : Tuple). insert rows i (record { tuple = u; value = v })) copied
        ∙ sym (ap (λ (n : Sorted). with_row n.order n.rows t v) (sym whole) ∙ added_with order rows t i gap_in_rows v)

    pub put_in_sorted : {copy : Tuple} (v : ℕ) → copy ≡ t → IsSortedRows order rows → IsSortedRows order (insert rows i (record { tuple = copy; value = v }))
    put_in_sorted {copy} v copied sorted =
        subst (λ (u : Tuple). IsSortedRows order (insert rows i (record { tuple = u; value = v }))) (sym copied) (added_sorted order rows t i gap_in_rows v sorted)
