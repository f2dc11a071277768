-- Rows that are sorted in an order, cut at a tuple, and what they answer with one row more or less.
use Rattle.std.proofs.Common.{◌≡◌, ℕ, Bool, true, false, List, [], ◌∷◌, ◌++◌, Some, None, cond, refl, sym, ap, ◌∙◌, subst}
use Rattle.std.specs.List.{AllByRecursion}
use Rattle.std.specs.List.Sorted.{IsStrictlySortedBy}
use Rattle.std.specs.declared.cmp.Ordering.{Ordering}
use Rattle.std.specs.declared.cmp.Ordering.TheVariants.{Less, Equal, Greater}
use Rattle.std.specs.Ordering.{is_eq}
use Rattle.art_model.specs.declared.rows.Row.{Row}
use Rattle.art_model.specs.Places.{StandAfter, StandBefore}
use Rattle.art_model.specs.Rows.{IsSortedRows, Order, Tuple, is_same, tuple_cmp, value_at, with_row, without_row}
use Rattle.art_model.proofs.Order.{equal_by, same_by, same_is, same_turned, tuple_total}
use Rattle.art_model.proofs.Parts.{All-both, All-each, All-first, All-second, Sorted-without, above_greater, above_same}
use Rattle.art_model.proofs.Places.{gap_sorted, gap_value, gap_with, place_value, place_without}

module _ (order : Order) where
  abbrev row_cmp : Row → Row → Ordering
  row_cmp a b = tuple_cmp order a.tuple b.tuple

  -- the rows stand round the tuple, with one of it or with none
  pub data Cut (rows : List Row) (t : Tuple) : Type 0 where
    Gap : (front back : List Row) → rows ≡ front ++ back → StandBefore order t front → StandAfter order t back → Cut rows t
    Place : (front : List Row) (row : Row) (back : List Row) → rows ≡ front ++ row ∷ back → StandBefore order t front → tuple_cmp order row.tuple t ≡ Equal → StandAfter order t back → Cut rows t

  one_more : (row : Row) (rows : List Row) (t : Tuple) → tuple_cmp order row.tuple t ≡ Less → Cut rows t → Cut (row ∷ rows) t
  one_more row rows t less (Gap front back is before after) = Gap (row ∷ front) back (ap (λ (l : List Row). row ∷ l) is) (less, before) after
  one_more row rows t less (Place front x back is before same after) = Place (row ∷ front) x back (ap (λ (l : List Row). row ∷ l) is) (less, before) same after

  pub cut : (rows : List Row) (t : Tuple) → IsSortedRows order rows → Cut rows t
  unfolding IsStrictlySortedBy
  cut [] t sorted = Gap [] [] refl tt tt
  cut (row ∷ rows) t sorted = by_order (cut rows t sorted.1) (tuple_cmp order row.tuple t) refl
    where
      by_order : Cut rows t → (o : Ordering) → tuple_cmp order row.tuple t ≡ o → Cut (row ∷ rows) t
      by_order rest Less e = one_more row rows t e rest
      by_order rest Equal e = Place [] row rows refl tt e (All-each (λ (r : Row). tuple_cmp order row.tuple r.tuple ≡ Less) (λ (r : Row). tuple_cmp order r.tuple t ≡ Greater) (λ r less. above_same (tuple_total order) t row.tuple r.tuple e less) rows sorted.0)
      by_order rest Greater e = Gap [] (row ∷ rows) refl tt (e, All-each (λ (r : Row). tuple_cmp order row.tuple r.tuple ≡ Less) (λ (r : Row). tuple_cmp order r.tuple t ≡ Greater) (λ r less. above_greater (tuple_total order) t row.tuple r.tuple e less) rows sorted.0)

  -- ---- one more

  -- what is at the one tuple is not at a later one
  not_both : (a b q : Tuple) → tuple_cmp order a b ≡ Less → is_same a q ≡ true → is_same q b ≡ false
  not_both a b q less same = sym (same_is order q b) ∙ ap is_eq (sym ((tuple_total order).congr a q b (equal_by order a q same)) ∙ less)

  module _ (t q : Tuple) (value : ℕ) (back : List Row) where
    abbrev new : Row
    new = record { tuple = t; value = value }

    value_in : (front : List Row) → StandBefore order t front → value_at (front ++ new ∷ back) q ≡ cond (is_same q t) (Some value) (value_at (front ++ back) q)
    value_in [] h = ap (λ b. cond b (Some value) (value_at back q)) (same_turned t q)
    value_in (row ∷ front) h = by (value_in front h.1) (is_same row.tuple q) refl
      where
        by : value_at (front ++ new ∷ back) q ≡ cond (is_same q t) (Some value) (value_at (front ++ back) q) → (b : Bool) → is_same row.tuple q ≡ b → cond b (Some row.value) (value_at (front ++ new ∷ back) q) ≡ cond (is_same q t) (Some value) (cond b (Some row.value) (value_at (front ++ back) q))
        by rest true e = sym (ap (λ c. cond c (Some value) (Some row.value)) (not_both row.tuple t q h.0 e))
        by rest false e = rest

  pub value_with : (rows : List Row) (t q : Tuple) (value : ℕ) → IsSortedRows order rows → value_at rows t ≡ None → value_at (with_row order rows t value) q ≡ cond (is_same q t) (Some value) (value_at rows q)
  value_with rows t q value sorted none = by (cut rows t sorted)
    where
      by : Cut rows t → value_at (with_row order rows t value) q ≡ cond (is_same q t) (Some value) (value_at rows q)
      by (Gap front back is before after) =
          ap (λ (l : List Row). value_at (with_row order l t value) q) is ∙ (ap (λ (l : List Row). value_at l q) (gap_with order front back t before after value)
          ∙ (value_in t q value back front before ∙ sym (ap (λ (l : List Row). cond (is_same q t) (Some value) (value_at l q)) is)))
      by (Place front row back is before same after) =
          let there = sym none ∙ (ap (λ (l : List Row). value_at l t) is ∙ place_value order front back t before after row same) in absurd (cc)

  pub sorted_with : (rows : List Row) (t : Tuple) (value : ℕ) → IsSortedRows order rows → value_at rows t ≡ None → IsSortedRows order (with_row order rows t value)
  sorted_with rows t value sorted none = by (cut rows t sorted)
    where
      by : Cut rows t → IsSortedRows order (with_row order rows t value)
      by (Gap front back is before after) =
          subst (λ (l : List Row). IsSortedRows order (with_row order l t value)) (sym is) (subst (IsSortedRows order) (sym (gap_with order front back t before after value)) (gap_sorted order front back t before after value (subst (IsSortedRows order) is sorted)))
      by (Place front row back is before same after) =
          let there = sym none ∙ (ap (λ (l : List Row). value_at l t) is ∙ place_value order front back t before after row same) in absurd (cc)

  pub all_with : (P : Row → Type 0) (rows : List Row) (t : Tuple) (value : ℕ) → IsSortedRows order rows → value_at rows t ≡ None → P (record { tuple = t; value = value }) → AllByRecursion P rows → AllByRecursion P (with_row order rows t value)
  all_with P rows t value sorted none new all = by (cut rows t sorted)
    where
      by : Cut rows t → AllByRecursion P (with_row order rows t value)
      by (Gap front back is before after) =
          let parts = subst (AllByRecursion P) is all in
          subst (λ (l : List Row). AllByRecursion P (with_row order l t value)) (sym is) (subst (AllByRecursion P) (sym (gap_with order front back t before after value))
          (All-both P front (record { tuple = t; value = value } ∷ back) (All-first P front back parts) (new, All-second P front back parts)))
      by (Place front row back is before same after) =
          let there = sym none ∙ (ap (λ (l : List Row). value_at l t) is ∙ place_value order front back t before after row same) in absurd (cc)

  -- ---- one less

  module _ (t q : Tuple) (row : Row) (same : tuple_cmp order row.tuple t ≡ Equal) (back : List Row) (after : StandAfter order t back) where
    -- nothing behind is at a tuple that stands before it
    none_behind : (rows : List Row) → StandAfter order t rows → is_same q t ≡ true → value_at rows q ≡ None
    none_behind [] h e = refl
    none_behind (r ∷ rows) h e =
        let low : tuple_cmp order q r.tuple ≡ tuple_cmp order t r.tuple = (tuple_total order).congr q t r.tuple (equal_by order q t e) in
        let far : is_same r.tuple q ≡ false = same_turned r.tuple q ∙ (same_by order q r.tuple low ∙ (same_is order t r.tuple ∙ (same_turned t r.tuple ∙ same_by order r.tuple t h.0))) in
        ap (λ b. cond b (Some r.value) (value_at rows q)) far ∙ none_behind rows h.1 e

    value_out : (front : List Row) → StandBefore order t front → value_at (front ++ back) q ≡ cond (is_same q t) None (value_at (front ++ row ∷ back) q)
    value_out [] h = by (is_same q t) refl
      where
        here : is_same row.tuple q ≡ is_same q t
        here = same_by order row.tuple q ((tuple_total order).congr row.tuple t q same) ∙ (same_is order t q ∙ same_turned t q)

        by : (b : Bool) → is_same q t ≡ b → value_at back q ≡ cond b None (value_at (row ∷ back) q)
        by true e = none_behind back after e
        by false e = sym (ap (λ b. cond b (Some row.value) (value_at back q)) (here ∙ e))
    value_out (r ∷ front) h = by (value_out front h.1) (is_same r.tuple q) refl
      where
        by : value_at (front ++ back) q ≡ cond (is_same q t) None (value_at (front ++ row ∷ back) q) → (b : Bool) → is_same r.tuple q ≡ b → cond b (Some r.value) (value_at (front ++ back) q) ≡ cond (is_same q t) None (cond b (Some r.value) (value_at (front ++ row ∷ back) q))
        by rest true e = sym (ap (λ c. cond c None (Some r.value)) (not_both r.tuple t q h.0 e))
        by rest false e = rest

  module _ (rows : List Row) (t : Tuple) (value : ℕ) (sorted : IsSortedRows order rows) (there : value_at rows t ≡ Some value) where
    no_gap : (front back : List Row) → rows ≡ front ++ back → StandBefore order t front → StandAfter order t back → ⊥
    no_gap front back is before after = let none = sym there ∙ (ap (λ (l : List Row). value_at l t) is ∙ gap_value order front back t before after) in cc

    pub value_without : (q : Tuple) → value_at (without_row order rows t) q ≡ cond (is_same q t) None (value_at rows q)
    value_without q = by (cut rows t sorted)
      where
        by : Cut rows t → value_at (without_row order rows t) q ≡ cond (is_same q t) None (value_at rows q)
        by (Gap front back is before after) = absurd (no_gap front back is before after)
        by (Place front row back is before same after) =
            ap (λ (l : List Row). value_at (without_row order l t) q) is ∙ (ap (λ (l : List Row). value_at l q) (place_without order front back t before after row same)
            ∙ (value_out t q row same back after front before ∙ sym (ap (λ (l : List Row). cond (is_same q t) None (value_at l q)) is)))

    pub sorted_without : IsSortedRows order (without_row order rows t)
    sorted_without = by (cut rows t sorted)
      where
        by : Cut rows t → IsSortedRows order (without_row order rows t)
        by (Gap front back is before after) = absurd (no_gap front back is before after)
        by (Place front row back is before same after) =
            subst (λ (l : List Row). IsSortedRows order (without_row order l t)) (sym is) (subst (IsSortedRows order) (sym (place_without order front back t before after row same)) (Sorted-without row_cmp front row back (subst (IsSortedRows order) is sorted)))

    pub all_without : (P : Row → Type 0) → AllByRecursion P rows → AllByRecursion P (without_row order rows t)
    all_without P all = by (cut rows t sorted)
      where
        by : Cut rows t → AllByRecursion P (without_row order rows t)
        by (Gap front back is before after) = absurd (no_gap front back is before after)
        by (Place front row back is before same after) =
            let parts = subst (AllByRecursion P) is all in
            subst (λ (l : List Row). AllByRecursion P (without_row order l t)) (sym is) (subst (AllByRecursion P) (sym (place_without order front back t before after row same))
            (All-both P front back (All-first P front (row ∷ back) parts) (All-second P front (row ∷ back) parts).1))
