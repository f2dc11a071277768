-- What a scan owes: look-ups row by row, neighbours that ascend, and tuples that are settled by the rows of one state.
use Rattle.std.proofs.Common.{◌≡◌, ℕ, ◌+◌, ◌<◌, ◌↔◌, List, [], ◌∷◌, length, get_or, drop, Bool, true, false, cond, ◌&&◌, MatchBool, Some, IsTrue, IsSome, All, Any, refl, sym, ap, ap₂, ◌∙◌, subst, arith}
use Rattle.std.proofs.lemmas.Bool.Decides.{when_true}
use Rattle.std.proofs.lemmas.Iterator.Search.{true_from_All}
use Rattle.std.proofs.lemmas.List.{at_drop_more, get_or-map, get_or_default, length-map}
use Rattle.std.proofs.lemmas.List.Elements.{All-from_all_within, All-map, recursion_from_All}
use Rattle.std.proofs.lemmas.Map.Keys.{Less-from_sorted, sorted_from_all_adjacent}
use Rattle.std.specs.Cmp.{IsTotalOrder, alike_right, on_total}
use Rattle.std.specs.declared.cmp.Ordering.{Ordering}
use Rattle.std.specs.declared.cmp.Ordering.TheVariants.{Less, Equal, Greater}
use Rattle.std.specs.List.{AllByRecursion, AllWithin, HoldsAt, IsAllAdjacentAnswer}
use Rattle.std.specs.Option.{is_some}
use Rattle.std.specs.Ordering.{is_eq, is_le, is_lt}
use Rattle.art_model.specs.declared.rows.Row.{Row}
use Rattle.art_model.specs.Rows.{Order, Sorted, Tuple, tuple_cmp, is_same, IsSortedRows, rows_of_each, value_at}
use Rattle.art_model.specs.Scans.{IsOwed}
use Rattle.art_model.proofs.Order.{equal_by, same_is, tuple_total}

-- what `all` answers of a fact of each element
pub all_answers : {X : Type 0} (P : X → Type 0) (r : Bool) (xs : List X) → MatchBool r (AllWithin P xs 0 (length xs)) ((k : ℕ) × (k < length xs) × HoldsAt (λ x. P x → ⊥) xs k)
    → IsTrue r ↔ All P xs
all_answers P r xs answer = (λ e. All-from_all_within P xs (when_true _ _ e answer), true_from_All P (λ x. P x → ⊥) r xs (λ x p n. n p) answer)

-- ---- what is so of each map, or of one, is so of the rows of each

module _ (maps : List Sorted) where
  pub each_rows : (k : ℕ) (m : Sorted) (rows : List Row) → k < length maps → get_or (rows_of_each maps) k rows ≡ (get_or maps k m).rows
  each_rows k m rows within = get_or-map (λ (n : Sorted). n.rows) maps k m rows within

  pub as_many : length (rows_of_each maps) ≡ length maps
  as_many = length-map maps (λ (n : Sorted). n.rows)

  module _ (P : List Row → Type 0) where
    pub all_each : All (λ m. P m.rows) maps ↔ All P (rows_of_each maps)
    all_each = (
      All-map P (λ (n : Sorted). n.rows) maps,
      λ all k m within. subst P (each_rows k m m.rows within) (all k m.rows (omega (arith, as_many))),
    )

    pub any_each : Any (λ m. P m.rows) maps ↔ Any P (rows_of_each maps)
    any_each = (
      λ one. (one.0, one.1.rows, omega (arith, as_many, one.2), each_rows one.0 one.1 one.1.rows one.2 ∙ ap (λ (n : Sorted). n.rows) one.3, one.4),
      λ one.
          let none : Sorted = record { order = record { items = [] }; rows = one.1 } in
          let within : one.0 < length maps = omega (arith, as_many, one.2) in
          let m : Sorted = get_or maps one.0 none in
          let rows : one.1 ≡ m.rows = sym one.3 ∙ each_rows one.0 none one.1 within in
          (one.0, m, within, get_or_default maps one.0 m none within, subst P rows one.4),
    )

-- ---- a look for a tuple, at the row of a place

module _ (rows : List Row) (t : Tuple) (i : ℕ) (row : Row) (within : i < length rows) (is : row ≡ get_or rows i row) (so_far : value_at (drop i rows) t ≡ value_at rows t) where
  from_here : {b : Bool} → is_same row.tuple t ≡ b → value_at rows t ≡ cond b (Some row.value) (value_at (drop (i + 1) rows) t)
  from_here e =
      sym so_far
      ∙ at_drop_more (λ l. value_at l t) rows i row within
      ∙ ap (λ (r : Row). value_at (r ∷ drop (i + 1) rows) t) (sym is)
      ∙ ap (λ b. cond b (Some row.value) (value_at (drop (i + 1) rows) t)) e

  pub found_here : is_same row.tuple t ≡ true → Some row.value ≡ value_at rows t
  found_here e = sym (from_here e)

  pub passed_over : is_same row.tuple t ≡ false → value_at (drop (i + 1) rows) t ≡ value_at rows t
  passed_over e = sym (from_here e)

-- ---- rows that are sorted

no_row : Row
no_row = record { tuple = record { items = [] }; value = 0 }

less_from_is_lt : (o : Ordering) → true ≡ is_lt o → o ≡ Less
less_from_is_lt Less e = refl
less_from_is_lt Equal e = absurd (cc)
less_from_is_lt Greater e = absurd (cc)

module _ (order : Order) where
  abbrev row_cmp : Row → Row → Ordering
  row_cmp a b = tuple_cmp order a.tuple b.tuple

  row_total : IsTotalOrder row_cmp
  row_total = on_total (λ (row : Row). row.tuple) (tuple_total order)

  -- rows are sorted exactly where each stands before the next
  pub ascends : (rows : List Row) (r : Bool) → IsAllAdjacentAnswer (λ a b s. s ≡ is_lt (row_cmp a b)) rows r → IsTrue r ↔ IsSortedRows order rows
  ascends rows true each = (λ e. sorted_from_all_adjacent row_total rows no_row (λ k within. less_from_is_lt _ (each k no_row within)), λ sorted. refl)
  ascends rows false one = (
    λ e. absurd (cc),
    λ sorted.
        let stands_before = Less-from_sorted row_cmp rows one.0 (one.0 + 1) no_row sorted (omega arith) one.1 in
        let both : false ≡ true = one.2 no_row ∙ ap is_lt stands_before in
        absurd (cc),
  )

-- ---- one tuple for another that it is the same as

module _ (order : Order) (s t : Tuple) (same : tuple_cmp order s t ≡ Equal) where
  same_left : (u : Tuple) → tuple_cmp order s u ≡ tuple_cmp order t u
  same_left u = (tuple_total order).congr s t u same

  same_right : (u : Tuple) → tuple_cmp order u s ≡ tuple_cmp order u t
  same_right u = alike_right (tuple_total order) s t u same

  pub same_value : (rows : List Row) → value_at rows s ≡ value_at rows t
  same_value [] = refl
  same_value (row ∷ rows) = ap₂ (λ b v. cond b (Some row.value) v) (sym (same_is order row.tuple s) ∙ ap is_eq (same_right row.tuple) ∙ same_is order row.tuple t) (same_value rows)

  same_owed : (states : List (List Row)) (lo hi : Tuple) (limit : ℕ) (listed : List Row) → IsOwed order states lo hi limit listed t → IsOwed order states lo hi limit listed s
  same_owed states lo hi limit listed owed = record {
    within = ap₂ (λ o p. is_le o && is_le p) (same_right lo) (same_left hi) ∙ owed.within;
    reached = λ full. let row = owed.reached full in (row.0, row.1, row.2, row.3, ap is_le (same_left row.1.tuple) ∙ row.4);
    stayed = λ k d within. ap is_some (same_value (get_or states k d)) ∙ owed.stayed k d within;
  }

-- ---- tuples that are settled by the rows of one state

module _ (order : Order) (states : List (List Row)) (lo hi : Tuple) (limit : ℕ) (listed : List Row) where
  -- a row with the tuple is listed, if one is owed
  abbrev pub IsSettled : Tuple → Type 0
  IsSettled t = IsOwed order states lo hi limit listed t → IsSome (value_at listed t)

  -- a tuple that is owed has a row among these, which settle it
  settles : (rows : List Row) (t : Tuple) → AllByRecursion (λ row. IsSettled row.tuple) rows → IsOwed order states lo hi limit listed t → IsSome (value_at rows t) → IsSome (value_at listed t)
  settles [] t settled owed there = absurd (cc)
  settles (row ∷ rows) t settled owed there =
      (elim (is_same row.tuple t) as (λ b. is_same row.tuple t ≡ b → is_some (cond b (Some row.value) (value_at rows t)) ≡ true → IsSome (value_at listed t)) [
        | true ↦ λ e here.
            let same = equal_by order row.tuple t e in
            sym (ap is_some (same_value order row.tuple t same listed)) ∙ settled.0 (same_owed order row.tuple t same states lo hi limit listed owed)
        | false ↦ λ e later. settles rows t settled.1 owed later
      ]) refl there

  -- each tuple is settled where those of the first state's rows are
  pub settled_by_first : (rows : List Row) → 0 < length states → rows ≡ get_or states 0 rows → All (λ row. IsSettled row.tuple) rows ↔ ((t : Tuple) → IsSettled t)
  settled_by_first rows one is = (
    λ settled t owed.
        let there : IsSome (value_at rows t) = subst (λ (l : List Row). IsSome (value_at l t)) (sym is) (owed.stayed 0 rows one) in
        settles rows t (recursion_from_All (λ row. IsSettled row.tuple) rows settled) owed there,
    λ settled k d within. settled (get_or rows k d).tuple,
  )
