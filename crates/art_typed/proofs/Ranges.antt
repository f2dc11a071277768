-- The rows of a range, where the range has no spelling of a row, or one.
use Rattle.std.proofs.Common.{◌≡◌, ◌&&◌, ℕ, Bool, true, false, not, List, [], ◌∷◌, ◌++◌, Some, None, cond, filter, refl, sym, ap, ◌∙◌, subst}
use Rattle.std.proofs.lemmas.Bool.{false≢true}
use Rattle.std.proofs.lemmas.Option.{same_Some}
use Rattle.std.proofs.lemmas.Map.Lookups.{exact_bytes}
use Rattle.std.specs.FinMap.{get}
use Rattle.std.specs.Option.{option_map}
use Rattle.std.specs.List.{AllByRecursion}
use Rattle.std.specs.List.Sorted.{IsStrictlySortedBy}
use Rattle.std.specs.Cmp.Lexicographic.{slice_cmp}
use Rattle.std.specs.declared.cmp.Ordering.{Ordering}
use Rattle.std.specs.declared.cmp.Ordering.TheVariants.{Less, Equal, Greater}
use Rattle.std.specs.Ordering.{is_lt, nat_cmp, ordering_reverse}
use Rattle.std.specs.Prelude.{Option}
use Rattle.arrayvec.specs.ArrayVec.{ArrayVec}
use Rattle.art_key.specs.declared.bounds.Bound.{Bound as KeyBound}
use Rattle.art_key.specs.declared.bounds.Bound.TheVariants.{At, End}
use Rattle.art_key.specs.declared.columns.Column.{Column}
use Rattle.art_key.specs.Bounds.{is_before}
use Rattle.art_key.specs.Columns.{order_of}
use Rattle.art_key.specs.Histories.{OnlyRow as OnlyTyped, StandsIn, bound_at, is_in_range, rows_in}
use Rattle.art_key.specs.Spelling.{IsKeyOf, spelling, tuple_spelled}
use Rattle.art_key.proofs.TupleLaws.{keys_stand, none_begins, read_back}
use Rattle.art_model.specs.declared.rows.Row.{Row}
use Rattle.art_model.specs.Rows.{IsSortedRows, Order, Tuple, tuple_cmp, value_at}
use Rattle.art_model.proofs.Order.{same_by, tuple_total}
use Rattle.art_model.proofs.Parts.{All-first, All-second}
use Rattle.art_model.proofs.Places.{gap_value, place_value}
use Rattle.art_step.specs.Deeds.{bound_of, key_of}
use Rattle.art_step.specs.Histories.{OnlyRow}
use Rattle.art_tree.specs.Looks.{InRange, IsBelow}
use Rattle.art_tree.specs.Rows.{ByteMap}
use Rattle.art_typed.specs.Typed.{Spells, row_of, tuple_of}
use Rattle.art_typed.proofs.Cuts.{Cut, Gap, Place, cut}

-- ---- keys and tuples

-- a key that spells a tuple is that of the tuple that it is read as
pub known : (schema : List Column) (k : List ℕ) → IsKeyOf schema k → StandsIn schema (tuple_of schema k) × (k ≡ spelling schema (tuple_of schema k).items)
known schema k is =
    let read : tuple_spelled schema k ≡ Some is.0 = ap (tuple_spelled schema) is.1.spelled ∙ read_back schema is.0 is.1.stands in
    let same : (tuple_of schema k).items ≡ is.0 = ap (λ (o : Option (List _)). Rattle.std.specs.Prelude.unwrap_or o []) read in
    (subst (λ (l : List _). Rattle.art_key.specs.Columns.tuple_fault schema l ≡ None) (sym same) is.1.stands, is.1.spelled ∙ ap (spelling schema) (sym same))

-- ---- elements of a list

filter_none : (p : Row → Bool) (rows : List Row) → AllByRecursion (λ (r : Row). p r ≡ false) rows → filter p rows ≡ []
filter_none p [] h = refl
filter_none p (row ∷ rows) h = ap (λ b. cond b (row ∷ filter p rows) (filter p rows)) h.0 ∙ filter_none p rows h.1

filter_one : (p : Row → Bool) (front : List Row) (row : Row) (back : List Row) → AllByRecursion (λ (r : Row). p r ≡ false) front → p row ≡ true → AllByRecursion (λ (r : Row). p r ≡ false) back → filter p (front ++ row ∷ back) ≡ row ∷ []
filter_one p [] row back h is g = ap (λ b. cond b (row ∷ filter p back) (filter p back)) is ∙ ap (λ (l : List Row). row ∷ l) (filter_none p back g)
filter_one p (r ∷ front) row back h is g = ap (λ b. cond b (r ∷ filter p (front ++ row ∷ back)) (filter p (front ++ row ∷ back))) h.0 ∙ filter_one p front row back h.1 is g

each : (P Q : Row → Type 0) → ((r : Row) → P r → Q r) → (rows : List Row) → AllByRecursion P rows → AllByRecursion Q rows
each P Q f [] h = tt
each P Q f (r ∷ rows) h = (f r h.0, each P Q f rows h.1)

both : (P Q : Row → Type 0) (rows : List Row) → AllByRecursion P rows → AllByRecursion Q rows → AllByRecursion (λ (r : Row). P r × Q r) rows
both P Q [] h g = tt
both P Q (r ∷ rows) h g = ((h.0, g.0), both P Q rows h.1 g.1)

-- ---- each row has its value

itself : (order : Order) (t : Tuple) → tuple_cmp order t t ≡ Equal
itself order t = by (tuple_cmp order t t) ((tuple_total order).antisymm t t)
  where
    by : (o : Ordering) → o ≡ ordering_reverse o → o ≡ Equal
    by Less e = absurd (cc)
    by Equal e = refl
    by Greater e = absurd (cc)

pub have_values : (order : Order) (rows : List Row) → IsSortedRows order rows → AllByRecursion (λ (r : Row). value_at rows r.tuple ≡ Some r.value) rows
unfolding IsStrictlySortedBy
have_values order [] sorted = tt
have_values order (row ∷ rows) sorted = (
  ap (λ b. cond b (Some row.value) (value_at rows row.tuple)) (same_by order row.tuple row.tuple (itself order row.tuple)),
  each (λ (r : Row). (tuple_cmp order row.tuple r.tuple ≡ Less) × (value_at rows r.tuple ≡ Some r.value)) (λ (r : Row). value_at (row ∷ rows) r.tuple ≡ Some r.value)
      (λ r h. ap (λ b. cond b (Some row.value) (value_at rows r.tuple)) (same_by order row.tuple r.tuple h.0) ∙ h.1) rows
      (both (λ (r : Row). tuple_cmp order row.tuple r.tuple ≡ Less) (λ (r : Row). value_at rows r.tuple ≡ Some r.value) rows sorted.0 (have_values order rows sorted.1)),
)

-- ---- bounds

less : (o : Ordering) → is_lt o ≡ true → o ≡ Less
less Less e = refl
less Equal e = absurd (false≢true e)
less Greater e = absurd (false≢true e)

pub below_by : (k : List ℕ) (hi : KeyBound) → is_before (At (key_of k)) hi ≡ true → IsBelow k (bound_of hi)
below_by k (At b) e = less (slice_cmp nat_cmp k b.items) e
below_by k End e = tt

pub by_below : (k : List ℕ) (hi : KeyBound) → IsBelow k (bound_of hi) → is_before (At (key_of k)) hi ≡ true
by_below k (At b) e = ap is_lt e
by_below k End e = refl

and_true : (a b : Bool) → (a && b) ≡ true → (a ≡ true) × (b ≡ true)
and_true true b e = (refl, e)
and_true false b e = absurd (false≢true e)

not_true : (a : Bool) → not a ≡ true → a ≡ false
not_true true e = absurd (false≢true e)
not_true false e = refl

not_before : (o : Ordering) → is_lt o ≡ false → o ≡ Less → ⊥
not_before o e l = false≢true (sym e ∙ ap is_lt l)

before_not : (b : Bool) → (b ≡ true → ⊥) → b ≡ false
before_not true h = absurd (h refl)
before_not false h = refl

-- a tuple lies in a range where its spelling does
module _ (schema : List Column) (lo : ArrayVec ℕ) (hi : KeyBound) (t : Tuple) where
  abbrev k : List ℕ
  k = spelling schema t.items

  pub range_of : is_in_range schema (At lo) hi t ≡ true → InRange lo.items (bound_of hi) k
  range_of e =
      let parts = and_true (not (is_before (bound_at schema t) (At lo))) (is_before (bound_at schema t) hi) e in
      (not_before (slice_cmp nat_cmp k lo.items) (not_true (is_before (bound_at schema t) (At lo)) parts.0), below_by k hi parts.1)

  pub in_range : InRange lo.items (bound_of hi) k → is_in_range schema (At lo) hi t ≡ true
  in_range h =
      let low : is_before (bound_at schema t) (At lo) ≡ false = before_not (is_before (bound_at schema t) (At lo)) (λ e. h.0 (less (slice_cmp nat_cmp k lo.items) e)) in
      ap (λ b. not b && is_before (bound_at schema t) hi) low ∙ by_below k hi h.1

  pub out_of_range : (InRange lo.items (bound_of hi) k → ⊥) → is_in_range schema (At lo) hi t ≡ false
  out_of_range h = before_not (is_in_range schema (At lo) hi t) (λ e. h (range_of e))

-- ---- what a look found

module _ (schema : List Column) (m : ByteMap) (rows : List Row) (r : Spells schema m rows) (lo : ArrayVec ℕ) (hi : KeyBound) where
  abbrev p : Row → Bool
  p row = is_in_range schema (At lo) hi row.tuple

  -- each row is in the map
  in_map : AllByRecursion (λ (row : Row). StandsIn schema row.tuple × (get m (spelling schema row.tuple.items) ≡ Some row.value)) rows
  in_map = each (λ (row : Row). StandsIn schema row.tuple × (value_at rows row.tuple ≡ Some row.value)) (λ (row : Row). StandsIn schema row.tuple × (get m (spelling schema row.tuple.items) ≡ Some row.value))
      (λ row h. (h.0, r.same row.tuple h.0 ∙ h.1)) rows
      (both (λ (row : Row). StandsIn schema row.tuple) (λ (row : Row). value_at rows row.tuple ≡ Some row.value) rows r.stand (have_values (order_of schema) rows r.sorted))

  none_found : OnlyRow m lo.items (bound_of hi) None → rows_in schema rows (At lo) hi ≡ []
  none_found none = filter_none p rows (each (λ (row : Row). StandsIn schema row.tuple × (get m (spelling schema row.tuple.items) ≡ Some row.value)) (λ (row : Row). p row ≡ false)
      (λ row h. out_of_range schema lo hi row.tuple (none (spelling schema row.tuple.items) row.value h.1)) rows in_map)

  module _ (k : ArrayVec ℕ) (value : ℕ) (found : OnlyRow m lo.items (bound_of hi) (Some (k, value))) where
    abbrev t : Tuple
    t = tuple_of schema k.items

    tells : StandsIn schema t × (k.items ≡ spelling schema t.items)
    tells = known schema k.items (r.keys k.items value found.0)

    has : value_at rows t ≡ Some value
    has = sym (r.same t tells.0) ∙ (ap (get m) (sym tells.1) ∙ found.0)

    -- a row that is not at the tuple is not in the range
    elsewhere : (row : Row) → StandsIn schema row.tuple → get m (spelling schema row.tuple.items) ≡ Some row.value → (tuple_cmp (order_of schema) row.tuple t ≡ Equal → ⊥) → p row ≡ false
    elsewhere row stands at other = out_of_range schema lo hi row.tuple (λ inside.
        let same : spelling schema row.tuple.items ≡ spelling schema t.items = found.2 (spelling schema row.tuple.items) row.value at inside ∙ tells.1 in
        other (sym (keys_stand schema row.tuple.items t.items stands tells.0) ∙ (ap (λ (l : List ℕ). slice_cmp nat_cmp l (spelling schema t.items)) same ∙ (keys_stand schema t.items t.items tells.0 tells.0 ∙ itself (order_of schema) t))))

    one_found : OnlyTyped schema rows (At lo) hi (Some (row_of schema (k, value)))
    one_found = (tells.0, by (cut (order_of schema) rows t r.sorted))
      where
        by : Cut (order_of schema) rows t → rows_in schema rows (At lo) hi ≡ row_of schema (k, value) ∷ []
        by (Gap front back is before after) = let none = sym has ∙ (ap (λ (l : List Row). value_at l t) is ∙ gap_value (order_of schema) front back t before after) in absurd (cc)
        by (Place front row back is before same after) =
            let all = subst (AllByRecursion (λ (x : Row). StandsIn schema x.tuple × (get m (spelling schema x.tuple.items) ≡ Some x.value))) is in_map in
            let first = All-first (λ (x : Row). StandsIn schema x.tuple × (get m (spelling schema x.tuple.items) ≡ Some x.value)) front (row ∷ back) all in
            let rest = All-second (λ (x : Row). StandsIn schema x.tuple × (get m (spelling schema x.tuple.items) ≡ Some x.value)) front (row ∷ back) all in
            let bytes : spelling schema row.tuple.items ≡ spelling schema t.items = exact_bytes _ _ (keys_stand schema row.tuple.items t.items rest.0.0 tells.0 ∙ same) in
            let tuple : row.tuple.items ≡ t.items = (none_begins schema row.tuple.items t.items [] rest.0.0 tells.0 (ends (spelling schema row.tuple.items) ∙ bytes)).0 in
            let values : row.value ≡ value = same_Some row.value value (sym (ap (λ (l : List Row). value_at l t) is ∙ place_value (order_of schema) front back t before after row same) ∙ has) in
            let whole : row ≡ row_of schema (k, value) = λ i. record { tuple = record { items = tuple i }; value = values i } in
            let here : p row ≡ true = in_range schema lo hi row.tuple (subst (InRange lo.items (bound_of hi)) (tells.1 ∙ sym bytes) found.1) in
            ap (λ (l : List Row). rows_in schema l (At lo) hi) is ∙ (filter_one p front row back
            (each (λ (x : Row). (tuple_cmp (order_of schema) x.tuple t ≡ Less) × (StandsIn schema x.tuple × (get m (spelling schema x.tuple.items) ≡ Some x.value))) (λ (x : Row). p x ≡ false)
            (λ x h. elsewhere x h.1.0 h.1.1 (λ e. let c = sym h.0 ∙ e in cc)) front (both (λ (x : Row). tuple_cmp (order_of schema) x.tuple t ≡ Less) (λ (x : Row). StandsIn schema x.tuple × (get m (spelling schema x.tuple.items) ≡ Some x.value)) front before first))
            here
            (each (λ (x : Row). (tuple_cmp (order_of schema) x.tuple t ≡ Greater) × (StandsIn schema x.tuple × (get m (spelling schema x.tuple.items) ≡ Some x.value))) (λ (x : Row). p x ≡ false)
            (λ x h. elsewhere x h.1.0 h.1.1 (λ e. let c = sym h.0 ∙ e in cc)) back (both (λ (x : Row). tuple_cmp (order_of schema) x.tuple t ≡ Greater) (λ (x : Row). StandsIn schema x.tuple × (get m (spelling schema x.tuple.items) ≡ Some x.value)) back after rest.1))
            ∙ ap (λ (x : Row). x ∷ []) whole)
          where
            ends : (l : List ℕ) → l ++ [] ≡ l
            ends [] = refl
            ends (x ∷ l) = ap (λ (k : List ℕ). x ∷ k) (ends l)

  pub looked : (found : Option (ArrayVec ℕ × ℕ)) → OnlyRow m lo.items (bound_of hi) found → OnlyTyped schema rows (At lo) hi (option_map (row_of schema) found)
  looked None only = none_found only
  looked (Some row) only = one_found row.0 row.1 only
