-- Looks that all saw the same rows list them in order.
use Rattle.std.proofs.Common.{◌≡◌, ◌⊎◌, ◌&&◌, ℕ, ◌<◌, ◌≤◌, Bool, true, false, not, List, [], ◌∷◌, ◌++◌, append-nil, cond, filter, length, take, Option, Some, None, inl, inr, refl, sym, ap, ap₂, ◌∙◌, subst, arith}
use Rattle.std.proofs.lemmas.Bool.{false_from_ne_true, true≢false}
use Rattle.std.proofs.lemmas.List.{take-append-le, take_all}
use Rattle.std.specs.List.{AllByRecursion, cons_option}
use Rattle.std.specs.List.Sorted.{IsStrictlySortedBy}
use Rattle.std.specs.Ordering.{is_le, is_lt, ordering_reverse}
use Rattle.std.specs.declared.cmp.Ordering.{Ordering}
use Rattle.std.specs.declared.cmp.Ordering.TheVariants.{Less, Equal, Greater}
use Rattle.art_key.specs.Bounds.{is_before}
use Rattle.art_key.specs.Columns.{order_of}
use Rattle.art_key.specs.Histories.{OnlyRow, StandsIn, bound_at, is_in_range, rows_in}
use Rattle.art_key.specs.declared.bounds.Bound.{Bound}
use Rattle.art_key.specs.declared.columns.Column.{Column}
use Rattle.art_model.proofs.Order.{tuple_total}
use Rattle.art_model.specs.Rows.{IsSortedRows, Tuple, rows_between, tuple_cmp}
use Rattle.art_model.specs.declared.rows.Row.{Row}
use Rattle.art_scan.proofs.Bounds.{before_on, key_before}
use Rattle.art_scan.specs.Alone.{LooksAtOneStateAreAnswers}
use Rattle.art_scan.specs.Tiles.{AreTiles, EndsRange, MayStop, Tile, rows_of, states_of}

-- ---- what is kept of a list, where the tests agree

same_kept : {A : Type 0} (P : A → Type 0) (p q : A → Bool) → ((a : A) → P a → p a ≡ q a) → (xs : List A) → AllByRecursion P xs → filter p xs ≡ filter q xs
same_kept P p q same [] all = refl
same_kept P p q same (a ∷ xs) all = ap₂ (λ (b : Bool) (l : List _). cond b (a ∷ l) l) (same a all.0) (same_kept P p q same xs all.1)

none_kept : {A : Type 0} (P : A → Type 0) (p : A → Bool) → ((a : A) → P a → p a ≡ false) → (xs : List A) → AllByRecursion P xs → filter p xs ≡ []
none_kept P p none [] all = refl
none_kept P p none (a ∷ xs) all = ap (λ (b : Bool). cond b (a ∷ filter p xs) (filter p xs)) (none a all.0) ∙ none_kept P p none xs all.1

and_false : (a b : Bool) → b ≡ false → (a && b) ≡ false
and_false true b is = is
and_false false b is = refl

not_and_same : (a : Bool) → (not a && a) ≡ false
not_and_same true = refl
not_and_same false = refl

module _ (schema : List Column) where
  -- the row stands in the schema
  abbrev Stands : Row → Type 0
  Stands row = StandsIn schema row.tuple

  abbrev at : Row → Bound
  at row = bound_at schema row.tuple

  -- its key is after that of another
  abbrev IsLater : Row → Row → Type 0
  IsLater first row = Stands row × (tuple_cmp (order_of schema) first.tuple row.tuple ≡ Less)

  both_hold : (first : Row) (rows : List Row) → AllByRecursion Stands rows → AllByRecursion (λ (r : Row). tuple_cmp (order_of schema) first.tuple r.tuple ≡ Less) rows → AllByRecursion (IsLater first) rows
  both_hold first [] stand later = tt
  both_hold first (row ∷ rows) stand later = ((stand.0, later.0), both_hold first rows stand.1 later.1)

  -- ---- one range after another

  -- where a row's key is not before b, no later one is in a range that ends there
  none_later : (first : Row) (a b : Bound) (rows : List Row) → Stands first → is_before (at first) b ≡ false → AllByRecursion (IsLater first) rows → rows_in schema rows a b ≡ []
  none_later first a b rows stands past later =
      none_kept (IsLater first) (λ (r : Row). is_in_range schema a b r.tuple) (λ r is. and_false (not (is_before (at r) a)) (is_before (at r) b) (past_it r is)) rows later
    where
      past_it : (r : Row) → IsLater first r → is_before (at r) b ≡ false
      past_it r is =
          let low : is_before (at first) (at r) ≡ true = key_before schema first.tuple r.tuple stands is.0 ∙ ap is_lt is.1 in
          false_from_ne_true (is_before (at r) b) (λ before. true≢false (sym (before_on (at first) (at r) b low before) ∙ past))

  abbrev up_to : Bound → Bound → Type 0
  up_to b c = (b ≡ c) ⊎ (is_before b c ≡ true)

  before_up_to : (k b c : Bound) → is_before k b ≡ true → up_to b c → is_before k c ≡ true
  before_up_to k b c before (inl same) = subst (λ (d : Bound). is_before k d ≡ true) same before
  before_up_to k b c before (inr less) = before_on k b c before less

  split_rows : (rows : List Row) → IsSortedRows (order_of schema) rows → AllByRecursion Stands rows → (a b c : Bound) → is_before a b ≡ true → up_to b c
      → rows_in schema rows a c ≡ rows_in schema rows a b ++ rows_in schema rows b c
  unfolding IsStrictlySortedBy
  split_rows [] sorted stand a b c low high = refl
  split_rows (row ∷ rows) sorted stand a b c low high = by (split_rows rows sorted.1 stand.1 a b c low high) (is_before (at row) a) (is_before (at row) b) (is_before (at row) c) refl refl refl
    where
      later : AllByRecursion (IsLater row) rows
      later = both_hold row rows stand.1 sorted.0

      by : rows_in schema rows a c ≡ rows_in schema rows a b ++ rows_in schema rows b c
          → (x y z : Bool) → is_before (at row) a ≡ x → is_before (at row) b ≡ y → is_before (at row) c ≡ z
          → cond (not (is_before (at row) a) && is_before (at row) c) (row ∷ rows_in schema rows a c) (rows_in schema rows a c)
          ≡ cond (not (is_before (at row) a) && is_before (at row) b) (row ∷ rows_in schema rows a b) (rows_in schema rows a b)
          ++ cond (not (is_before (at row) b) && is_before (at row) c) (row ∷ rows_in schema rows b c) (rows_in schema rows b c)
      by rest true true z x_is y_is z_is = rw (x_is, y_is) rest
      by rest true false z x_is y_is z_is = absurd (true≢false (sym (before_on (at row) a b x_is low) ∙ y_is))
      by rest false true true x_is y_is z_is = rw (x_is, y_is, z_is) (ap (λ (l : List Row). row ∷ l) rest)
      by rest false true false x_is y_is z_is = absurd (true≢false (sym (before_up_to (at row) b c y_is high) ∙ z_is))
      by rest false false true x_is y_is z_is =
          let none = none_later row a b rows stand.0 y_is later in
          rw (x_is, y_is, z_is) (ap (λ (l : List Row). row ∷ l) (rest ∙ ap (λ (l : List Row). l ++ rows_in schema rows b c) none) ∙ ap (λ (l : List Row). l ++ row ∷ rows_in schema rows b c) (sym none))
      by rest false false false x_is y_is z_is = rw (x_is, y_is, z_is) rest

  empty_range : (rows : List Row) (a : Bound) → rows_in schema rows a a ≡ []
  empty_range rows a = none_kept (λ (r : Row). r ≡ r) (λ (r : Row). is_in_range schema a a r.tuple) (λ r is. not_and_same (is_before (bound_at schema r.tuple) a)) rows (any rows)
    where
      any : (rows : List Row) → AllByRecursion (λ (r : Row). r ≡ r) rows
      any [] = tt
      any (r ∷ rs) = (refl, any rs)

  -- ---- looks, one after another

  tiles_up_to : (tiles : List Tile) (from to : Bound) → AreTiles schema from to tiles → up_to from to
  tiles_up_to [] from to are = inl are
  tiles_up_to (tile ∷ tiles) from to are =
      let low = subst (λ (b : Bound). is_before b tile.hi ≡ true) are.0.begins are.0.after in
      inr (before_up_to from tile.hi to low (tiles_up_to tiles tile.hi to are.1))

  found : (rows : List Row) (lo hi : Bound) (o : Option Row) (more : List Row) → OnlyRow schema rows lo hi o → cons_option o more ≡ rows_in schema rows lo hi ++ more
  found rows lo hi None more only = ap (λ (l : List Row). l ++ more) (sym only)
  found rows lo hi (Some row) more only = ap (λ (l : List Row). l ++ more) (sym only.1)

  listed : (rows : List Row) → IsSortedRows (order_of schema) rows → AllByRecursion Stands rows → (tiles : List Tile) (from to : Bound) → AreTiles schema from to tiles
      → AllByRecursion (λ state. state ≡ rows) (states_of schema tiles) → rows_of tiles ≡ rows_in schema rows from to
  listed rows sorted stand [] from to are same = sym (ap (rows_in schema rows from) (sym are) ∙ empty_range rows from)
  listed rows sorted stand (tile ∷ tiles) from to are same =
      let rest = listed rows sorted stand tiles tile.hi to are.1 same.1 in
      let only = subst (λ (l : List Row). OnlyRow schema l tile.lo tile.hi tile.row) same.0 are.0.exact in
      let low = subst (λ (b : Bound). is_before b tile.hi ≡ true) are.0.begins are.0.after in
      ap (cons_option tile.row) rest
      ∙ (found rows tile.lo tile.hi tile.row (rows_in schema rows tile.hi to) only
      ∙ (ap (λ (b : Bound). rows_in schema rows b tile.hi ++ rows_in schema rows tile.hi to) are.0.begins
      ∙ sym (split_rows rows sorted stand from tile.hi to low (tiles_up_to tiles tile.hi to are.1))))

  -- ---- the rows of a scan

  at_or_after : (s t : Tuple) → not (is_lt (tuple_cmp (order_of schema) t s)) ≡ is_le (tuple_cmp (order_of schema) s t)
  at_or_after s t = by (tuple_cmp (order_of schema) t s) ∙ ap is_le (sym ((tuple_total (order_of schema)).antisymm s t))
    where
      by : (o : Ordering) → not (is_lt o) ≡ is_le (ordering_reverse o)
      by Less = refl
      by Equal = refl
      by Greater = refl

  between : (rows : List Row) (lo hi : Tuple) (end : Bound) → AllByRecursion Stands rows → StandsIn schema lo → EndsRange schema hi end
      → rows_in schema rows (bound_at schema lo) end ≡ rows_between (order_of schema) rows lo hi
  between rows lo hi end stand lo_stands ends =
      same_kept Stands (λ (r : Row). is_in_range schema (bound_at schema lo) end r.tuple) (λ (r : Row). is_le (tuple_cmp (order_of schema) lo r.tuple) && is_le (tuple_cmp (order_of schema) r.tuple hi))
      (λ r stands. ap₂ (λ (a b : Bool). a && b) (ap not (key_before schema r.tuple lo stands lo_stands) ∙ at_or_after lo r.tuple) (ends r.tuple stands)) rows stand

-- where they stopped, the first rows are listed
first_rows : (limit : ℕ) (all listed rest : List Row) → all ≡ listed ++ rest → length listed ≤ limit → (rest ≡ []) ⊎ (length listed ≡ limit) → listed ≡ take limit all
first_rows limit all listed rest split few (inl none) =
    sym (ap (take limit) (split ∙ (ap (λ (l : List Row). listed ++ l) none ∙ append-nil listed)) ∙ take_all limit listed few)
first_rows limit all listed rest split few (inr full) =
    sym (ap (take limit) split ∙ (take-append-le limit listed rest (omega (arith, full)) ∙ take_all limit listed few))

module _ (schema : List Column) (rows : List Row) (lo hi : Tuple) (end reached : Bound) (limit : ℕ) (tiles : List Tile) (sorted : IsSortedRows (order_of schema) rows)
    (stand : AllByRecursion (λ row. StandsIn schema row.tuple) rows) (lo_stands : StandsIn schema lo) (ends : EndsRange schema hi end)
    (low : is_before (bound_at schema lo) end ≡ true) (are : AreTiles schema (bound_at schema lo) reached tiles)
    (same : AllByRecursion (λ state. state ≡ rows) (states_of schema tiles)) (stops : MayStop end reached limit tiles) (some : 0 < limit) where
  abbrev from : Bound
  from = bound_at schema lo

  so_far : rows_of tiles ≡ rows_in schema rows from reached
  so_far = listed schema rows sorted stand tiles from reached are same

  all : rows_in schema rows from end ≡ rows_between (order_of schema) rows lo hi
  all = between schema rows lo hi end stand lo_stands ends

  -- where nothing was found, the scan has not come to its limit
  not_full : rows_of tiles ≡ [] → length (rows_of tiles) ≡ limit → ⊥
  not_full none full = let zero = ap (length {A = Row}) none in let s = some in omega (arith, zero, full, s)

  at_start : from ≡ reached → (is_before reached end ≡ false) ⊎ (length (rows_of tiles) ≡ limit) → ⊥
  at_start is (inl past) = true≢false (sym (subst (λ (b : Bound). is_before b end ≡ true) is low) ∙ past)
  at_start is (inr full) = not_full (so_far ∙ ap (λ (b : Bound). rows_in schema rows b reached) is ∙ empty_range schema rows reached) full

  at_end : reached ≡ end → rows_of tiles ≡ take limit (rows_between (order_of schema) rows lo hi)
  at_end is =
      first_rows limit (rows_between (order_of schema) rows lo hi) (rows_of tiles) []
      (sym all ∙ (ap (rows_in schema rows from) (sym is) ∙ (sym so_far ∙ sym (append-nil (rows_of tiles))))) stops.few (inl refl)

  inside : is_before reached end ≡ true → (is_before from reached ≡ true) → length (rows_of tiles) ≡ limit → rows_of tiles ≡ take limit (rows_between (order_of schema) rows lo hi)
  inside before after full =
      first_rows limit (rows_between (order_of schema) rows lo hi) (rows_of tiles) (rows_in schema rows reached end)
      (sym all ∙ (split_rows schema rows sorted stand from reached end after (inr before) ∙ ap (λ (l : List Row). l ++ rows_in schema rows reached end) (sym so_far)))
      stops.few (inr full)

  by : (tiles ≡ []) ⊎ ((reached ≡ end) ⊎ (is_before reached end ≡ true)) → (is_before reached end ≡ false) ⊎ (length (rows_of tiles) ≡ limit)
      → (from ≡ reached) ⊎ (is_before from reached ≡ true) → rows_of tiles ≡ take limit (rows_between (order_of schema) rows lo hi)
  by (inl none) stopped way = absurd (at_start (subst (λ (ts : List Tile). AreTiles schema from reached ts) none are) stopped)
  by (inr (inl is)) stopped way = at_end is
  by (inr (inr before)) (inl past) way = absurd (true≢false (sym before ∙ past))
  by (inr (inr before)) (inr full) (inl is) = absurd (at_start is (inr full))
  by (inr (inr before)) (inr full) (inr after) = inside before after full

  they_are : rows_of tiles ≡ take limit (rows_between (order_of schema) rows lo hi)
  they_are = by stops.within stops.stopped (tiles_up_to schema tiles from reached are)

pub looks_at_one_state_are_answers : LooksAtOneStateAreAnswers
looks_at_one_state_are_answers schema rows lo hi end reached limit tiles sorted stand lo_stands ends low are same stops some =
    they_are schema rows lo hi end reached limit tiles sorted stand lo_stands ends low are same stops some
