-- What looks that tile a range found, one look after another.
use Rattle.std.proofs.Common.{◌≡◌, suc, Bool, true, false, List, [], ◌∷◌, Option, Some, None, Any, IsSome, refl, sym, ap, ◌∙◌, subst, arith}
use Rattle.std.proofs.lemmas.Bool.{and_parts, false≢true, not-true}
use Rattle.std.specs.declared.cmp.Ordering.TheVariants.{Less}
use Rattle.std.specs.List.{AllByRecursion, cons_option}
use Rattle.std.specs.List.Sorted.{IsStrictlySortedBy}
use Rattle.art_key.specs.declared.bounds.Bound.{Bound}
use Rattle.art_key.specs.declared.columns.Column.{Column}
use Rattle.art_key.specs.Bounds.{is_before}
use Rattle.art_key.specs.Columns.{order_of}
use Rattle.art_key.specs.Histories.{OnlyRow, StandsIn, bound_at, replay}
use Rattle.art_model.specs.declared.rows.Row.{Row}
use Rattle.art_model.specs.Rows.{IsSortedRows, Tuple, tuple_cmp, value_at}
use Rattle.art_model.proofs.Parts.{All-each}
use Rattle.art_scan.specs.Tiles.{AreTiles, IsTile, Tile, rows_of, states_of}
use Rattle.art_scan.proofs.Bounds.{before_on, bound_parts, not_before}
use Rattle.art_scan.proofs.Found.{found_inside, found_stood, in_range, is_found, is_listed}
use Rattle.art_scan.proofs.Replays.{replays_stand}

-- the row stood, with its value, at one of the looks
abbrev pub HasStood : List (List Row) → Row → Type 0
HasStood states row = Any (λ rows. value_at rows row.tuple ≡ Some row.value) states

stood_first : (states : List (List Row)) (rows : List Row) (row : Row) → value_at rows row.tuple ≡ Some row.value → HasStood (rows ∷ states) row
stood_first states rows row here = (0, rows, omega arith, refl, here)

stood_later : (states : List (List Row)) (rows : List Row) (row : Row) → HasStood states row → HasStood (rows ∷ states) row
stood_later states rows row at = (suc at.0, at.1, omega arith, at.3, at.4)

module _ (schema : List Column) where
  -- the row's tuple stands in the schema, and its key from one bound on, before another
  pub record StandsFrom (from to : Bound) (row : Row) : Type 0 where
    pub stands : StandsIn schema row.tuple
    pub low : is_before (bound_at schema row.tuple) from ≡ false
    pub high : is_before (bound_at schema row.tuple) to ≡ true

  -- ---- one look

  module _ (from : Bound) (tile : Tile) (is : IsTile schema from tile) where
    upward : is_before from tile.hi ≡ true
    upward = subst (λ (b : Bound). is_before b tile.hi ≡ true) is.begins is.after

    stands_there : (row : Row) → OnlyRow schema (replay schema tile.before) tile.lo tile.hi (Some row) → StandsFrom from tile.hi row
    stands_there row only =
        let inside = and_parts _ _ (found_inside schema tile.lo tile.hi (replay schema tile.before) (replays_stand schema tile.before is.legal) row only) in
        record {
          stands = only.0;
          low = subst (λ (b : Bound). is_before (bound_at schema row.tuple) b ≡ false) is.begins (not-true (is_before (bound_at schema row.tuple) tile.lo) inside.0);
          high = inside.1;
        }

    stood_there : (row : Row) → OnlyRow schema (replay schema tile.before) tile.lo tile.hi (Some row) → value_at (replay schema tile.before) row.tuple ≡ Some row.value
    stood_there row only = found_stood schema tile.lo tile.hi (replay schema tile.before) (replays_stand schema tile.before is.legal) row only

    -- rows from its end on stand from where it began on
    earlier : (to : Bound) (rows : List Row) → AllByRecursion (StandsFrom tile.hi to) rows → AllByRecursion (StandsFrom from to) rows
    earlier to rows h =
        All-each (StandsFrom tile.hi to) (StandsFrom from to) (λ row r. record { stands = r.stands; low = not_before (bound_at schema row.tuple) from tile.hi upward r.low; high = r.high }) rows h

  -- ---- looks, one after another

  -- what is before the first is before the end of the last
  before_end : (tiles : List Tile) (b from to : Bound) → AreTiles schema from to tiles → is_before b from ≡ true → is_before b to ≡ true
  before_end [] b from to are low = subst (λ (c : Bound). is_before b c ≡ true) are low
  before_end (tile ∷ tiles) b from to are low = before_end tiles b tile.hi to are.1 (before_on b from tile.hi low (upward from tile are.0))

  pub listed_within : (tiles : List Tile) (from to : Bound) → AreTiles schema from to tiles → AllByRecursion (StandsFrom from to) (rows_of tiles)
  listed_within [] from to are = tt
  listed_within (tile ∷ tiles) from to are = by (earlier from tile are.0 to (rows_of tiles) (listed_within tiles tile.hi to are.1)) tile.row are.0.exact
    where
      by : AllByRecursion (StandsFrom from to) (rows_of tiles) → (found : Option Row) → OnlyRow schema (replay schema tile.before) tile.lo tile.hi found
          → AllByRecursion (StandsFrom from to) (cons_option found (rows_of tiles))
      by rest None only = rest
      by rest (Some row) only =
          let there = stands_there from tile are.0 row only in
          (record { stands = there.stands; low = there.low; high = before_end tiles (bound_at schema row.tuple) tile.hi to are.1 there.high }, rest)

  pub listed_sorted : (tiles : List Tile) (from to : Bound) → AreTiles schema from to tiles → IsSortedRows (order_of schema) (rows_of tiles)
  unfolding IsStrictlySortedBy
  listed_sorted [] from to are = tt
  listed_sorted (tile ∷ tiles) from to are = by (listed_sorted tiles tile.hi to are.1) tile.row are.0.exact
    where
      by : IsSortedRows (order_of schema) (rows_of tiles) → (found : Option Row) → OnlyRow schema (replay schema tile.before) tile.lo tile.hi found → IsSortedRows (order_of schema) (cons_option found (rows_of tiles))
      by rest None only = rest
      by rest (Some row) only =
          let there = stands_there from tile are.0 row only in
          let after = λ (r : Row) (later : StandsFrom tile.hi to r). bound_parts schema row.tuple r.tuple there.stands later.stands tile.hi there.high later.low in
          (All-each (StandsFrom tile.hi to) (λ (r : Row). tuple_cmp (order_of schema) row.tuple r.tuple ≡ Less) after (rows_of tiles) (listed_within tiles tile.hi to are.1), rest)

  pub listed_stood : (tiles : List Tile) (from to : Bound) → AreTiles schema from to tiles → AllByRecursion (HasStood (states_of schema tiles)) (rows_of tiles)
  listed_stood [] from to are = tt
  listed_stood (tile ∷ tiles) from to are =
      let later = stood_later (states_of schema tiles) (replay schema tile.before) in
      by (All-each (HasStood (states_of schema tiles)) (HasStood (states_of schema (tile ∷ tiles))) later (rows_of tiles) (listed_stood tiles tile.hi to are.1)) tile.row are.0.exact
    where
      by : AllByRecursion (HasStood (states_of schema (tile ∷ tiles))) (rows_of tiles) → (found : Option Row)
          → OnlyRow schema (replay schema tile.before) tile.lo tile.hi found → AllByRecursion (HasStood (states_of schema (tile ∷ tiles))) (cons_option found (rows_of tiles))
      by rest None only = rest
      by rest (Some row) only = (stood_first (states_of schema tiles) (replay schema tile.before) row (stood_there from tile are.0 row only), rest)

  -- a tuple between the bounds that has a row at each look is listed
  pub stayed_listed : (tiles : List Tile) (from to : Bound) (t : Tuple) → AreTiles schema from to tiles → StandsIn schema t
      → is_before (bound_at schema t) from ≡ false → is_before (bound_at schema t) to ≡ true → AllByRecursion (λ (rows : List Row). IsSome (value_at rows t)) (states_of schema tiles)
      → IsSome (value_at (rows_of tiles) t)
  stayed_listed [] from to t are stands low high stayed = absurd (false≢true (sym low ∙ (ap (is_before (bound_at schema t)) are ∙ high)))
  stayed_listed (tile ∷ tiles) from to t are stands low high stayed =
      by (λ past. stayed_listed tiles tile.hi to t are.1 stands past high stayed.1) (is_before (bound_at schema t) tile.hi) refl
    where
      by : (is_before (bound_at schema t) tile.hi ≡ false → IsSome (value_at (rows_of tiles) t)) → (b : Bool) → is_before (bound_at schema t) tile.hi ≡ b → IsSome (value_at (rows_of (tile ∷ tiles)) t)
      by rest true e =
          let from_lo : is_before (bound_at schema t) tile.lo ≡ false = subst (λ (b : Bound). is_before (bound_at schema t) b ≡ false) (sym are.0.begins) low in
          is_found schema tile.lo tile.hi (replay schema tile.before) (replays_stand schema tile.before are.0.legal) t stands (in_range schema tile.lo tile.hi t from_lo e) stayed.0 tile.row are.0.exact (rows_of tiles)
      by rest false e = is_listed tile.row (rows_of tiles) t (rest e)
