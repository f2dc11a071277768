-- Looks that tile a range are a scan of it.
use Rattle.std.proofs.Common.{◌≡◌, ◌⊎◌, ℕ, true, false, List, [], ◌∷◌, length, inl, inr, Any, IsSome, IsTrue, refl, sym, ap, ◌∙◌, subst, arith}
use Rattle.std.proofs.lemmas.Bool.{and_from, and_parts, false≢true, true_from_ne_false, true≢false}
use Rattle.std.proofs.lemmas.List.Elements.{All-from_recursion, recursion_from_All}
use Rattle.std.specs.Cmp.{alike_right}
use Rattle.std.specs.declared.cmp.Ordering.{Ordering}
use Rattle.std.specs.declared.cmp.Ordering.TheVariants.{Less, Equal, Greater}
use Rattle.std.specs.List.{AllByRecursion}
use Rattle.std.specs.Option.{is_some}
use Rattle.std.specs.Ordering.{is_le, is_lt, ordering_reverse}
use Rattle.art_key.specs.declared.bounds.Bound.{Bound}
use Rattle.art_key.specs.declared.columns.Column.{Column}
use Rattle.art_key.specs.Bounds.{is_before}
use Rattle.art_key.specs.Columns.{order_of}
use Rattle.art_key.specs.Histories.{StandsIn, bound_at, replay}
use Rattle.art_model.specs.declared.rows.Row.{Row}
use Rattle.art_model.specs.Rows.{Order, Tuple, tuple_cmp, value_at}
use Rattle.art_model.specs.Scans.{IsOwed, is_between}
use Rattle.art_model.proofs.Order.{tuple_total}
use Rattle.art_model.proofs.Owed.{same_value}
use Rattle.art_model.proofs.Parts.{All-each}
use Rattle.art_scan.specs.Laws.{LooksThatTileAreScans}
use Rattle.art_scan.specs.Tiles.{AreTiles, EndsRange, MayStop, Tile, rows_of, states_of}
use Rattle.art_scan.proofs.Bounds.{before_on, bound_parts, key_before}
use Rattle.art_scan.proofs.Found.{standing}
use Rattle.art_scan.proofs.Listed.{HasStood, StandsFrom, listed_sorted, listed_stood, listed_within, stayed_listed}
use Rattle.art_scan.proofs.Replays.{replays_stand}

-- ---- the order of tuples, as tests of it

module _ (order : Order) where
  -- not before is at or after
  le_from : (s t : Tuple) → is_lt (tuple_cmp order t s) ≡ false → is_le (tuple_cmp order s t) ≡ true
  le_from s t e = ap is_le ((tuple_total order).antisymm s t) ∙ by (tuple_cmp order t s) e
    where
      by : (o : Ordering) → is_lt o ≡ false → is_le (ordering_reverse o) ≡ true
      by Less e = absurd (true≢false e)
      by Equal e = refl
      by Greater e = refl

  lt_from : (s t : Tuple) → is_le (tuple_cmp order s t) ≡ true → is_lt (tuple_cmp order t s) ≡ false
  lt_from s t e = ap is_lt ((tuple_total order).antisymm t s) ∙ by (tuple_cmp order s t) e
    where
      by : (o : Ordering) → is_le o ≡ true → is_lt (ordering_reverse o) ≡ false
      by Less e = refl
      by Equal e = refl
      by Greater e = absurd (false≢true e)

  le_on : (r s t : Tuple) → is_le (tuple_cmp order r s) ≡ true → is_le (tuple_cmp order s t) ≡ true → is_le (tuple_cmp order r t) ≡ true
  le_on r s t = by (tuple_cmp order r s) (tuple_cmp order s t) refl refl
    where
      by : (o p : Ordering) → tuple_cmp order r s ≡ o → tuple_cmp order s t ≡ p → is_le o ≡ true → is_le p ≡ true → is_le (tuple_cmp order r t) ≡ true
      by Less Less e f low high = ap is_le ((tuple_total order).trans r s t e f)
      by Less Equal e f low high = ap is_le (sym (alike_right (tuple_total order) s t r f) ∙ e)
      by Equal p e f low high = ap is_le ((tuple_total order).congr r s t e ∙ f) ∙ high
      by Less Greater e f low high = absurd (false≢true high)
      by Greater p e f low high = absurd (false≢true low)

module _ (schema : List Column) (lo hi : Tuple) (end reached : Bound) (limit : ℕ) (lo_stands : StandsIn schema lo) (ends : EndsRange schema hi end) where
  -- the key of a tuple that is not before lo is not before that of lo
  from_lo : (t : Tuple) → StandsIn schema t → is_le (tuple_cmp (order_of schema) lo t) ≡ true → is_before (bound_at schema t) (bound_at schema lo) ≡ false
  from_lo t stands e = key_before schema t lo stands lo_stands ∙ lt_from (order_of schema) lo t e

  up_to_end : (reached ≡ end) ⊎ (is_before reached end ≡ true) → (b : Bound) → is_before b reached ≡ true → is_before b end ≡ true
  up_to_end (inl at) b low = subst (λ (c : Bound). is_before b c ≡ true) at low
  up_to_end (inr before) b low = before_on b reached end low before

  -- ---- what is listed lies in the range

  between : (row : Row) → (reached ≡ end) ⊎ (is_before reached end ≡ true) → StandsFrom schema (bound_at schema lo) reached row → is_between (order_of schema) lo hi row.tuple ≡ true
  between row within at =
      and_from (is_le (tuple_cmp (order_of schema) lo row.tuple)) (is_le (tuple_cmp (order_of schema) row.tuple hi)) (le_from (order_of schema) lo row.tuple (sym (key_before schema row.tuple lo at.stands lo_stands) ∙ at.low))
      (sym (ends row.tuple at.stands) ∙ up_to_end within (bound_at schema row.tuple) at.high)

  abbrev Between : Row → Type 0
  Between row = is_between (order_of schema) lo hi row.tuple ≡ true

  listed_between : (tiles : List Tile) → AreTiles schema (bound_at schema lo) reached tiles
      → (tiles ≡ []) ⊎ ((reached ≡ end) ⊎ (is_before reached end ≡ true)) → AllByRecursion Between (rows_of tiles)
  listed_between tiles are (inl none) = subst (λ (l : List Tile). AllByRecursion Between (rows_of l)) (sym none) tt
  listed_between tiles are (inr within) =
      All-each (StandsFrom schema (bound_at schema lo) reached) Between (λ row at. between row within at) (rows_of tiles) (listed_within schema tiles (bound_at schema lo) reached are)

  -- ---- what is owed is listed

  -- where no look was made, nothing is owed
  none_owed : bound_at schema lo ≡ reached → (is_before reached end ≡ false) ⊎ (length (rows_of []) ≡ limit) → (t : Tuple) → IsOwed (order_of schema) (states_of schema []) lo hi limit (rows_of []) t → ⊥
  none_owed are (inl past) t owed =
      let parts = and_parts (is_le (tuple_cmp (order_of schema) lo t)) (is_le (tuple_cmp (order_of schema) t hi)) owed.within in
      let in_order : is_le (tuple_cmp (order_of schema) lo hi) ≡ true = le_on (order_of schema) lo t hi parts.0 parts.1 in
      false≢true (sym past ∙ (ap (λ (b : Bound). is_before b end) (sym are) ∙ (ends lo lo_stands ∙ in_order)))
  none_owed are (inr full) t owed = let row = owed.reached full in absurd (omega arith)

  module _ (tile : Tile) (tiles : List Tile) (are : AreTiles schema (bound_at schema lo) reached (tile ∷ tiles)) (within : (reached ≡ end) ⊎ (is_before reached end ≡ true)) where
    abbrev listed : List Row
    listed = rows_of (tile ∷ tiles)

    -- a row that is listed stands at the tuple or after it
    abbrev IsPassed : Tuple → Type 0
    IsPassed s = Any (λ (row : Row). IsTrue (is_le (tuple_cmp (order_of schema) s row.tuple))) listed

    -- what is not after hi is before where the looks ended, if these reached the end, or passed it
    is_reached : (s : Tuple) → StandsIn schema s → is_le (tuple_cmp (order_of schema) s hi) ≡ true → (is_before reached end ≡ false) ⊎ IsPassed s → is_before (bound_at schema s) reached ≡ true
    is_reached s stands high (inl past) = by within
      where
        by : (reached ≡ end) ⊎ (is_before reached end ≡ true) → is_before (bound_at schema s) reached ≡ true
        by (inl at) = ap (is_before (bound_at schema s)) at ∙ (ends s stands ∙ high)
        by (inr before) = absurd (true≢false (sym before ∙ past))
    is_reached s stands high (inr at) =
        let P : Row → Type 0 = StandsFrom schema (bound_at schema lo) reached in
        let row : Row = at.1 in
        let stood : P row = subst P at.3 (All-from_recursion P listed (listed_within schema (tile ∷ tiles) (bound_at schema lo) reached are) at.0 row at.2) in
        true_from_ne_false (is_before (bound_at schema s) reached) (λ past.
        let after : tuple_cmp (order_of schema) row.tuple s ≡ Less = bound_parts schema row.tuple s stood.stands stands reached stood.high past in
        true≢false (sym (ap is_lt after) ∙ lt_from (order_of schema) s row.tuple at.4))

    one_listed : (is_before reached end ≡ false) ⊎ (length listed ≡ limit) → (t : Tuple) → IsOwed (order_of schema) (states_of schema (tile ∷ tiles)) lo hi limit listed t → IsSome (value_at listed t)
    one_listed stopped t owed =
        let standing_one = standing schema (replay schema tile.before) t (replays_stand schema tile.before are.0.legal) (owed.stayed 0 (replay schema tile.before) (omega arith)) in
        let s : Tuple = standing_one.0 in
        let same : tuple_cmp (order_of schema) s t ≡ Equal = standing_one.2 in
        let parts = and_parts (is_le (tuple_cmp (order_of schema) lo t)) (is_le (tuple_cmp (order_of schema) t hi)) owed.within in
        let low : is_le (tuple_cmp (order_of schema) lo s) ≡ true = ap is_le (alike_right (tuple_total (order_of schema)) s t lo same) ∙ parts.0 in
        let high : is_le (tuple_cmp (order_of schema) s hi) ≡ true = ap is_le ((tuple_total (order_of schema)).congr s t hi same) ∙ parts.1 in
        let Has : Tuple → List Row → Type 0 = λ u rows. IsSome (value_at rows u) in
        let states : List (List Row) = states_of schema (tile ∷ tiles) in
        let stayed = All-each (Has t) (Has s) (λ rows there. ap is_some (same_value (order_of schema) s t same rows) ∙ there) states (recursion_from_All (Has t) states owed.stayed) in
        sym (ap is_some (same_value (order_of schema) s t same listed))
        ∙ stayed_listed schema (tile ∷ tiles) (bound_at schema lo) reached s are standing_one.1 (from_lo s standing_one.1 low) (is_reached s standing_one.1 high (passed s stopped same)) stayed
      where
        passed : (s : Tuple) → (is_before reached end ≡ false) ⊎ (length listed ≡ limit) → tuple_cmp (order_of schema) s t ≡ Equal → (is_before reached end ≡ false) ⊎ IsPassed s
        passed s (inl past) same = inl past
        passed s (inr full) same = let row = owed.reached full in inr (row.0, row.1, row.2, row.3, ap is_le ((tuple_total (order_of schema)).congr s t row.1.tuple same) ∙ row.4)

  owed_listed : (tiles : List Tile) → AreTiles schema (bound_at schema lo) reached tiles → MayStop end reached limit tiles
      → (t : Tuple) → IsOwed (order_of schema) (states_of schema tiles) lo hi limit (rows_of tiles) t → IsSome (value_at (rows_of tiles) t)
  owed_listed [] are stop t owed = absurd (none_owed are stop.stopped t owed)
  owed_listed (tile ∷ tiles) are stop t owed = by stop.within
    where
      by : (tile ∷ tiles ≡ []) ⊎ ((reached ≡ end) ⊎ (is_before reached end ≡ true)) → IsSome (value_at (rows_of (tile ∷ tiles)) t)
      by (inl none) = absurd (cc)
      by (inr within) = one_listed tile tiles are within stop.stopped t owed

pub looks_that_tile_are_scans : LooksThatTileAreScans
looks_that_tile_are_scans schema lo hi end reached limit tiles lo_stands ends are stop = record {
  few = stop.few;
  sorted = listed_sorted schema tiles (bound_at schema lo) reached are;
  within = All-from_recursion (λ (row : Row). is_between (order_of schema) lo hi row.tuple ≡ true) (rows_of tiles) (listed_between schema lo hi end reached limit lo_stands ends tiles are stop.within);
  stood = All-from_recursion (HasStood (states_of schema tiles)) (rows_of tiles) (listed_stood schema tiles (bound_at schema lo) reached are);
  complete = owed_listed schema lo hi end reached limit lo_stands ends tiles are stop;
}
