-- The laws of texts and of sorted rows, for the crates above.
use Rattle.std.specs.Prelude.{◌≡◌, ℕ, List, length, Some, None, Result, MatchResult, insert, remove, slice_index_or}
use Rattle.std.specs.Cmp.{IsTotalOrder}
use Rattle.std.specs.Cmp.Lexicographic.{slice_cmp}
use Rattle.std.specs.List.Sorted.{IsSearchInRange, IsBinarySearchResult}
use Rattle.std.specs.Ordering.{nat_cmp, is_eq}
use Rattle.std.specs.Str.{IsUtf8, chars}
use Rattle.art_model.specs.declared.rows.Row.{Row}
use Rattle.art_model.specs.Rows.{Order, Tuple, tuple_cmp, is_same, IsSortedRows, value_at, with_row, without_row}
use Rattle.art_model.specs.Places.{IsPlaceOf, IsGapFor}

-- texts stand by their bytes of UTF-8 as they stand by their code points
abbrev pub TextsStandByCodePoints : Type 0
TextsStandByCodePoints = (s t : List ℕ) → IsUtf8 s → IsUtf8 t → slice_cmp nat_cmp s t ≡ slice_cmp nat_cmp (chars s) (chars t)

-- whichever columns descend, the order of tuples is total
abbrev pub OrdersAreTotal : Type 0
OrdersAreTotal = (order : Order) → IsTotalOrder (tuple_cmp order)

-- no order tells apart what has the same values, or takes for the same what has not
abbrev pub OrdersTellTuplesApart : Type 0
OrdersTellTuplesApart = (order : Order) (a b : Tuple) → is_eq (tuple_cmp order a b) ≡ is_same a b

-- a binary search of sorted rows for a tuple ends at its row, or in the gap for it
abbrev pub SearchesEndAtPlaces : Type 0
SearchesEndAtPlaces = (order : Order) (rows : List Row) (t : Tuple) (r : Result ℕ ℕ) → IsSortedRows order rows
    → IsSearchInRange r (length rows) → IsBinarySearchResult (λ row. tuple_cmp order row.tuple t) rows r
    → MatchResult r (IsPlaceOf order rows t) (IsGapFor order rows t)

-- the row at the place has the tuple's value, and the rows without it are those but the one at the place
abbrev pub RowsAnswerAtPlaces : Type 0
RowsAnswerAtPlaces = (order : Order) (rows : List Row) (t : Tuple) (i : ℕ) → IsPlaceOf order rows t i
    → ((d : Row) → value_at rows t ≡ Some (slice_index_or rows i d).value) × (without_row order rows t ≡ remove rows i)

-- no row has the tuple, and with one the rows are those with it in the gap
abbrev pub RowsAnswerInGaps : Type 0
RowsAnswerInGaps = (order : Order) (rows : List Row) (t : Tuple) (i : ℕ) → IsGapFor order rows t i
    → (value_at rows t ≡ None) × ((v : ℕ) → with_row order rows t v ≡ insert rows i (record { tuple = t; value = v }))

-- rows stay sorted with one more in its gap
abbrev pub RowsStaySorted : Type 0
RowsStaySorted = (order : Order) (rows : List Row) (t : Tuple) (i v : ℕ) → IsSortedRows order rows → IsGapFor order rows t i
    → IsSortedRows order (with_row order rows t v)

-- rows stay sorted without the one at its place
abbrev pub RowsStaySortedWithout : Type 0
RowsStaySortedWithout = (order : Order) (rows : List Row) (t : Tuple) (i : ℕ) → IsSortedRows order rows → IsPlaceOf order rows t i
    → IsSortedRows order (without_row order rows t)
