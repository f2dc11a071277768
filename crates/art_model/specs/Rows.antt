-- Sorted rows: the one map that everything is compared with.
use Rattle.std.specs.Prelude.{ℕ, List, [], ◌∷◌, ◌++◌, Bool, ◌&&◌, true, false, Option, Some, None, filter, map, if◌then◌else◌}
use Rattle.std.specs.List.Sorted.{IsStrictlySortedBy}
use Rattle.std.specs.declared.cmp.Ordering.{Ordering}
use Rattle.std.specs.declared.cmp.Ordering.TheVariants.{Less, Equal, Greater}
use Rattle.std.specs.Ordering.{is_eq, is_le, is_lt, is_gt, ordering_then}
use Rattle.std.specs.Cmp.Lexicographic.{slice_cmp}
use Rattle.arrayvec.specs.ArrayVec.{ArrayVec}
use Rattle.art_model.specs.declared.rows.Row.{Row}
use Rattle.art_model.specs.declared.values.Value.{Value}
use Rattle.art_model.specs.Values.{value_cmp}

abbrev pub Tuple : Type 0
Tuple = ArrayVec Value

-- ---- the order of tuples

-- for each column, whether its values descend; columns past the end ascend
abbrev pub Order : Type 0
Order = ArrayVec Bool

-- the values of a column that descends stand in reverse
abbrev pub column_cmp : Bool → Value → Value → Ordering
column_cmp false v w = value_cmp v w
column_cmp true v w = value_cmp w v

-- column by column, each in its own order: the first difference decides, and values that begin more values stand before them
abbrev pub values_cmp : List Bool → List Value → List Value → Ordering
values_cmp [] vs ws = slice_cmp value_cmp vs ws
values_cmp (d ∷ ds) [] [] = Equal
values_cmp (d ∷ ds) [] (w ∷ ws) = Less
values_cmp (d ∷ ds) (v ∷ vs) [] = Greater
values_cmp (d ∷ ds) (v ∷ vs) (w ∷ ws) = ordering_then (column_cmp d v w) (values_cmp ds vs ws)

abbrev pub tuple_cmp : Order → Tuple → Tuple → Ordering
tuple_cmp order a b = values_cmp order.items a.items b.items

-- the two have the same values, whatever the order
abbrev pub is_same : Tuple → Tuple → Bool
is_same a b = is_eq (slice_cmp value_cmp a.items b.items)

-- ---- rows

-- each row stands before all later ones, so no tuple stands twice
abbrev pub IsSortedRows : Order → List Row → Type 0
IsSortedRows order rows = IsStrictlySortedBy (λ a b. tuple_cmp order a.tuple b.tuple) rows

-- the rows of a map, and the order that they are sorted in
pub record Sorted : Type 0 where
  pub order : Order
  pub rows : List Row

-- the rows of each of some maps
abbrev pub rows_of_each : List Sorted → List (List Row)
rows_of_each maps = map (λ m. m.rows) maps

-- the value of the row with the tuple, if one stands
abbrev pub value_at : List Row → Tuple → Option ℕ
value_at [] t = None
value_at (row ∷ rows) t = if is_same row.tuple t then Some row.value else value_at rows t

abbrev pub rows_before : Order → List Row → Tuple → List Row
rows_before order rows t = filter (λ row. is_lt (tuple_cmp order row.tuple t)) rows

abbrev pub rows_after : Order → List Row → Tuple → List Row
rows_after order rows t = filter (λ row. is_gt (tuple_cmp order row.tuple t)) rows

-- the rows with one more at its place
abbrev pub with_row : Order → List Row → Tuple → ℕ → List Row
with_row order rows t v = rows_before order rows t ++ record { tuple = t; value = v } ∷ rows_after order rows t

-- the rows but the one with the tuple
abbrev pub without_row : Order → List Row → Tuple → List Row
without_row order rows t = rows_before order rows t ++ rows_after order rows t

-- the rows from lo to hi, both included
abbrev pub rows_between : Order → List Row → Tuple → Tuple → List Row
rows_between order rows lo hi = filter (λ row. is_le (tuple_cmp order lo row.tuple) && is_le (tuple_cmp order row.tuple hi)) rows
