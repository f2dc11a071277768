-- What a scan owes while the map changes under it.
use Rattle.std.specs.Prelude.{◌≡◌, ℕ, ◌≤◌, List, length, Bool, ◌&&◌, Some, IsSome, IsTrue, All, Any}
use Rattle.std.specs.List.{AllPass}
use Rattle.std.specs.Ordering.{is_le}
use Rattle.art_model.specs.declared.rows.Row.{Row}
use Rattle.art_model.specs.Rows.{Order, Tuple, tuple_cmp, IsSortedRows, value_at}

-- whether the tuple stands in the range from lo to hi, both included
abbrev pub is_between : Order → Tuple → Tuple → Tuple → Bool
is_between order lo hi t = is_le (tuple_cmp order lo t) && is_le (tuple_cmp order t hi)

-- A row with the tuple is owed: the tuple stands in the range, which ends at the last row listed where these are as many as
-- the limit, and every state has a row with it.
pub record IsOwed (order : Order) (states : List (List Row)) (lo hi : Tuple) (limit : ℕ) (listed : List Row) (t : Tuple) : Type 0 where
  pub within : IsTrue (is_between order lo hi t)
  pub reached : length listed ≡ limit → Any (λ row. IsTrue (is_le (tuple_cmp order t row.tuple))) listed
  pub stayed : All (λ rows. IsSome (value_at rows t)) states

-- What is listed is what a scan of the range owes over the states of the map that it ran through: at most as many rows as the
-- limit, in ascending order, each of them in the range and, with its value, in one of the states; and each row that is owed.
pub record IsScanOf (order : Order) (states : List (List Row)) (lo hi : Tuple) (limit : ℕ) (listed : List Row) : Type 0 where
  pub few : length listed ≤ limit
  pub sorted : IsSortedRows order listed
  pub within : AllPass (λ row. is_between order lo hi row.tuple) listed
  pub stood : All (λ row. Any (λ rows. value_at rows row.tuple ≡ Some row.value) states) listed
  pub complete : (t : Tuple) → IsOwed order states lo hi limit listed t → IsSome (value_at listed t)
