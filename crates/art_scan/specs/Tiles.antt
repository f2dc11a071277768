-- Looks that tile a range: each begins where the one before ended.
use Rattle.std.specs.Prelude.{◌≡◌, ◌⊎◌, ℕ, ◌≤◌, List, [], ◌∷◌, ◌++◌, length, map, Option, Some, None, true, false}
use Rattle.std.specs.List.{filter_map}
use Rattle.std.specs.Ordering.{is_le}
use Rattle.art_key.specs.declared.bounds.Bound.{Bound}
use Rattle.art_key.specs.declared.columns.Column.{Column}
use Rattle.art_key.specs.declared.events.Event.{Event}
use Rattle.art_key.specs.Bounds.{is_before}
use Rattle.art_key.specs.Columns.{order_of}
use Rattle.art_key.specs.Histories.{IsLegal, OnlyRow, StandsIn, bound_at, replay}
use Rattle.art_model.specs.declared.rows.Row.{Row}
use Rattle.art_model.specs.Rows.{Tuple, tuple_cmp}

-- ---- looks, one after another

-- a look at its place in a history: the events before it, where its range began and ended, and the row that it found, or none
pub record Tile : Type 0 where
  pub before : List Event
  pub lo : Bound
  pub hi : Bound
  pub row : Option Row

-- the look begins at this bound and ends after that; the events before it are legal, and leave just the row that it found in its range
pub record IsTile (schema : List Column) (from : Bound) (tile : Tile) : Type 0 where
  pub begins : tile.lo ≡ from
  pub after : is_before tile.lo tile.hi ≡ true
  pub legal : IsLegal schema tile.before
  pub exact : OnlyRow schema (replay schema tile.before) tile.lo tile.hi tile.row

-- the looks cover the range from one bound to another, and each begins where the one before ended
abbrev pub AreTiles : List Column → Bound → Bound → List Tile → Type 0
AreTiles schema from to [] = from ≡ to
AreTiles schema from to (tile ∷ tiles) = IsTile schema from tile × AreTiles schema tile.hi to tiles

-- the rows that were found, in order
abbrev pub rows_of : List Tile → List Row
rows_of tiles = filter_map (λ tile. tile.row) tiles

-- what a look adds to what is listed
abbrev pub with_found : List Row → Option Row → List Row
with_found rows (Some row) = rows ++ row ∷ []
with_found rows None = rows

-- the rows that stood at each look
abbrev pub states_of : List Column → List Tile → List (List Row)
states_of schema tiles = map (λ tile. replay schema tile.before) tiles

-- ---- the end of a scan

-- the bound is the end of a scan up to hi, included: the keys of just the tuples that are not after hi are before it
abbrev pub EndsRange : List Column → Tuple → Bound → Type 0
EndsRange schema hi end = (t : Tuple) → StandsIn schema t → is_before (bound_at schema t) end ≡ is_le (tuple_cmp (order_of schema) t hi)

-- A scan up to the bound `end` may stop at `reached`: it found no more rows than the limit, it made no look or none past the end,
-- and nothing of its range is left or it found as many rows as the limit.
pub record MayStop (end reached : Bound) (limit : ℕ) (tiles : List Tile) : Type 0 where
  pub few : length (rows_of tiles) ≤ limit
  pub within : (tiles ≡ []) ⊎ ((reached ≡ end) ⊎ (is_before reached end ≡ true))
  pub stopped : (is_before reached end ≡ false) ⊎ (length (rows_of tiles) ≡ limit)
