-- The law of scans while the rows stay.
use Rattle.std.specs.Prelude.{◌≡◌, ℕ, ◌<◌, List, take, true}
use Rattle.std.specs.List.{AllByRecursion}
use Rattle.art_key.specs.declared.bounds.Bound.{Bound}
use Rattle.art_key.specs.declared.columns.Column.{Column}
use Rattle.art_key.specs.Bounds.{is_before}
use Rattle.art_key.specs.Columns.{order_of}
use Rattle.art_key.specs.Histories.{StandsIn, bound_at}
use Rattle.art_model.specs.declared.rows.Row.{Row}
use Rattle.art_model.specs.Rows.{IsSortedRows, Tuple, rows_between}
use Rattle.art_scan.specs.Tiles.{AreTiles, EndsRange, MayStop, Tile, rows_of, states_of}

-- Looks that tile a range, up to where the scan may stop, and all saw the same sorted rows, list the first of the rows from lo to hi.
abbrev pub LooksAtOneStateAreAnswers : Type 0
LooksAtOneStateAreAnswers = (schema : List Column) (rows : List Row) (lo hi : Tuple) (end reached : Bound) (limit : ℕ) (tiles : List Tile)
    → IsSortedRows (order_of schema) rows → AllByRecursion (λ row. StandsIn schema row.tuple) rows
    → StandsIn schema lo → EndsRange schema hi end → is_before (bound_at schema lo) end ≡ true
    → AreTiles schema (bound_at schema lo) reached tiles → AllByRecursion (λ state. state ≡ rows) (states_of schema tiles)
    → MayStop end reached limit tiles → 0 < limit
    → rows_of tiles ≡ take limit (rows_between (order_of schema) rows lo hi)
