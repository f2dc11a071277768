-- The law of scans by looks.
use Rattle.std.specs.Prelude.{ℕ, List}
use Rattle.art_key.specs.declared.bounds.Bound.{Bound}
use Rattle.art_key.specs.declared.columns.Column.{Column}
use Rattle.art_key.specs.Columns.{order_of}
use Rattle.art_key.specs.Histories.{StandsIn, bound_at}
use Rattle.art_model.specs.Rows.{Tuple}
use Rattle.art_model.specs.Scans.{IsScanOf}
use Rattle.art_scan.specs.Tiles.{AreTiles, EndsRange, MayStop, Tile, rows_of, states_of}

-- Looks that tile a range from the key of lo on, up to where the scan may stop, list what a scan from lo to hi owes over the states
-- that they saw.
abbrev pub LooksThatTileAreScans : Type 0
LooksThatTileAreScans = (schema : List Column) (lo hi : Tuple) (end reached : Bound) (limit : ℕ) (tiles : List Tile)
    → StandsIn schema lo → EndsRange schema hi end
    → AreTiles schema (bound_at schema lo) reached tiles → MayStop end reached limit tiles
    → IsScanOf (order_of schema) (states_of schema tiles) lo hi limit (rows_of tiles)
