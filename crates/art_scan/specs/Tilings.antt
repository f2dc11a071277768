-- What is known of a scan between two of its looks.
use Rattle.std.specs.Prelude.{◌≡◌, ◌⊎◌, ℕ, ◌+◌, ◌*◌, ◌≤◌, true, List, [], length, None}
use Rattle.art_key.specs.Bounds.{is_before}
use Rattle.art_key.specs.Histories.{StandsIn, bound_at}
use Rattle.art_key.specs.declared.bounds.Bound.{Bound}
use Rattle.art_model.specs.Rows.{Tuple}
use Rattle.art_model.specs.declared.rows.Row.{Row}
use Rattle.art_scan.specs.Scans.{HasTiled, scan_fault}
use Rattle.art_scan.specs.Tiles.{EndsRange, Tile, rows_of}
use Rattle.art_scan.specs.declared.tilings.Tiling.{Tiling}
use Rattle.art_table.specs.Tables.{schema_in, view_of}
use Rattle.art_table.specs.declared.passes.Pass.{Pass}
use Rattle.art_table.specs.declared.tables.Table.{Table}

-- the pass was p and is q: it tiled the range as far as the scan has come, the rows that it found are
-- listed, and so many turns are left
pub record IsTiling (t : Table) (from end : Bound) (limit turns : ℕ) (p q : Pass) (rows : List Row) (g : Tiling) : Type 0 where
  pub tiles : List Tile
  pub tiled : HasTiled t from g.from tiles p q
  pub rows_are : rows ≡ rows_of tiles
  pub few : length rows ≤ limit
  pub within : (tiles ≡ []) ⊎ ((g.from ≡ end) ⊎ (is_before g.from end ≡ true))
  pub end_is : g.end ≡ end
  pub limit_is : g.limit ≡ limit
  pub used : (view_of q).steps + g.turns ≡ (view_of p).steps + turns + 3 * length tiles
  pub some : g.turns + 3 * length tiles ≤ turns
  pub fewer : turns + 30000 * (view_of p).failures ≤ g.turns + 30000 * ((view_of q).failures + length tiles)

-- A scan of this is made, with which nothing is wrong: its pass was p and is q, and it stands there.
pub record IsScanning (t : Table) (lo hi : Tuple) (limit turns : ℕ) (p q : Pass) (rows : List Row) (g : Tiling) : Type 0 where
  pub end : Bound
  pub lo_stands : StandsIn (schema_in t) lo
  pub ends : EndsRange (schema_in t) hi end
  pub none : scan_fault (schema_in t) lo hi limit ≡ None
  pub most : limit ≤ 100
  pub on : IsTiling t (bound_at (schema_in t) lo) end limit turns p q rows g
