-- What contracts see of a handle.
use Rattle.std.specs.Prelude.{◌≡◌, List, map}
use Rattle.std.specs.List.{All}
use Rattle.std.specs.Arc.{arc_value}
use Rattle.art_key.specs.declared.columns.Column.{Column}
use Rattle.art_handle.specs.declared.handles.Handle.{Handle}
use Rattle.art_scan.specs.ArtTable.Opening.{IsOpened}
use Rattle.art_scan.specs.ArtTable.Tables.{IsPassOf}
use Rattle.art_scan.specs.ArtTable.declared.configs.Config.{Config}
use Rattle.art_scan.specs.ArtTable.declared.passes.Pass.{Pass}
use Rattle.art_scan.specs.ArtTable.declared.tables.Table.{Table}

-- the table that it has a share of
abbrev pub table_of : Handle → Table
table_of h = arc_value h.table

abbrev pub pass_of : Handle → Pass
pass_of h = h.pass

-- its pass is one of its table, and idle
abbrev pub IsOfItsTable : Handle → Type 0
IsOfItsTable h = IsPassOf (table_of h) (pass_of h)

-- All passes of one table that just opened, in the order of their numbers, each with a share of it.
pub record AreOpened (schema : List Column) (config : Config) (handles : List Handle) : Type 0 where
  pub table : Table
  pub opened : IsOpened schema config table (map pass_of handles)
  pub one : All (λ h. table_of h ≡ table) handles
