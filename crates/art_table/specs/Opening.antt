-- A table that just opened.
use Rattle.std.specs.Prelude.{◌≡◌, ℕ, List, [], length, Some}
use Rattle.std.specs.List.{slice_get}
use Rattle.art_key.specs.declared.columns.Column.{Column}
use Rattle.art_step.specs.declared.views.Sizes.{Sizes}
use Rattle.art_table.specs.Tables.{IsPassOf, counter_in, number_of, own_of, schema_in, seen_by, sizes_in, view_of}
use Rattle.art_table.specs.declared.configs.Config.{Config}
use Rattle.art_table.specs.declared.passes.Pass.{Pass}
use Rattle.art_table.specs.declared.tables.Table.{Table}

abbrev pub sizes_of : Config → Sizes
sizes_of c = record { leaves = c.leaves; n4 = c.n4; n16 = c.n16; n48 = c.n48; n256 = c.n256; passes = c.passes }

-- a pass with this number, that has seen nothing
pub record IsNew (t : Table) (number : ℕ) (p : Pass) : Type 0 where
  pub of : IsPassOf t p
  pub number_is : number_of p ≡ number
  pub seen : seen_by t p ≡ []
  pub own : own_of p ≡ []
  pub steps : (view_of p).steps ≡ 0

-- of this schema and these sizes, its anchor at the counter of the config, with its passes in the order of their numbers
pub record IsOpened (schema : List Column) (config : Config) (t : Table) (passes : List Pass) : Type 0 where
  pub schema_is : schema_in t ≡ schema
  pub sizes_are : sizes_in t ≡ sizes_of config
  pub counter_is : counter_in t ≡ config.counter_start
  pub count : length passes ≡ config.passes
  pub each : (n : ℕ) (p : Pass) → slice_get passes n ≡ Some p → IsNew t n p
