-- What opening a table from C does.
use Rattle.std.specs.Prelude.{◌≡◌, ◌⊎◌, ℕ, List, map, if◌then◌else◌, Some, Result, Ok, Err}
use Rattle.std.specs.Str.{is_utf8}
use Rattle.art_handle.specs.ArtTable.Sizes.{IsConfig}
use Rattle.art_handle.specs.ArtTable.declared.configs.Config.{Config}
use Rattle.art_handle.specs.ArtTable.declared.faults.OpenFault.TheVariants.{BadConfig, NoMemory}
use Rattle.art_handle.specs.Handles.{AreOpened}
use Rattle.art_handle.specs.declared.handles.Handle.{Handle}
use Rattle.art_index_c.specs.Statuses.{open_number, schema_number}
use Rattle.art_index_c.specs.declared.opaque.OpaquePass.{OpaquePass}
use Rattle.art_index_c.specs.declared.opening.Sizes.{Sizes}
use Rattle.art_key.specs.Schemas.{schema_of}
use Rattle.art_key.specs.declared.columns.Column.{Column}
use Rattle.art_key.specs.declared.faults.SchemaFault.{SchemaFault}
use Rattle.art_key.specs.declared.faults.SchemaFault.TheVariants.{BadColumn}

-- the schema that the bytes name, of which none names one that is no UTF-8
abbrev pub schema_named : List ℕ → Result (List Column) SchemaFault
schema_named bytes = if is_utf8 bytes then schema_of bytes else Err (BadColumn 0)

-- these sizes, with so many passes
abbrev pub config_of : Sizes → ℕ → Config
config_of s count = record {
  leaves = s.leaves;
  n4 = s.n4;
  n16 = s.n16;
  n48 = s.n48;
  n256 = s.n256;
  passes = count;
  counter_start = s.counter_start;
}

-- each of the opaque passes holds the handle at its place
abbrev pub AreHeld : List OpaquePass → List Handle → Type 0
AreHeld passes handles = map (λ p. p.held) passes ≡ map Some handles

-- a table was opened, and all passes of it are held, in order
abbrev pub AreFilled : List Column → Config → List OpaquePass → Type 0
AreFilled schema config passes = (handles : List Handle) × AreOpened schema config handles × AreHeld passes handles

-- A table was to be opened, by passes as they were: this status was answered, and they are these then. A bad schema comes first, and then a
-- size out of its range. Where there is no memory, or anything else is amiss, they are as they were.
pub record Opens (named : Result (List Column) SchemaFault) (config : Config) (passes : List OpaquePass) (status : ℕ)
    (passes' : List OpaquePass) : Type 0 where
  pub unnamed : (f : SchemaFault) → named ≡ Err f → (status ≡ schema_number f) × (passes' ≡ passes)
  pub invalid : (s : List Column) → named ≡ Ok s → ¬ (IsConfig config) → (status ≡ open_number BadConfig) × (passes' ≡ passes)
  pub valid : (s : List Column) → named ≡ Ok s → IsConfig config
      → ((status ≡ 0) × AreFilled s config passes') ⊎ ((status ≡ open_number NoMemory) × (passes' ≡ passes))
