-- What the program does for each subcommand.
use Rattle.std.specs.Prelude.{◌≡◌, ◌⊎◌, ℕ, List, [], Option, Some, None, Result, Err, IsErr, ⊤}
use Rattle.std.specs.Borrow.{Bor}
use Rattle.std.specs.Io.KnownBytes.{Consumes, IsAtEnd}
use Rattle.clap.specs.Words.{Text}
use Rattle.art_key.specs.Schemas.{schema_of}
use Rattle.art_key.specs.declared.columns.Column.{Column}
use Rattle.art_key.specs.declared.faults.SchemaFault.{SchemaFault}
use Rattle.art_server.specs.ArtTable.Sizes.{IsConfig}
use Rattle.art_server.specs.ArtTable.declared.configs.Config.{Config}
use Rattle.art_server.specs.Reads.{AddsReads}
use Rattle.art_server.specs.ArtRefusal.Refusals.{schema_refusal}
use Rattle.art_server.specs.ArtRefusal.declared.refusals.Refusal.{Refusal}
use Rattle.art_server.specs.ArtRefusal.declared.refusals.Refusal.TheVariants.{BadConfig}
use Rattle.art_tools.specs.Loads.{RunsLoad}
use Rattle.art_tools.specs.Outputs.{Outputs, of_one_pass}
use Rattle.art_tools.specs.Ranges.{HasServe, IsLoad, IsServe}
use Rattle.art_tools.specs.Schedules.{Steps, of_eight_passes}
use Rattle.art_tools.specs.Servers.{RunsServer}
use Rattle.art_tools.specs.Sessions.{Runs}
use Rattle.art_tools.specs.Settings.{IsInRange, Subcommand, load_asked, option_given, run, step, load, serve, schema_asked, sizes_asked, texts_of}
use Rattle.art_tools.specs.Told.{AreReadsTold, NothingRead}
use Rattle.art_tools.specs.declared.run_faults.RunFault.{RunFault}
use Rattle.art_tools.specs.declared.run_faults.RunFault.TheVariants.{NoMemory, Refused}
use Rattle.art_tools.specs.declared.settings.ServeSettings.{ServeSettings}
use Rattle.art_tools.specs.declared.settings.Settings.{Settings}
use Rattle.art_tools.specs.declared.settings.Settings.TheVariants.{Run, Step, Load, Serve}
use Rattle.art_tools.specs.declared.settings.TableSettings.{TableSettings}

-- it reads lines from the input
abbrev pub ReadsLines : Subcommand → Type 0
ReadsLines run = ⊤
ReadsLines step = ⊤
ReadsLines load = ⊥
ReadsLines serve = ⊥

-- a server was started as the words ask for it
pub record Serves (words : List (Bor Text)) (held held_after : Option (List ℕ)) (told : Option RunFault) : Type 0 where
  pub asked : ServeSettings
  pub has : HasServe (option_given (texts_of words)) asked
  pub runs : RunsServer (schema_asked words) asked held held_after told

-- the subcommand was begun, with the numbers that are in their ranges: what was read and written, and what is told
abbrev pub Begins : Subcommand → List (Bor Text) → (left left_after held held_after : Option (List ℕ)) → Option RunFault → Type 0
Begins run words left left_after held held_after told = Runs (schema_asked words) (sizes_asked words) left left_after held held_after told
Begins step words left left_after held held_after told = Steps (schema_asked words) (sizes_asked words) left left_after held held_after told
Begins load words left left_after held held_after told = Consumes left left_after [] × RunsLoad (load_asked words) held held_after told
Begins serve words left left_after held held_after told = Consumes left left_after [] × Serves words held held_after told

-- why nothing was begun: there was no memory to read the words, or a number is out of its range
abbrev pub IsUnbegun : List (Bor Text) → Option RunFault → Type 0
IsUnbegun words told = (told ≡ Some NoMemory) ⊎ ((told ≡ Some (Refused BadConfig)) × (¬ (IsInRange words)))

-- the subcommand was begun, or nothing was done
abbrev pub Performs : Subcommand → List (Bor Text) → (left left_after held held_after : Option (List ℕ)) → Option RunFault → Type 0
Performs subcommand words left left_after held held_after told =
    Begins subcommand words left left_after held held_after told ⊎ (NothingRead left left_after held held_after × IsUnbegun words told)

-- ---- by the settings that the words come to

-- each number of a load or of a server is in its range; those of a table are looked at when it is opened
abbrev pub IsReady : Settings → Type 0
IsReady (Run table) = ⊤
IsReady (Step table) = ⊤
IsReady (Load asked) = IsLoad asked
IsReady (Serve asked) = IsServe asked.table.sizes asked.port asked.workers asked.sessions

-- The input was read to its end where nothing is told. A schema that is none is told, and what is refused is the schema or a size.
pub record ReadsUnder (schema : Result (List Column) SchemaFault) (sizes : Config) (left_after : Option (List ℕ)) (told : Option RunFault)
    : Type 0 where
  pub ended : told ≡ None → IsAtEnd left_after
  pub unnamed : (fault : SchemaFault) → schema ≡ Err fault → told ≡ Some (Refused (schema_refusal fault))
  pub refused : (refusal : Refusal) → told ≡ Some (Refused refusal) → IsErr schema ⊎ (¬ (IsConfig sizes))

pub record HasRun (table : TableSettings) (left left_after held held_after : Option (List ℕ)) (told : Option RunFault) : Type 0 where
  pub runs : Runs (schema_of table.schema.now) table.sizes left left_after held held_after told
  pub output : told ≡ None → Outputs (schema_of table.schema.now) left held held_after
  pub input : ReadsUnder (schema_of table.schema.now) (of_one_pass table.sizes) left_after told

pub record HasStepped (table : TableSettings) (left left_after held held_after : Option (List ℕ)) (told : Option RunFault) : Type 0 where
  pub steps : Steps (schema_of table.schema.now) table.sizes left left_after held held_after told
  pub input : ReadsUnder (schema_of table.schema.now) (of_eight_passes table.sizes) left_after told

-- what was read and written, and what is told
abbrev pub Does : Settings → (left left_after held held_after : Option (List ℕ)) → Option RunFault → Type 0
Does (Run table) left left_after held held_after told = HasRun table left left_after held held_after told
Does (Step table) left left_after held held_after told = HasStepped table left left_after held held_after told
Does (Load asked) left left_after held held_after told = Consumes left left_after [] × RunsLoad asked held held_after told
Does (Serve asked) left left_after held held_after told =
    Consumes left left_after [] × RunsServer (schema_of asked.table.schema.now) asked held held_after told

-- what was done, with the reads that were made for it
pub record HasDone (asked : Settings) (left left_after held held_after : Option (List ℕ)) (old new : List (Option ℕ)) (told : Option RunFault)
    : Type 0 where
  pub does : Does asked left left_after held held_after told
  pub adds : AddsReads old new
  pub reads : AreReadsTold told old new
