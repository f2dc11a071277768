-- What `serve` does: sessions over sockets, by workers of a table of its own.
use Rattle.std.specs.Prelude.{◌≡◌, ◌⊎◌, ℕ, List, [], ◌++◌, codes, decimal, Option, Some, Result, Ok, Err}
use Rattle.std.specs.Io.KnownBytes.{Appends}
use Rattle.art_key.specs.declared.columns.Column.{Column}
use Rattle.art_key.specs.declared.faults.SchemaFault.{SchemaFault}
use Rattle.art_server.specs.ArtTable.Closing.{IsClosed}
use Rattle.art_server.specs.ArtTable.Opening.{IsOpened}
use Rattle.art_server.specs.ArtTable.declared.closing.Closed.{Closed}
use Rattle.art_server.specs.ArtTable.declared.passes.Pass.{Pass}
use Rattle.art_server.specs.ArtTable.declared.tables.Table.{Table}
use Rattle.art_server.specs.ArtRefusal.Refusals.{schema_refusal}
use Rattle.art_workers.specs.ArtSessions.Talks.{AreOneMap}
use Rattle.art_tools.specs.Statuses.{unserved}
use Rattle.art_tools.specs.Tables.{Prints, of_passes}
use Rattle.art_tools.specs.declared.run_faults.RunFault.{RunFault}
use Rattle.art_tools.specs.declared.run_faults.RunFault.TheVariants.{Refused, NoMemory, CannotListen}
use Rattle.art_tools.specs.declared.settings.ServeSettings.{ServeSettings}
use Rattle.art_workers.specs.Serving.{HaveServed}
use Rattle.art_workers.specs.declared.faults.ServeFault.{ServeFault}

-- what is printed of so many sessions
abbrev pub served_text : ℕ → List ℕ
served_text ended = codes "served " ++ decimal ended ++ codes "\n"

-- there was no listener, and the passes came back as they were
pub record HasNoListener (given back : List Pass) (why : RunFault) : Type 0 where
  pub stay : back ≡ given
  pub told : why ≡ CannotListen

-- sessions were answered until a worker had a fault
pub record HasFaulted (t : Table) (given back : List Pass) (why : RunFault) : Type 0 where
  pub fault : ServeFault
  pub served : HaveServed t given back (Err fault)
  pub told : why ≡ unserved fault

-- the passes were to be served, and these came back
abbrev pub HaveBeenServed : Table → List Pass → List Pass → Result ℕ RunFault → Type 0
HaveBeenServed t given back (Ok ended) = HaveServed t given back (Ok ended)
HaveBeenServed t given back (Err why) = HasNoListener given back why ⊎ HasFaulted t given back why

-- All passes of an empty table of the schema and these sizes had sessions, and it was closed. What they read and wrote is of one history,
-- which leaves the rows of the close (`AreOneMap`). The number of their sessions was printed.
pub record HasServedAll (schema : List Column) (asked : ServeSettings) (held held_after : Option (List ℕ)) (told : Option RunFault)
    : Type 0 where
  pub table : Table
  pub passes : List Pass
  pub back : List Pass
  pub ended : ℕ
  pub closed : Closed
  pub opened : IsOpened schema (of_passes asked.workers asked.table.sizes) table passes
  pub served : HaveServed table passes back (Ok ended)
  pub shut : IsClosed table back closed
  pub one : AreOneMap table served.workers closed
  pub prints : Prints (served_text ended) held held_after told

-- there was no table, no listener or no memory, or a connection could not be accepted: nothing was printed
pub record HasNotServed (held held_after : Option (List ℕ)) (told : Option RunFault) : Type 0 where
  pub unwritten : Appends held held_after []
  pub why : (told ≡ Some NoMemory) ⊎ (told ≡ Some CannotListen)

-- the schema is none, which is told
pub record HasNoSchema (fault : SchemaFault) (held held_after : Option (List ℕ)) (told : Option RunFault) : Type 0 where
  pub unwritten : Appends held held_after []
  pub why : told ≡ Some (Refused (schema_refusal fault))

abbrev pub RunsServer : Result (List Column) SchemaFault → ServeSettings → (held held_after : Option (List ℕ)) → Option RunFault → Type 0
RunsServer (Ok schema) asked held held_after told = HasServedAll schema asked held held_after told ⊎ HasNotServed held held_after told
RunsServer (Err fault) asked held held_after told = HasNoSchema fault held held_after told
