-- A load that had its table alone, from the opening to the close: all its threads are of one history, which tells their counts.
use Rattle.std.specs.Prelude.{◌≡◌, ℕ, ◌+◌, ◌*◌, List, [], ◌∷◌, length, ⊤}
use Rattle.std.specs.List.{sum_by}
use Rattle.art_key.specs.Histories.{replay}
use Rattle.art_key.specs.declared.columns.Column.{Column}
use Rattle.art_key.specs.declared.events.Event.{Event}
use Rattle.art_load.specs.Commands.{load_commands}
use Rattle.art_load.specs.Counts.{absent_in, answered_of, found_in, inserted_in, present_in, removed_in, sum_of, total_of}
use Rattle.art_load.specs.Loads.{Loads, LoadsAll, asks_of}
use Rattle.art_load.specs.Own.{told_by}
use Rattle.art_load.specs.declared.counts.Counts.{Counts}
use Rattle.art_model.specs.declared.commands.Command.{Command}
use Rattle.art_sessions.specs.Points.{AllAt}
use Rattle.art_table.specs.Closing.{IsClosed, TellsAll, places_from}
use Rattle.art_table.specs.Opening.{IsOpened}
use Rattle.art_table.specs.Tables.{number_of, schema_in}
use Rattle.art_table.specs.declared.closing.Closed.{Closed}
use Rattle.art_table.specs.declared.configs.Config.{Config}
use Rattle.art_table.specs.declared.passes.Pass.{Pass}
use Rattle.art_table.specs.declared.tables.Table.{Table}

-- ---- the share of a thread

-- A thread made these commands by the pass that was p and is q then, and counted the replies. It has the pass's number. The events of that
-- pass in the history are just those of the commands: at their places one sorted map gives the replies.
pub record ThreadAt (t : Table) (log : List Event) (commands : List Command) (thread : ℕ) (p : Pass) (c : Counts) (q : Pass) : Type 0 where
  pub loads : Loads t commands p c q
  pub number : number_of q ≡ thread
  pub points : AllAt (schema_in t) log thread (asks_of commands) loads.replies (places_from thread 0 log)

-- one thread for each of the passes, numbered from a number on
abbrev pub EachAt : Table → List Event → ℕ → ℕ → ℕ → ℕ → List Pass → List Counts → List Pass → Type 0
EachAt t log seed keys ops thread [] [] [] = ⊤
EachAt t log seed keys ops thread (p ∷ ps) (c ∷ cs) (q ∷ qs) =
    ThreadAt t log (load_commands seed keys thread ops) thread p c q × EachAt t log seed keys ops (thread + 1) ps cs qs
EachAt t log seed keys ops thread ps cs qs = ⊥

-- ---- all threads

-- all events of a history: of each kind as many as were counted, and no others
pub record AreAllTold (log : List Event) (c : Counts) : Type 0 where
  pub inserted : c.inserted ≡ sum_by (told_by inserted_in) log
  pub present : c.present ≡ sum_by (told_by present_in) log
  pub removed : c.removed ≡ sum_by (told_by removed_in) log
  pub absent : c.absent ≡ sum_by (told_by absent_in) log
  pub found : c.found ≡ sum_by (told_by found_in) log
  pub all : length log ≡ answered_of c

-- One legal history begins with what each pass has seen, has events of these passes alone, and leaves the rows of the close. Each thread
-- has its share of it. The counts are the sums over the threads, and what the history tells. The rows at the close are as many as were
-- inserted, less those that were removed.
pub record IsLoaded (t : Table) (seed keys ops : ℕ) (passes : List Pass) (counts : Counts) (passes_after : List Pass) (closed : Closed)
    : Type 0 where
  pub log : List Event
  pub tells : TellsAll t passes_after log
  pub rows : closed.rows.items ≡ replay (schema_in t) log
  pub each : List Counts
  pub threads : EachAt t log seed keys ops 0 passes each passes_after
  pub sums : counts ≡ sum_of each
  pub total : total_of counts ≡ length passes * ops
  pub told : AreAllTold log counts
  pub left : length closed.rows.items + counts.removed ≡ counts.inserted

-- A table was opened, loaded by all its passes, and closed with them.
abbrev pub LoadsAreOneMap : Type 0
LoadsAreOneMap = (schema : List Column) (config : Config) (t : Table) (passes : List Pass) (seed keys ops : ℕ) (counts : Counts)
    (passes_after : List Pass) (closed : Closed)
    → IsOpened schema config t passes → LoadsAll t seed keys ops passes counts passes_after → IsClosed t passes_after closed
    → IsLoaded t seed keys ops passes counts passes_after closed
