-- The table of a schedule, and what `step` does with it.
use Rattle.std.specs.Prelude.{◌≡◌, ◌⊎◌, ℕ, List, length, Option, Some, Result, Ok, Err}
use Rattle.std.specs.List.{slice_get}
use Rattle.art_key.specs.declared.columns.Column.{Column}
use Rattle.art_key.specs.declared.faults.SchemaFault.{SchemaFault}
use Rattle.art_schedule.specs.Points.{AreOneHistory}
use Rattle.art_schedule.specs.Schedules.{ComeBack, RunsSchedule}
use Rattle.art_schedule.specs.declared.stops.ScheduleEnd.{ScheduleEnd}
use Rattle.art_server.specs.ArtTable.Closing.{IsClosed}
use Rattle.art_server.specs.ArtTable.Opening.{IsOpened}
use Rattle.art_server.specs.ArtTable.Tables.{IsPassOf, number_of}
use Rattle.art_server.specs.ArtTable.declared.closing.Closed.{Closed}
use Rattle.art_server.specs.ArtTable.declared.configs.Config.{Config}
use Rattle.art_server.specs.ArtTable.declared.passes.Pass.{Pass}
use Rattle.art_server.specs.ArtTable.declared.tables.Table.{Table}
use Rattle.art_tools.specs.Statuses.{schedule_fault}
use Rattle.art_tools.specs.Told.{IsClosedBy, IsToldOf, IsUnopened, NothingRead}
use Rattle.art_tools.specs.declared.run_faults.RunFault.{RunFault}

-- the sizes, with eight passes
abbrev pub of_eight_passes : Config → Config
of_eight_passes sizes = record sizes { passes = 8 }

-- each is a pass of the table, and has the number of its place
abbrev pub AreInPlace : Table → List Pass → Type 0
AreInPlace t passes = (n : ℕ) (p : Pass) → slice_get passes n ≡ Some p → IsPassOf t p × (number_of p ≡ n)

-- eight passes of the table, in their places
abbrev pub AreEight : Table → List Pass → Type 0
AreEight t passes = (length passes ≡ 8) × AreInPlace t passes

-- ---- what `step` does

-- A schedule was run on the eight passes of an empty table of the schema and these sizes, which was closed with the passes as they came
-- back. Whatever close with them there is, the replies that were written are of one history that leaves its rows.
pub record RanSchedule (schema : List Column) (sizes : Config) (left left_after held held_after : Option (List ℕ))
    (told : Option RunFault) : Type 0 where
  pub table : Table
  pub passes : List Pass
  pub back : List Pass
  pub end : ScheduleEnd
  pub opened : IsOpened schema (of_eight_passes sizes) table passes
  pub runs : RunsSchedule left left_after held held_after table passes back end
  pub come : ComeBack table passes back
  pub history : (closed : Closed) → IsClosed table back closed → AreOneHistory table passes back runs.0 runs.1 end closed
  pub told_is : IsToldOf (schedule_fault end) told
  pub closed : IsClosedBy told table back

-- of a schema that is one, a schedule was run, or there was no table for it; nothing is done of another
abbrev pub Steps : Result (List Column) SchemaFault → Config → (left left_after held held_after : Option (List ℕ)) → Option RunFault
    → Type 0
Steps (Ok schema) sizes left left_after held held_after told =
    RanSchedule schema sizes left left_after held held_after told ⊎ (NothingRead left left_after held held_after × IsUnopened told)
Steps (Err fault) sizes left left_after held held_after told = NothingRead left left_after held held_after × IsUnopened told
