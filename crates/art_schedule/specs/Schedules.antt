-- A schedule, from its passes and the bytes that it reads to the bytes that it writes and its end.
use Rattle.std.specs.Prelude.{◌≡◌, ◌⊎◌, ℕ, ◌+◌, ◌*◌, ◌≤◌, List, [], ◌++◌, length, map, Option, Some, ⊤}
use Rattle.std.specs.Io.KnownBytes.{Appends, Consumes}
use Rattle.std.specs.List.{range_with_len, slice_get}
use Rattle.art_server.specs.ArtTable.Tables.{IsPassOf}
use Rattle.art_server.specs.Sessions.{IsSamePass}
use Rattle.art_server.specs.Streams.{lines_of, whole_lines}
use Rattle.art_schedule.specs.Desks.{Places, Settles}
use Rattle.art_schedule.specs.Tasks.{DoesAll, StopsAt, Task, end_at, obey}
use Rattle.art_schedule.specs.declared.seats.Seat.TheVariants.{Idle}
use Rattle.art_schedule.specs.declared.stops.Stop.{Stop}
use Rattle.art_schedule.specs.declared.stops.Stop.TheVariants as stop
use Rattle.art_server.specs.ArtTable.declared.passes.Pass.{Pass}
use Rattle.art_server.specs.ArtTable.declared.tables.Table.{Table}
use Rattle.art_schedule.specs.declared.stops.ScheduleEnd.{ScheduleEnd}
use Rattle.art_schedule.specs.declared.stops.ScheduleEnd.TheVariants.{Ended, BadLine, ReadFault, WriteFault, NoMemory, ReadsUsed}

-- each is a pass of the table
abbrev pub ArePassesOf : Table → List Pass → Type 0
ArePassesOf t passes = (n : ℕ) (p : Pass) → slice_get passes n ≡ Some p → IsPassOf t p

-- each is a pass of the table, and is the pass that stood at its place
abbrev pub ComeBack : Table → List Pass → List Pass → Type 0
ComeBack t passes back =
    (n : ℕ) (p q : Pass) → slice_get passes n ≡ Some p → slice_get back n ≡ Some q → IsPassOf t q × IsSamePass p q

-- ---- what a schedule does

-- what is under way at each place, in order of the names
abbrev pub rest_tasks : List Task
rest_tasks = map end_at (range_with_len 0 8)

-- the lines of an input that ended, and what is under way then
abbrev pub tasks_of : List ℕ → List Task
tasks_of read = map obey (lines_of read) ++ rest_tasks

-- the lines of an input that has not ended
abbrev pub whole_tasks : List ℕ → List Task
whole_tasks read = map obey (whole_lines read)

-- the end that it is to stop at the line of this number
abbrev pub end_of : Stop → ℕ → ScheduleEnd
end_of stop.BadLine number = BadLine number
end_of stop.WriteFault number = WriteFault
end_of stop.NoMemory number = NoMemory

-- one of the tasks stopped the schedule; the first line has the number 1
pub record IsStopped (t : Table) (read : List ℕ) (start : Places) (written : List ℕ) (last : Places) (end : ScheduleEnd) : Type 0 where
  pub why : Stop
  pub count : ℕ
  pub stops : StopsAt t why (tasks_of read) start written count last
  pub end_is : end ≡ end_of why (count + 1)

-- what was read was done, up to the end, which left these places
abbrev pub EndsBy : Table → List ℕ → Places → List ℕ → Places → ScheduleEnd → Type 0
EndsBy t read start written last Ended = DoesAll t (tasks_of read) start written last
EndsBy t read start written last (BadLine number) = IsStopped t read start written last (BadLine number)
EndsBy t read start written last ReadFault = DoesAll t (whole_tasks read) start written last
EndsBy t read start written last WriteFault = IsStopped t read start written last WriteFault
EndsBy t read start written last NoMemory = IsStopped t read start written last NoMemory
EndsBy t read start written last ReadsUsed = DoesAll t (whole_tasks read) start written last × (1000000 ≤ length read)

-- The schedule that these bytes are, on passes that are idle at first: what was written, its end, and the passes that come back. Where a
-- command is under way as it ends, that is run to its end.
pub record IsSchedule (t : Table) (passes back : List Pass) (read written : List ℕ) (end : ScheduleEnd) : Type 0 where
  pub start : Places
  pub last : Places
  pub idle : start.seats ≡ map Idle passes
  pub rooms : length start.rooms ≡ length passes
  pub ends : EndsBy t read start written last end
  pub settles : Settles t last back
  pub most : length read ≤ 1000000 * 4096

-- there was no memory for the places: nothing was read, nothing written, and the passes come back as they were
pub record HasNoPlaces (passes back : List Pass) (read written : List ℕ) (end : ScheduleEnd) : Type 0 where
  pub unread : read ≡ []
  pub unwritten : written ≡ []
  pub stay : back ≡ passes
  pub end_is : end ≡ NoMemory

-- A schedule with the reader, from what it had left to what it has left, and the writer, from what it held to what it holds: the passes
-- before it and after it, and its end.
abbrev pub RunsSchedule : (left left_after held held_after : Option (List ℕ)) → Table → (passes back : List Pass) → ScheduleEnd → Type 0
RunsSchedule left left_after held held_after t passes back end =
    (read : List ℕ) × (written : List ℕ)
    × Consumes left left_after read × Appends held held_after written
    × (IsSchedule t passes back read written end ⊎ HasNoPlaces passes back read written end)

-- ---- for the functions of a schedule

-- the ends that a line makes
abbrev pub IsStop : ScheduleEnd → Type 0
IsStop Ended = ⊥
IsStop (BadLine line) = ⊤
IsStop ReadFault = ⊥
IsStop WriteFault = ⊤
IsStop NoMemory = ⊤
IsStop ReadsUsed = ⊥

-- the ends where the input ended
abbrev pub EndsAtInput : ScheduleEnd → Type 0
EndsAtInput Ended = ⊤
EndsAtInput (BadLine line) = ⊤
EndsAtInput ReadFault = ⊥
EndsAtInput WriteFault = ⊤
EndsAtInput NoMemory = ⊤
EndsAtInput ReadsUsed = ⊥
