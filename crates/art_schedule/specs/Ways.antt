-- The steps of a schedule, for its own functions.
use Rattle.std.specs.Prelude.{◌≡◌, ℕ, ◌*◌, ◌≤◌, true, false, List, [], length, map, take, Option, Result, Ok, Err}
use Rattle.std.specs.Io.KnownBytes.{Appends, Consumes}
use Rattle.art_schedule.specs.Desks.{Places}
use Rattle.art_schedule.specs.Lines.{Said}
use Rattle.art_schedule.specs.Schedules.{EndsBy, IsStop, end_of}
use Rattle.art_schedule.specs.Tasks.{AdvancesAt, CanDo, Does, DoesAll, IsCut, ObeysAt, StopsAt, StopsFor, Task, obey}
use Rattle.art_schedule.specs.declared.stops.ScheduleEnd.{ScheduleEnd}
use Rattle.art_schedule.specs.declared.stops.ScheduleEnd.TheVariants.{Ended}
use Rattle.art_schedule.specs.declared.stops.Stop.{Stop}
use Rattle.art_schedule.specs.declared.stops.Stop.TheVariants.{BadLine, WriteFault, NoMemory}
use Rattle.art_server.specs.Lines.{AllAreGiven, LinesRead}
use Rattle.art_server.specs.Streams.{whole_lines}
use Rattle.art_server.specs.ArtTable.declared.tables.Table.{Table}

-- ---- one order, one task, some tasks

-- why an order at a place stops a schedule, what was written of it, and the places as it left them
abbrev pub StopsAtPlace : Table → Stop → ℕ → Said → Places → List ℕ → Places → Type 0
StopsAtPlace t BadLine place said old part new = CanDo place said old false × (part ≡ []) × (new ≡ old)
StopsAtPlace t WriteFault place said old part new = IsCut (λ text. ObeysAt t place said old text new) part
StopsAtPlace t NoMemory place said old part new = CanDo place said old true × AdvancesAt t place old new × (part ≡ [])

-- it was obeyed, or it stopped the schedule
abbrev pub ComesAt : {A : Type 0} → Table → ℕ → Said → Places → Places → List ℕ → Result A Stop → Type 0
ComesAt t place said old new written (Ok _) = ObeysAt t place said old written new
ComesAt t place said old new written (Err stop) = StopsAtPlace t stop place said old written new

pub record TriesAt {A : Type 0} (t : Table) (place : ℕ) (said : Said) (old new : Places) (held held_after : Option (List ℕ))
    (result : Result A Stop) : Type 0 where
  pub written : List ℕ
  pub appends : Appends held held_after written
  pub comes : ComesAt t place said old new written result

-- the task was done, or it stopped the schedule
abbrev pub Comes : {A : Type 0} → Table → Task → Places → Places → List ℕ → Result A Stop → Type 0
Comes t task old new written (Ok _) = Does t task old written new
Comes t task old new written (Err stop) = StopsFor t stop task old written new

pub record Tries {A : Type 0} (t : Table) (task : Task) (old new : Places) (held held_after : Option (List ℕ)) (result : Result A Stop)
    : Type 0 where
  pub written : List ℕ
  pub appends : Appends held held_after written
  pub comes : Comes t task old new written result

-- the tasks were done, or one of them stopped the schedule
abbrev pub ComesOfAll : {A : Type 0} → Table → List Task → Places → Places → List ℕ → Result A Stop → Type 0
ComesOfAll t tasks old new written (Ok _) = DoesAll t tasks old written new
ComesOfAll t tasks old new written (Err stop) = (count : ℕ) × StopsAt t stop tasks old written count new

pub record TriesAll {A : Type 0} (t : Table) (tasks : List Task) (old new : Places) (held held_after : Option (List ℕ))
    (result : Result A Stop) : Type 0 where
  pub written : List ℕ
  pub appends : Appends held held_after written
  pub comes : ComesOfAll t tasks old new written result

-- ---- a schedule under way

-- lines from the front were obeyed, and what they print was written
pub record IsUnderWay (t : Table) (lines : List (List ℕ)) (held held_after : Option (List ℕ)) (start now : Places) (count : ℕ)
    : Type 0 where
  pub within : count ≤ length lines
  pub written : List ℕ
  pub appends : Appends held held_after written
  pub done : DoesAll t (map obey (take count lines)) start written now

-- a schedule that took these bytes has ended so
pub record EndsSchedule (t : Table) (taken : List ℕ) (held held_after : Option (List ℕ)) (start last : Places) (end : ScheduleEnd)
    : Type 0 where
  pub written : List ℕ
  pub appends : Appends held held_after written
  pub ends : EndsBy t taken start written last end

-- a schedule under way, of which each line that was given is obeyed, went on with lines that were left
pub record ObeysMore (t : Table) (old new : LinesRead) (before after : Option (List ℕ)) (p q : Places) (count : ℕ) : Type 0 where
  pub taken : new.taken ≡ old.taken
  pub given : new.given ≡ count
  pub reaches : (held : Option (List ℕ)) (start : Places) → IsUnderWay t (whole_lines old.taken) held before start p old.given
      → IsUnderWay t (whole_lines old.taken) held after start q count

-- it was brought to its end
abbrev pub EndsThere : Table → LinesRead → Option (List ℕ) → Option (List ℕ) → Places → Places → ScheduleEnd → Type 0
EndsThere t at before after p q end =
    (held : Option (List ℕ)) (start : Places) → IsUnderWay t (whole_lines at.taken) held before start p at.given
    → EndsSchedule t at.taken held after start q end

-- one of the lines that were left stopped it
pub record StopsAmong (t : Table) (at : LinesRead) (before after : Option (List ℕ)) (p q : Places) (end : ScheduleEnd) : Type 0 where
  pub stop : IsStop end
  pub reaches : EndsThere t at before after p q end

-- each line that was left was obeyed, or one of them stopped it
abbrev pub ObeysLeft : Table → LinesRead → LinesRead → Option (List ℕ) → Option (List ℕ) → Places → Places → Result ℕ ScheduleEnd → Type 0
ObeysLeft t old new before after p q (Ok count) = ObeysMore t old new before after p q count × AllAreGiven new
ObeysLeft t old new before after p q (Err end) = StopsAmong t old before after p q end

-- the end of a schedule whose input ended, where the line under way or what was under way then may have stopped it
abbrev pub end_by : {A : Type 0} → Result A Stop → ℕ → ScheduleEnd
end_by (Ok _) number = Ended
end_by (Err stop) number = end_of stop number

-- a schedule from these places, with the reader and the writer, and the places as it left them
pub record RunsFrom (left left_after held held_after : Option (List ℕ)) (t : Table) (start last : Places) (end : ScheduleEnd)
    : Type 0 where
  pub read : List ℕ
  pub written : List ℕ
  pub consumes : Consumes left left_after read
  pub appends : Appends held held_after written
  pub ends : EndsBy t read start written last end
  pub most : length read ≤ 1000000 * 4096
