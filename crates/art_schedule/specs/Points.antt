-- What the passes of a schedule are asked, what is told of them, and the one history that the replies are of.
use Rattle.std.specs.Prelude.{◌≡◌, ◌≢◌, ◌⊎◌, ℕ, ◌+◌, ◌≤◌, ◌==◌, if◌then◌else◌, List, [], ◌∷◌, ◌++◌, length, map, take, Option, Some, None, Result, IsOk, IsErr, ⊤}
use Rattle.std.specs.List.{flat_map, slice_get}
use Rattle.art_key.specs.Histories.{IsLegal, replay}
use Rattle.art_key.specs.declared.events.Event.{Event}
use Rattle.art_lines.specs.Lines.{line_says}
use Rattle.art_model.specs.declared.commands.Reply.{Reply}
use Rattle.art_schedule.specs.Lines.{Said, start, until, step, end, line_order}
use Rattle.art_schedule.specs.Schedules.{ArePassesOf, HasNoPlaces, IsSchedule, tasks_of, whole_tasks}
use Rattle.art_schedule.specs.Tasks.{Task, end_at, obey}
use Rattle.art_schedule.specs.Tells.{told_text}
use Rattle.art_schedule.specs.declared.orders.Told.{Told}
use Rattle.art_schedule.specs.declared.orders.Told.TheVariants.{Nothing, At, Stepped, Ended}
use Rattle.art_schedule.specs.declared.stops.ScheduleEnd.{ScheduleEnd}
use Rattle.art_schedule.specs.declared.stops.ScheduleEnd.TheVariants as ends
use Rattle.art_server.specs.ArtTable.Closing.{IsClosed, IsHere, places_from}
use Rattle.art_server.specs.ArtTable.Tables.{number_of, own_of, schema_in}
use Rattle.art_server.specs.ArtTable.declared.closing.Closed.{Closed}
use Rattle.art_server.specs.ArtTable.declared.passes.Pass.{Pass}
use Rattle.art_server.specs.ArtTable.declared.tables.Table.{Table}
use Rattle.art_server.specs.Replies.{text_of_reply}
use Rattle.art_server.specs.ArtRefusal.declared.refusals.Refusal.{Refusal}
use Rattle.art_sessions.specs.Points.{AllAt, AnswersAll, Asked, GoesOnAt}
use Rattle.art_step.specs.Views.{Member}

-- ---- what is asked

-- a start asks for the command that its text says, in its turns; a text that says none is asked too, with its fault
abbrev pub asked_in : Said → List Asked
asked_in (start turns text) = record { says = line_says text; turns = turns } ∷ []
asked_in (until mark times) = []
asked_in (step times) = []
asked_in end = []

-- of the pass at the place k, by an order to the pass at a place
abbrev pub asked_by_order : ℕ → Option (ℕ × Said) → List Asked
asked_by_order k None = []
asked_by_order k (Some (place, said)) = if place == k then asked_in said else []

abbrev pub asked_by_task : ℕ → Task → List Asked
asked_by_task k (obey line) = asked_by_order k (line_order line)
asked_by_task k (end_at place) = []

-- what the lines ask of the pass at the place k, one after another
abbrev pub asked_at : ℕ → List Task → List Asked
asked_at k tasks = flat_map (asked_by_task k) tasks

-- ---- what is told

-- what is told of the pass at a place
pub record Telling : Type 0 where
  pub place : ℕ
  pub told : Told

-- What an order can tell: a start nothing, or at once the refusal of a text that says no command; each other one that it did what it
-- says, or that the command ended.
abbrev pub CanTell : Said → Told → Type 0
CanTell (start turns text) Nothing = IsOk (line_says text)
CanTell (start turns text) (Ended reply restarts) = IsErr (line_says text)
CanTell (until mark times) (At m) = m ≡ mark
CanTell (until mark times) (Ended reply restarts) = ⊤
CanTell (step times) Stepped = ⊤
CanTell (step times) (Ended reply restarts) = ⊤
CanTell end (Ended reply restarts) = ⊤
CanTell said told = ⊥

-- where the input ended: nothing of an idle pass, or how the command under way ended
abbrev pub CanTellLast : Told → Type 0
CanTellLast Nothing = ⊤
CanTellLast (Ended reply restarts) = ⊤
CanTellLast told = ⊥

abbrev pub CanTellOf : Task → Telling → Type 0
CanTellOf (obey line) telling = (said : Said) × (line_order line ≡ Some (telling.place, said)) × CanTell said telling.told
CanTellOf (end_at place) telling = (telling.place ≡ place) × CanTellLast telling.told

-- of each task one thing is told
abbrev pub TellEach : List Task → List Telling → Type 0
TellEach [] [] = ⊤
TellEach (task ∷ tasks) (telling ∷ tellings) = CanTellOf task telling × TellEach tasks tellings
TellEach tasks tellings = ⊥

-- what is printed of it
abbrev pub text_of_telling : Telling → List ℕ
text_of_telling telling = told_text telling.place telling.told

abbrev pub texts_of_tellings : List Telling → List ℕ
texts_of_tellings tellings = flat_map text_of_telling tellings

-- the text of the reply that is told, with its line feed, if one is
abbrev pub reply_in : Told → List (List ℕ)
reply_in Nothing = []
reply_in (At mark) = []
reply_in Stepped = []
reply_in (Ended reply restarts) = (reply.items ++ 10 ∷ []) ∷ []

abbrev pub reply_by : ℕ → Telling → List (List ℕ)
reply_by k telling = if telling.place == k then reply_in telling.told else []

-- the replies that are told of the pass at the place k, one after another
abbrev pub replies_at : ℕ → List Telling → List (List ℕ)
replies_at k tellings = flat_map (reply_by k) tellings

-- ---- what was done and written

-- The tasks that were done of what was read: all of an input that ended, and the lines of one that did not. A bad line stands behind them,
-- or the task for which there was no memory. Where a write failed, it was of the last of them.
abbrev pub WereDone : List ℕ → ScheduleEnd → List Task → Type 0
WereDone read ends.Ended done = done ≡ tasks_of read
WereDone read (ends.BadLine number) done =
    (line : List ℕ) × (rest : List Task) × (tasks_of read ≡ done ++ obey line ∷ rest) × (number ≡ length done + 1)
WereDone read ends.ReadFault done = done ≡ whole_tasks read
WereDone read ends.WriteFault done = (rest : List Task) × (tasks_of read ≡ done ++ rest)
WereDone read ends.NoMemory done = (task : Task) × (rest : List Task) × (tasks_of read ≡ done ++ task ∷ rest)
WereDone read ends.ReadsUsed done = done ≡ whole_tasks read

-- of the last text, which is some, a front was written, and of the others all
pub record IsCutLast (tellings : List Telling) (written : List ℕ) : Type 0 where
  pub whole : List Telling
  pub last : Telling
  pub part : List ℕ
  pub rest : List ℕ
  pub split : tellings ≡ whole ++ last ∷ []
  pub some : text_of_telling last ≢ []
  pub cut : text_of_telling last ≡ part ++ rest
  pub written_is : written ≡ texts_of_tellings whole ++ part

-- what was told was written
abbrev pub WasWritten : ScheduleEnd → List Telling → List ℕ → Type 0
WasWritten ends.Ended tellings written = written ≡ texts_of_tellings tellings
WasWritten (ends.BadLine number) tellings written = written ≡ texts_of_tellings tellings
WasWritten ends.ReadFault tellings written = written ≡ texts_of_tellings tellings
WasWritten ends.WriteFault tellings written = IsCutLast tellings written
WasWritten ends.NoMemory tellings written = written ≡ texts_of_tellings tellings
WasWritten ends.ReadsUsed tellings written = written ≡ texts_of_tellings tellings

-- ---- one history

-- of so many things that were asked so many were answered: all, or all but the last
abbrev pub IsInTurn : ℕ → ℕ → Type 0
IsInTurn asked answered = (asked ≡ answered) ⊎ (asked ≡ answered + 1)

-- The pass p of the place k answered what the tasks asked of it, one thing after another, and is q then. The replies that were told of it
-- are its answers, in order, each before anything else was asked. One at most is left untold, and none where the schedule ended.
pub record AnswersInTurn (t : Table) (k : ℕ) (done : List Task) (tellings : List Telling) (end : ScheduleEnd) (p q : Pass) : Type 0 where
  pub told : List (Result Reply Refusal)
  pub untold : List (Result Reply Refusal)
  pub answers : AnswersAll t (asked_at k done) p (told ++ untold) q
  pub prints : replies_at k tellings ≡ map text_of_reply told
  pub in_turn : (n : ℕ) → IsInTurn (length (asked_at k (take n done))) (length (replies_at k (take n tellings)))
  pub few : length untold ≤ 1
  pub all_told : end ≡ ends.Ended → untold ≡ []

-- One sorted map gives these answers at places of the history: after all that the pass had seen, and no others of it.
pub record PlaysAt (t : Table) (log : List Event) (k : ℕ) (done : List Task) (tellings : List Telling) (end : ScheduleEnd) (p q : Pass)
    : Type 0 where
  pub answered : AnswersInTurn t k done tellings end p q
  pub places : List ℕ
  pub points : AllAt (schema_in t) log (number_of p) (asked_at k done) (answered.told ++ answered.untold) places
  pub goes : GoesOnAt t log p q places
  pub own : places_from (number_of p) 0 log ≡ own_of p ++ places

-- One legal history, which leaves the rows of the close and has events of these passes alone. What was written is what the tasks that were
-- done tell, and the replies in it are what one sorted map answers, at points of the history, to what each pass was asked.
pub record AreOneHistory (t : Table) (passes back : List Pass) (read written : List ℕ) (end : ScheduleEnd) (closed : Closed)
    : Type 0 where
  pub log : List Event
  pub legal : IsLegal (schema_in t) log
  pub rows : closed.rows.items ≡ replay (schema_in t) log
  pub whole : (e : Event) → Member e log → IsHere e.pass back
  pub done : List Task
  pub did : WereDone read end done
  pub tellings : List Telling
  pub tells : TellEach done tellings
  pub wrote : WasWritten end tellings written
  pub many : length back ≡ length passes
  pub each : (k : ℕ) (p q : Pass) → slice_get passes k ≡ Some p → slice_get back k ≡ Some q → PlaysAt t log k done tellings end p q

-- A schedule was run on the eight passes of a table, or there was no memory for their places; and the table was closed with the passes as
-- they came back.
abbrev pub SchedulesAreOneMap : Type 0
SchedulesAreOneMap = (t : Table) (passes back : List Pass) (read written : List ℕ) (end : ScheduleEnd) (closed : Closed)
    → length passes ≡ 8 → ArePassesOf t passes
    → IsSchedule t passes back read written end ⊎ HasNoPlaces passes back read written end
    → IsClosed t back closed
    → AreOneHistory t passes back read written end closed
