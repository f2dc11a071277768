-- What stands at the place of a pass.
use Rattle.std.specs.Prelude.{◌≡◌, ℕ, ◌≤◌, ◌^◌, ◌<◌, List, Bool, true, false}
use Rattle.art_model.specs.declared.commands.Command.{Command}
use Rattle.art_model.specs.declared.rows.Row.{Row}
use Rattle.art_server.specs.ArtScan.Endings.{CommandEnds}
use Rattle.art_server.specs.ArtScan.Running.{HasNoStep, IsRunning, restarts_in, view_in}
use Rattle.art_server.specs.ArtTable.Tables.{IsPassOf, sizes_in, view_of}
use Rattle.art_server.specs.ArtTable.Steps.{Made}
use Rattle.art_server.specs.Sessions.{IsSamePass}
use Rattle.art_schedule.specs.Steps.{MakesSteps}
use Rattle.art_server.specs.ArtScan.declared.running.Ending.{Ending}
use Rattle.art_server.specs.ArtTable.declared.passes.Pass.{Pass}
use Rattle.art_server.specs.ArtScan.declared.running.Running.{Running}
use Rattle.art_server.specs.ArtTable.declared.tables.Table.{Table}
use Rattle.art_schedule.specs.declared.seats.Seat.{Seat}
use Rattle.art_schedule.specs.declared.seats.Seat.TheVariants.{Idle, Going, Away}

-- a command that goes on is the same command of the same pass
pub record KeepsRunning (t : Table) (r : Running) (rows : List Row) (s : Running) (rows_after : List Row) : Type 0 where
  pub keeps : (c : Command) (turns : ℕ) (q : Pass) → IsRunning t c turns q r rows → IsRunning t c turns q s rows_after

-- a command is under way, which a pass of p's place began: it has made no fewer steps than that had
pub record IsGoing (t : Table) (p : Pass) (r : Running) (rows : List Row) : Type 0 where
  pub command : Command
  pub turns : ℕ
  pub began : Pass
  pub same : IsSamePass p began
  pub few : turns < 2 ^ 32
  pub runs : IsRunning t command turns began r rows
  pub since : (view_of began).steps ≤ (view_in r).steps

-- the pass p is idle there, as it is by now, or a command of it is under way
abbrev pub IsSeat : Table → Pass → Seat → List Row → Type 0
IsSeat t p (Idle q) rows = IsPassOf t q × IsSamePass p q
IsSeat t p (Going r) rows = IsGoing t p r rows
IsSeat t p Away rows = ⊥

-- nothing is under way
abbrev pub is_idle : Seat → Bool
is_idle (Idle q) = true
is_idle (Going r) = false
is_idle Away = false

abbrev pub IsIdle : Seat → Type 0
IsIdle s = is_idle s ≡ true

-- the command was begun by the pass that was idle there, in so many turns, and made no step
pub record BeginsThere (t : Table) (command : Command) (turns : ℕ) (old new : Seat) (rows : List Row) : Type 0 where
  pub pass : Pass
  pub running : Running
  pub was : old ≡ Idle pass
  pub now : new ≡ Going running
  pub runs : IsRunning t command turns pass running rows
  pub still : view_in running ≡ view_of pass

-- All steps that were left of the command under way were made: it ended so, after so many restarts, with these rows listed, and its pass
-- is idle then.
pub record Finishes (t : Table) (r : Running) (rows : List Row) (pass : Pass) (ending : Ending) (restarts : ℕ) (rows_after : List Row)
    : Type 0 where
  pub made : List Made
  pub last : Running
  pub between : List Row
  pub steps : MakesSteps (sizes_in t) (view_in r) made (view_in last)
  pub keeps : KeepsRunning t r rows last between
  pub none : HasNoStep t last between
  pub restarted : restarts ≡ restarts_in last
  pub of : IsPassOf t pass
  pub ends : (c : Command) (turns : ℕ) (p : Pass) → IsRunning t c turns p r rows → CommandEnds t c turns p rows_after ending pass

-- the command under way was run to its end, whichever it was: its pass is idle then
pub record RunsOut (t : Table) (r : Running) (rows : List Row) (pass : Pass) : Type 0 where
  pub ending : Ending
  pub restarts : ℕ
  pub rows_after : List Row
  pub finishes : Finishes t r rows pass ending restarts rows_after

-- the pass that comes back of a place: the one that is idle there, or the one with which the command under way was run to its end
abbrev pub SettlesTo : Table → Seat → List Row → Pass → Type 0
SettlesTo t (Idle q) rows back = back ≡ q
SettlesTo t (Going r) rows back = RunsOut t r rows back
SettlesTo t Away rows back = ⊥

-- the command under way made some steps, or none, and goes on: it is the same command
pub record MakesSome (t : Table) (r : Running) (rows : List Row) (s : Running) (rows_after : List Row) : Type 0 where
  pub made : List Made
  pub steps : MakesSteps (sizes_in t) (view_in r) made (view_in s)
  pub keeps : KeepsRunning t r rows s rows_after

-- what is under way at the place goes on or was run to its end; where nothing is, nothing was done
abbrev pub Advances : Table → Seat → List Row → Seat → List Row → Type 0
Advances t (Idle q) rows new rows_after = new ≡ Idle q
Advances t (Going r) rows (Idle q) rows_after = RunsOut t r rows q
Advances t (Going r) rows (Going s) rows_after = MakesSome t r rows s rows_after
Advances t (Going r) rows Away rows_after = ⊥
Advances t Away rows new rows_after = new ≡ Away

-- what was under way at the place has ended so
pub record EndsThere (t : Table) (old : Seat) (rows : List Row) (new : Seat) (rows_after : List Row) (ending : Ending) (restarts : ℕ)
    : Type 0 where
  pub running : Running
  pub pass : Pass
  pub was : old ≡ Going running
  pub now : new ≡ Idle pass
  pub finishes : Finishes t running rows pass ending restarts rows_after

-- a command of a pass of the table ended so, with these rows listed
pub record HasEnding (t : Table) (rows : List Row) (ending : Ending) : Type 0 where
  pub command : Command
  pub turns : ℕ
  pub began : Pass
  pub pass : Pass
  pub ends : CommandEnds t command turns began rows ending pass
