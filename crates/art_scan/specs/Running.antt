-- Commands that are made step by step.
use Rattle.std.specs.Prelude.{◌≡◌, ℕ, ◌+◌, ◌-◌, ◌*◌, ◌^◌, ◌<◌, ◌≤◌, ◌&&◌, Bool, true, false, List, length, min, nat_lt, Option, Some, None, Result, Ok, Err, ⊤}
use Rattle.art_key.specs.Bounds.{is_before}
use Rattle.art_key.specs.Histories.{bound_at}
use Rattle.art_key.specs.declared.bounds.Bound.{Bound}
use Rattle.art_model.specs.Rows.{Tuple}
use Rattle.art_model.specs.declared.commands.Command.{Command}
use Rattle.art_model.specs.declared.commands.Command.TheVariants.{Insert, Remove, Get, Scan}
use Rattle.art_model.specs.declared.rows.Row.{Row}
use Rattle.art_scan.specs.Scans.{HasTiled, Scans, scan_fault}
use Rattle.art_scan.specs.Tiles.{EndsRange, Tile, rows_of, with_found}
use Rattle.art_scan.specs.Tilings.{IsScanning}
use Rattle.art_scan.specs.declared.faults.ScanFault.{ScanFault}
use Rattle.art_scan.specs.declared.looking.Looking.{Looking}
use Rattle.art_scan.specs.declared.running.Running.{Running}
use Rattle.art_scan.specs.declared.running.Stage.{Stage}
use Rattle.art_scan.specs.declared.running.Stage.TheVariants as stage
use Rattle.art_scan.specs.declared.scans.More.{More}
use Rattle.art_scan.specs.declared.tilings.Tiling.{Tiling}
use Rattle.art_step.specs.declared.views.View.{View}
use Rattle.art_table.specs.Attempts as attempts
use Rattle.art_table.specs.Attempts.{HasStopped, answer_of, restarts_of}
use Rattle.art_table.specs.Calls.{IsAttempt}
use Rattle.art_table.specs.Steps.{HoldsOrTold}
use Rattle.art_table.specs.Tables.{IsPassOf, schema_in, view_of}
use Rattle.art_table.specs.declared.faults.Fault.{Fault}
use Rattle.art_table.specs.declared.jobs.Job.TheVariants as job
use Rattle.art_table.specs.declared.jobs.Outcome.{Outcome}
use Rattle.art_table.specs.declared.jobs.Outcome.TheVariants.{Seen as saw}
use Rattle.art_table.specs.declared.jobs.Seen.{Seen}
use Rattle.art_table.specs.declared.passes.Pass.{Pass}
use Rattle.art_table.specs.declared.tables.Table.{Table}

-- ---- a scan that goes on by a look

-- the scan is made as far as before the look, which is wanted, and is under way or has ended
pub record IsLooking (t : Table) (lo hi : Tuple) (limit turns : ℕ) (p : Pass) (rows : List Row) (l : Looking) : Type 0 where
  pub began : Pass
  pub scan : IsScanning t lo hi limit turns p began rows l.tiling
  pub on : (nat_lt (length rows) l.tiling.limit && is_before l.tiling.from l.tiling.end) ≡ true
  pub look : IsAttempt t (job.Look l.tiling.from l.tiling.end) l.tiling.turns began l.attempt

-- what a look has seen, where it has ended and was answered
abbrev pub seen_by_look : Option (Result Outcome Fault) → Option Seen
seen_by_look (Some (Ok (saw s))) = Some s
seen_by_look o = None

-- after a look that saw this another is wanted: the limit is not met, and something of the range is left
abbrev pub wants_look : List Row → Tiling → Option Seen → Bool
wants_look rows g (Some s) = nat_lt (length (with_found rows s.row)) g.limit && is_before s.hi g.end
wants_look rows g None = false

-- the look has ended, and no other is wanted
pub record LooksNoMore (t : Table) (rows : List Row) (l : Looking) : Type 0 where
  pub stopped : HasStopped l.attempt
  pub none : wants_look rows l.tiling (seen_by_look (answer_of t l.attempt)) ≡ false

-- The scan has ended, and its pass is q. Where it was refused, it was for what it says, before any step, and it never restarted.
pub record IsOver (t : Table) (lo hi : Tuple) (limit turns : ℕ) (p : Pass) (rows : List Row) (q : Pass) (r : Result More ScanFault)
    (restarts : ℕ) : Type 0 where
  pub pass : IsPassOf t q
  pub scans : Scans t lo hi limit turns p rows r q
  pub at_once : (f : ScanFault) → r ≡ Err f → (scan_fault (schema_in t) lo hi limit ≡ Some f) × (restarts ≡ 0)

-- ---- a command

-- the command of the pass p has come so far, of so many turns that it was given; these rows are listed
abbrev pub GoesOn : Table → Command → ℕ → Pass → Stage → List Row → Type 0
GoesOn t (Insert tuple value) turns p (stage.Call a) rows = IsAttempt t (job.Insert tuple value) turns p a
GoesOn t (Remove tuple) turns p (stage.Call a) rows = IsAttempt t (job.Remove tuple) turns p a
GoesOn t (Get tuple) turns p (stage.Call a) rows = IsAttempt t (job.Get tuple) turns p a
GoesOn t (Scan lo hi limit) turns p (stage.Look l) rows = IsLooking t lo hi limit turns p rows l
GoesOn t (Scan lo hi limit) turns p (stage.Over q r n) rows = IsOver t lo hi limit turns p rows q r n
GoesOn t c turns p s rows = ⊥

abbrev pub IsRunning : Table → Command → ℕ → Pass → Running → List Row → Type 0
IsRunning t c turns p r rows = GoesOn t c turns p r.stage rows

abbrev pub pass_at : Stage → Pass
pass_at (stage.Call a) = a.pass
pass_at (stage.Look l) = l.attempt.pass
pass_at (stage.Over q r n) = q

-- what its pass knows of the words
abbrev pub view_in : Running → View
view_in r = view_of (pass_at r.stage)

abbrev pub NoStepAt : Table → List Row → Stage → Type 0
NoStepAt t rows (stage.Call a) = HasStopped a
NoStepAt t rows (stage.Look l) = LooksNoMore t rows l
NoStepAt t rows (stage.Over q r n) = ⊤

-- no step of it is left
abbrev pub HasNoStep : Table → Running → List Row → Type 0
HasNoStep t r rows = NoStepAt t rows r.stage

-- ---- a command that is given up

-- Looks were made, and nothing else: the pass p is q then. Unless the scan was refused for what it says, another look was wanted: the
-- limit is not met, and something of the range is left.
pub record LeavesScan (t : Table) (lo hi : Tuple) (limit turns : ℕ) (p q : Pass) : Type 0 where
  pub reached : Bound
  pub tiles : List Tile
  pub tiled : HasTiled t (bound_at (schema_in t) lo) reached tiles p q
  pub left : scan_fault (schema_in t) lo hi limit ≡ None
      → (end : Bound) × EndsRange (schema_in t) hi end × (is_before reached end ≡ true) × (length (rows_of tiles) < limit)
  pub steps : (view_of q).steps ≤ (view_of p).steps + 2 * turns + 1000

-- the pass p is q then, the same one: nothing was told but looks of a scan that is not decided, in few steps beside the turns
abbrev pub IsGivenUp : Table → Command → ℕ → Pass → Pass → Type 0
IsGivenUp t (Scan lo hi limit) turns p q = LeavesScan t lo hi limit turns p q
IsGivenUp t c turns p q = attempts.IsGivenUp t turns p q

abbrev pub FreeAt : Pass → Stage → Type 0
FreeAt p (stage.Call a) = ¬ (HoldsOrTold (view_of p) (view_of a.pass))
FreeAt p s = ⊤

-- its call, if it is one, holds no cell and has told nothing
abbrev pub IsFree : Pass → Running → Type 0
IsFree p r = FreeAt p r.stage

abbrev pub DecidedAt : Pass → Stage → Type 0
DecidedAt p (stage.Call a) = HoldsOrTold (view_of p) (view_of a.pass)
DecidedAt p (stage.Look l) = ⊥
DecidedAt p (stage.Over q (Ok more) n) = ⊤
DecidedAt p (stage.Over q (Err fault) n) = ⊥

-- it cannot be: a cell is held, or its event was made; or the last look of a scan was decided, and has ended
abbrev pub HasDecided : Pass → Running → Type 0
HasDecided p r = DecidedAt p r.stage

-- ---- how often it restarted

-- together, up to the most that 64 bits hold
abbrev pub restarts_of_looks : Looking → ℕ
restarts_of_looks l = min (l.restarts + restarts_of l.attempt) (2 ^ 64 - 1)

abbrev pub restarts_at : Stage → ℕ
restarts_at (stage.Call a) = restarts_of a
restarts_at (stage.Look l) = restarts_of_looks l
restarts_at (stage.Over q r n) = n

abbrev pub restarts_in : Running → ℕ
restarts_in r = restarts_at r.stage
