-- What the workers of a server did with their passes.
use Rattle.std.specs.Prelude.{◌≡◌, ℕ, ◌<◌, ◌^◌, true, List, [], ◌∷◌, length, map, ◌⊎◌, Result, IfOk}
use Rattle.std.specs.List.{AllZip, sum_by}
use Rattle.std.specs.declared.thread.PromisedHandle.{PromisedHandle}
use Rattle.art_sessions.specs.Talks.{AreOneMap, HasTalks, Talk, Worker}
use Rattle.art_step.specs.Views.{Member}
use Rattle.art_sessions.specs.ArtServer.ArtTable.Closing.{IsClosed}
use Rattle.art_sessions.specs.ArtServer.ArtTable.Tables.{AreOf, IsPassOf}
use Rattle.art_sessions.specs.ArtServer.ArtTable.declared.closing.Closed.{Closed}
use Rattle.art_sessions.specs.ArtServer.ArtTable.declared.passes.Pass.{Pass}
use Rattle.art_sessions.specs.ArtServer.ArtTable.declared.tables.Table.{Table}
use Rattle.art_workers.specs.declared.faults.ServeFault.{ServeFault}
use Rattle.art_workers.specs.declared.serving.Staff.{Staff}
use Rattle.art_workers.specs.declared.serving.Task.{Task}
use Rattle.art_workers.specs.declared.serving.Worked.{Worked}

-- ---- one worker

-- the pass p had talks, as many as the worker counted, and is then the one that it gave back
pub record HasWorked (t : Table) (p : Pass) (worked : Worked) : Type 0 where
  pub pass : IsPassOf t worked.pass
  pub talks : List Talk
  pub had : HasTalks t p talks worked.pass
  pub ended : worked.ended ≡ length talks
  pub few : worked.ended < 2 ^ 32

-- a worker that was started, by its handle
abbrev pub Running : Type 0
Running = PromisedHandle Worked Task

-- it was started with the pass
pub record IsTaskOf (t : Table) (p : Pass) (worker : Running) : Type 0 where
  pub table : worker.promise.table.value ≡ t
  pub pass : worker.promise.pass.value ≡ p

-- ---- all workers

abbrev pub befores_of : List Worker → List Pass
befores_of workers = map (λ (w : Worker). w.before) workers

abbrev pub afters_of : List Worker → List Pass
afters_of workers = map (λ (w : Worker). w.after) workers

abbrev pub talks_of : List Worker → ℕ
talks_of workers = sum_by (λ (w : Worker). length w.talks) workers

-- these are some of those, in their order
abbrev pub AreSomeOf : List Pass → List Pass → Type 0
AreSomeOf ps [] = ps ≡ []
AreSomeOf ps (q ∷ qs) = AreSomeOf ps qs ⊎ ((rest : List Pass) × (ps ≡ q ∷ rest) × AreSomeOf rest qs)

-- some of the passes were given to workers, in their order, or all of them
pub record Starts (t : Table) (given : List Pass) (staff : Staff) : Type 0 where
  pub started : List Pass
  pub some : AreSomeOf started given
  pub tasks : AllZip (IsTaskOf t) started staff.running.items
  pub all : staff.all ≡ true → started ≡ given

-- each pass that a worker was started with had talks and came back, in its place; so many talks were had
pub record HaveWorked (t : Table) (started back : List Pass) (ended : ℕ) : Type 0 where
  pub workers : List Worker
  pub before : befores_of workers ≡ started
  pub after : afters_of workers ≡ back
  pub had : (w : Worker) → Member w workers → IsPassOf t w.after × HasTalks t w.before w.talks w.after
  pub counted : ended ≡ talks_of workers

-- The passes that came back are some of those that were given, in their order, each after talks of its own. Where as many came back as
-- were given, they are all of them. So they are where a number is told, and it is the number of all their talks.
pub record HaveServed (t : Table) (given back : List Pass) (told : Result ℕ ServeFault) : Type 0 where
  pub workers : List Worker
  pub before : AreSomeOf (befores_of workers) given
  pub after : afters_of workers ≡ back
  pub talks : (w : Worker) → Member w workers → HasTalks t w.before w.talks w.after
  pub all : length back ≡ length given → befores_of workers ≡ given
  pub whole : IfOk told (λ ended. (befores_of workers ≡ given) × (ended ≡ talks_of workers))

-- ---- the close

-- Passes of a table were served, and it was closed with those that came back: all that their workers' clients read and wrote is of one
-- history, which leaves the rows of the close.
abbrev pub ServedAreOneMap : Type 0
ServedAreOneMap = (t : Table) (given back : List Pass) (told : Result ℕ ServeFault) (closed : Closed)
    → AreOf t given → (served : HaveServed t given back told) → IsClosed t back closed → AreOneMap t served.workers closed
