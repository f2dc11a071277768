-- The threads of a load.
use Rattle.std.specs.Prelude.{◌≡◌, ℕ, ◌+◌, ◌<◌, ◌^◌, List, [], ◌∷◌, map, ⊤}
use Rattle.std.specs.List.{AllByRecursion}
use Rattle.std.specs.declared.thread.PromisedHandle.{PromisedHandle}
use Rattle.art_load.specs.Commands.{load_commands}
use Rattle.art_load.specs.declared.loads.Loaded.{Loaded}
use Rattle.art_load.specs.declared.threads.LoadPromise.{LoadPromise}
use Rattle.art_table.specs.declared.passes.Pass.{Pass}
use Rattle.art_table.specs.declared.tables.Table.{Table}

-- what the threads promise
abbrev pub promises_of : List (PromisedHandle Loaded LoadPromise) → List LoadPromise
promises_of handles = map (λ (h : PromisedHandle Loaded LoadPromise). h.promise) handles

-- a thread loads the table, by so many commands as a u32 can count
pub record IsOfTable (t : Table) (promise : LoadPromise) : Type 0 where
  pub table : promise.table.value ≡ t
  pub few : promise.plan.ops < 2 ^ 32

abbrev pub AreOfTable : Table → List LoadPromise → Type 0
AreOfTable t promises = AllByRecursion (IsOfTable t) promises

-- a thread was started for the pass, with this number
pub record IsStart (t : Table) (seed keys ops thread : ℕ) (p : Pass) (promise : LoadPromise) : Type 0 where
  pub table : promise.table.value ≡ t
  pub pass : promise.pass.value ≡ p
  pub commands : load_commands promise.plan.seed promise.plan.keys promise.thread promise.plan.ops ≡ load_commands seed keys thread ops

-- one for each of the passes, numbered from a number on
abbrev pub AreStarts : Table → ℕ → ℕ → ℕ → ℕ → List Pass → List LoadPromise → Type 0
AreStarts t seed keys ops thread [] [] = ⊤
AreStarts t seed keys ops thread (p ∷ ps) (h ∷ hs) = IsStart t seed keys ops thread p h × AreStarts t seed keys ops (thread + 1) ps hs
AreStarts t seed keys ops thread ps hs = ⊥
