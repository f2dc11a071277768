-- What closing a table gives.
use Rattle.std.specs.Prelude.{◌≡◌, ℕ, ◌+◌, ◌<◌, List, [], ◌∷◌, ◌==◌, if◌then◌else◌, length, map}
use Rattle.std.specs.List.{sum_by}
use Rattle.art_cell.specs.declared.cells.Pool.{Pool}
use Rattle.art_cell.specs.declared.cells.Pool.TheVariants as pool
use Rattle.art_closed.specs.Counts.{IsCounted, waiting_among}
use Rattle.art_closed.specs.declared.counts.PoolCount.{PoolCount}
use Rattle.art_epoch.specs.Limbo.{places_of}
use Rattle.art_epoch.specs.declared.limbo.Place.{Place}
use Rattle.art_key.specs.Histories.{IsLegal, replay}
use Rattle.art_key.specs.declared.events.Event.{Event}
use Rattle.art_shared.specs.Closing.{IsAccounted}
use Rattle.art_shared.specs.declared.pass.Pass.{Pass as Seat}
use Rattle.art_step.specs.Sound.{ShowsReplay}
use Rattle.art_step.specs.Views.{Member, Memory}
use Rattle.art_step.specs.declared.views.Event.{Event as ByteEvent}
use Rattle.art_table.specs.Marks.{StartsWith}
use Rattle.art_table.specs.Tables.{IsPassOf, caller_of, number_of, own_of, schema_in, seen_by, sizes_in}
use Rattle.art_table.specs.declared.closing.CloseRefusal.{CloseRefusal}
use Rattle.art_table.specs.declared.closing.CloseRefusal.TheVariants.{PassesMissing, NoMemory}
use Rattle.art_table.specs.declared.closing.Closed.{Closed}
use Rattle.art_table.specs.declared.passes.Pass.{Pass}
use Rattle.art_table.specs.declared.tables.Table.{Table}
use Rattle.art_typed.specs.Typed.{typed}

-- one of them has this number
abbrev pub IsHere : ℕ → List Pass → Type 0
IsHere n passes = (p : Pass) × Member p passes × (number_of p ≡ n)

-- these are as many passes as the table has, and each number is that of one
abbrev pub AreAllPasses : ℕ → List Pass → Type 0
AreAllPasses count passes = (length passes ≡ count) × ((n : ℕ) → n < count → IsHere n passes)

-- passes are looked for before memory is
abbrev pub Explains : Table → List Pass → CloseRefusal → Type 0
Explains t passes PassesMissing = ¬ (AreAllPasses (sizes_in t).passes passes)
Explains t passes NoMemory = AreAllPasses (sizes_in t).passes passes

-- ---- one history

-- the places of a pass's events in a history, from a place on
abbrev pub places_from : ℕ → ℕ → List Event → List ℕ
places_from p k [] = []
places_from p k (e ∷ es) = if e.pass == p then k ∷ places_from p (k + 1) es else places_from p (k + 1) es

-- it is legal, begins with what each of these passes has seen, and has the events of each at their places, and no others
pub record TellsAll (t : Table) (passes : List Pass) (log : List Event) : Type 0 where
  pub legal : IsLegal (schema_in t) log
  pub begins : (p : Pass) → Member p passes → StartsWith log (seen_by t p)
  pub own : (p : Pass) → Member p passes → places_from (number_of p) 0 log ≡ own_of p
  pub whole : (e : Event) → Member e log → IsHere e.pass passes

-- ---- what the table held

abbrev pub seats_of : List Pass → List Seat
seats_of passes = map (λ (p : Pass). p.seat) passes

-- what waits in each limbo, and how many numbers of a pool wait in all
abbrev pub limbos_of : List Pass → List (List Place)
limbos_of passes = map (λ (p : Pass). places_of (caller_of p).limbo) passes

abbrev pub waits_of : Pool → Pass → ℕ
waits_of pool p = waiting_among pool (places_of (caller_of p).limbo)

abbrev pub waits : Pool → List Pass → ℕ
waits pool passes = sum_by (waits_of pool) passes

abbrev pub count_of : Pool → Closed → PoolCount
count_of pool.Leaves c = c.leaves
count_of pool.N4 c = c.n4
count_of pool.N16 c = c.n16
count_of pool.N48 c = c.n48
count_of pool.N256 c = c.n256

-- one history of keys, and words that show the tree which it leaves: the rows are those that it leaves as one of typed rows, in order. By
-- these words each number of each pool has one fate, with the passes' limbos, and the counts are how many have which
pub record IsClosed (t : Table) (passes : List Pass) (c : Closed) : Type 0 where
  pub log : List ByteEvent
  pub memory : Memory
  pub shows : ShowsReplay (sizes_in t) log memory.words
  pub tells : TellsAll t passes (typed (schema_in t) log)
  pub rows : c.rows.items ≡ replay (schema_in t) (typed (schema_in t) log)
  pub accounted : IsAccounted (sizes_in t) memory (seats_of passes)
  pub counts : (p : Pool) → IsCounted (sizes_in t) memory (seats_of passes) p (count_of p c)
