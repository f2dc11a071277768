-- How many numbers of a pool have each fate.
use Rattle.std.specs.Prelude.{◌≡◌, ◌↔◌, ℕ, ◌+◌, List, [], ◌∷◌, length, map, nat_eq, Bool, ⊤}
use Rattle.std.specs.List.{count_by, range_with_len, sum_by}
use Rattle.art_cell.specs.Children.{link_in_pool}
use Rattle.art_cell.specs.declared.cells.Link.{Link}
use Rattle.art_cell.specs.declared.cells.Pool.{Pool}
use Rattle.art_epoch.specs.Limbo.{IsLimbo}
use Rattle.art_epoch.specs.declared.limbo.Place.{Place}
use Rattle.art_shared.specs.Closing.{Fate, Free, HasFate, InLimbo, IsAccounted, Linked}
use Rattle.art_shared.specs.Tables.{view_of_pass}
use Rattle.art_shared.specs.declared.pass.Pass.{Pass}
use Rattle.art_step.specs.Views.{IsOnce, Member, Memory, pool_of, pool_rank}
use Rattle.art_step.specs.WordPlaces.{pool_size}
use Rattle.art_step.specs.declared.views.Sizes.{Sizes}
use Rattle.art_closed.specs.declared.counts.PoolCount.{PoolCount}

-- just n numbers are so: some list has all of these and no others, each once, and is n long
abbrev pub HasCount : (Link → Type 0) → ℕ → Type 0
HasCount P n = (ds : List Link) × IsOnce ds × ((d : Link) → Member d ds ↔ P d) × (length ds ≡ n)

-- a number of the pool with this fate
abbrev pub IsIn : Memory → List Pass → Pool → Fate → Link → Type 0
IsIn m passes pool w d = (pool_of d ≡ pool) × HasFate m passes d w

-- a number of the pool that waits in the limbo of one of the passes
abbrev pub Waits : Memory → List Pass → Pool → Link → Type 0
Waits m passes pool d = (p : ℕ) × IsIn m passes pool (InLimbo p) d

-- each number of the pool is counted, by its fate
pub record IsCounted (z : Sizes) (m : Memory) (passes : List Pass) (pool : Pool) (r : PoolCount) : Type 0 where
  pub linked : HasCount (IsIn m passes pool Linked) r.linked
  pub free : HasCount (IsIn m passes pool Free) r.free
  pub in_limbo : HasCount (Waits m passes pool) r.in_limbo
  pub whole : r.linked + r.free + r.in_limbo ≡ pool_size z pool

-- each number has one fate, and so many of the pool wait in limbos of the passes
pub record HasWaiting (z : Sizes) (m : Memory) (pool : Pool) (n : ℕ) (passes : List Pass) : Type 0 where
  pub accounted : IsAccounted z m passes
  pub waiting : HasCount (Waits m passes pool) n

-- so many numbers of the pool, from the first one on
abbrev pub first_numbers : Pool → ℕ → List Link
first_numbers pool n = map (link_in_pool pool) (range_with_len 0 n)

-- ---- what waits, as the code keeps it

-- the number is one of the pool
abbrev pub is_of : Pool → Link → Bool
is_of pool d = nat_eq (pool_rank (pool_of d)) (pool_rank pool)

-- how many of the places have numbers of the pool
abbrev pub waiting_among : Pool → List Place → ℕ
waiting_among pool ps = count_by (λ (x : Place). is_of pool x.link) ps

abbrev pub waiting_in_all : Pool → List (List Place) → ℕ
waiting_in_all pool pss = sum_by (waiting_among pool) pss

-- the limbos of the passes, in their order
abbrev pub HaveLimbos : List Pass → List (List Place) → Type 0
HaveLimbos [] [] = ⊤
HaveLimbos [] (ps ∷ pss) = ⊥
HaveLimbos (a ∷ passes) [] = ⊥
HaveLimbos (a ∷ passes) (ps ∷ pss) = IsLimbo ps [] (view_of_pass a).limbo × HaveLimbos passes pss
