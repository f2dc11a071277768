-- What a reserve knows between two of its steps.
use Rattle.std.specs.Prelude.{◌≡◌, ◌⊎◌, ℕ, ◌+◌, ◌*◌, ◌<◌, ◌≤◌, List, true, false, Option, Some, None}
use Rattle.std.specs.Option.{option_and_then}
use Rattle.art_cell.specs.declared.cells.Layout.{Layout}
use Rattle.art_cell.specs.declared.cells.Pool.{Pool}
use Rattle.art_cell.specs.declared.cells.Pool.TheVariants.{Leaves}
use Rattle.art_epoch.specs.Taking.{MadeFew, NoneBefore, OnlyTakes}
use Rattle.art_epoch.specs.Taking as taking
use Rattle.art_step.specs.declared.actions.Action.{Action}
use Rattle.art_epoch.specs.declared.stocks.Taking.{Taking}
use Rattle.art_epoch.specs.Stocks.{HasStock, node_in}
use Rattle.art_epoch.specs.declared.stocks.Stock.{Stock}
use Rattle.art_attempt.specs.declared.reserve.Reserved.{Reserved}
use Rattle.art_attempt.specs.declared.reserve.Reserved.TheVariants.{Ready, Full}
use Rattle.art_attempt.specs.declared.reserve.Reserve.{Reserve}
use Rattle.art_attempt.specs.declared.reserve.Reserve.TheVariants.{Leaf, LeafWriter, Node, Ended}
use Rattle.art_attempt.specs.declared.reserve.Demand.{Demand}
use Rattle.art_epoch.specs.LeafWriter.{LeafWriterFits, word_asked}
use Rattle.art_epoch.specs.declared.leaf_writer.LeafWriter.{LeafWriter as LeafWriterOf}
use Rattle.art_step.specs.Views.{Member, pool_of_layout}
use Rattle.art_step.specs.WordPlaces.{free_words, pool_size}
use Rattle.art_step.specs.declared.views.Found.{Found}
use Rattle.art_step.specs.declared.views.Sizes.{Sizes}
use Rattle.art_step.specs.declared.views.View.{View}

-- ---- what it asks

-- the next word of the leaf
abbrev pub leaf_asked : List ℕ → ℕ → LeafWriterOf → ℕ → Option Action
leaf_asked k value p l = word_asked l k value p.place

-- the next step, of a row with this key and value
abbrev pub asks : List ℕ → ℕ → Stock → Reserve → Option Action
asks k value stock (Leaf t) = taking.asks t
asks k value stock (LeafWriter p) = option_and_then (leaf_asked k value p) stock.leaf
asks k value stock (Node t) = taking.asks t
asks k value stock (Ended r) = None

-- how it ended, if it has
abbrev pub ended_at : Reserve → Option Reserved
ended_at (Ended r) = Some r
ended_at m = None

-- ---- how many steps it makes at most

-- a search makes two for each free word of its pool
abbrev pub search_steps : Sizes → Pool → ℕ
search_steps z pool = 2 * free_words (pool_size z pool)

-- the leaf is sought, and gets ten words
abbrev pub leaf_steps : Sizes → ℕ
leaf_steps z = search_steps z Leaves + 10

-- the node is sought, where one is wanted
abbrev pub node_steps : Sizes → Option Layout → ℕ
node_steps z (Some layout) = search_steps z (pool_of_layout layout)
node_steps z None = 0

abbrev pub most_steps : Sizes → Demand → ℕ
most_steps z demand = leaf_steps z + node_steps z demand.node

-- so many are made before a number of the pool is sought
abbrev pub steps_before : Sizes → Pool → ℕ
steps_before z Leaves = 0
steps_before z pool = leaf_steps z

-- ---- how many it makes at most, but for one for each that failed

-- a search makes one for each free word of its pool, and one more
abbrev pub search_looks : Sizes → Pool → ℕ
search_looks z pool = free_words (pool_size z pool) + 1

-- so many for the leaf, wanted or not
abbrev pub leaf_looks : Sizes → ℕ
leaf_looks z = search_looks z Leaves + 10

-- and for the node, where one is wanted
abbrev pub node_looks : Sizes → Option Layout → ℕ
node_looks z (Some layout) = search_looks z (pool_of_layout layout)
node_looks z None = 0

abbrev pub few_steps : Sizes → Demand → ℕ
few_steps z demand = leaf_looks z + node_looks z demand.node

-- so many are made before a number of the pool is sought
abbrev pub looks_before : Sizes → Pool → ℕ
looks_before z Leaves = 0
looks_before z pool = leaf_looks z

-- from u to v so many were made at most; and but for one for each that failed so few
pub record IsSoon (u v : View) (most few : ℕ) : Type 0 where
  pub steps : v.steps ≤ u.steps + most
  pub counted : MadeFew u v few

-- ---- what is wanted, and what is there

-- a number of the pool is wanted
abbrev pub IsWanted : Demand → Pool → Type 0
IsWanted demand pool =
    ((pool ≡ Leaves) × (demand.leaf ≡ true)) ⊎ ((layout : Layout) × (demand.node ≡ Some layout) × (pool ≡ pool_of_layout layout))

-- a leaf is in hand, with its words
pub record HasLeafWords (stock : Stock) : Type 0 where
  pub leaf : ℕ
  pub is : stock.leaf ≡ Some leaf
  pub written : stock.written ≡ true

-- so it is where one is wanted; and a node of the layout that is wanted is in hand
pub record HasAll (demand : Demand) (stock : Stock) : Type 0 where
  pub leaf : demand.leaf ≡ true → HasLeafWords stock
  pub node : (layout : Layout) → demand.node ≡ Some layout → (i : ℕ) × (node_in stock layout ≡ Some i)

-- no free word of the pool, of which a number is wanted, gave one since a step that came after the view u
pub record HasNone (z : Sizes) (demand : Demand) (pool : Pool) (u v : View) : Type 0 where
  pub wanted : IsWanted demand pool
  pub since : ℕ
  pub after : u.steps ≤ since
  pub none : NoneBefore v since pool (free_words (pool_size z pool))

-- ---- what it knows, of a pass that had the view u when it began

-- each word that was found stays so
abbrev pub StayFound : View → View → Type 0
StayFound u v = (x : Found) → Member x u.found → Member x v.found

-- but for what it took and found the pass is as it was, and has just the numbers of the stock in hand
pub record OnlySupplies (z : Sizes) (k : List ℕ) (value : ℕ) (stock : Stock) (u v : View) : Type 0 where
  pub only : OnlyTakes u v
  pub found : StayFound u v
  pub later : u.steps ≤ v.steps
  pub failures : u.failures ≤ v.failures
  pub has : HasStock z k value v stock

-- a number of the pool is sought since a view that came later
pub record IsSought (z : Sizes) (k : List ℕ) (value : ℕ) (stock : Stock) (u : View) (t : Taking) (pool : Pool) (v : View) : Type 0 where
  pub early : View
  pub base : OnlySupplies z k value stock u early
  pub found : StayFound early v
  pub soon : IsSoon u early (steps_before z pool) (looks_before z pool)
  pub seeks : taking.Fits z early t v
  pub pool_is : t.pool ≡ pool

-- and the search goes on
pub record IsSeeking (z : Sizes) (k : List ℕ) (value : ℕ) (stock : Stock) (u : View) (t : Taking) (pool : Pool) (v : View) : Type 0 where
  pub sought : IsSought z k value stock u t pool v
  pub going : (a : Action) × (taking.asks t ≡ Some a)

-- of a layout that is wanted none is in hand, and one is sought
pub record IsSeekingNode (z : Sizes) (demand : Demand) (k : List ℕ) (value : ℕ) (stock : Stock) (u : View) (t : Taking) (v : View)
    : Type 0 where
  pub layout : Layout
  pub wanted : demand.node ≡ Some layout
  pub none : node_in stock layout ≡ None
  pub seeking : IsSeeking z k value stock u t (pool_of_layout layout) v

-- the leaf in hand gets its words, and one is still to be written
pub record IsPacking (z : Sizes) (k : List ℕ) (value : ℕ) (stock : Stock) (u : View) (p : LeafWriterOf) (v : View) : Type 0 where
  pub early : View
  pub base : OnlySupplies z k value stock u early
  pub soon : IsSoon u early (search_steps z Leaves) (search_looks z Leaves)
  pub leaf : ℕ
  pub is : stock.leaf ≡ Some leaf
  pub blank : stock.written ≡ false
  pub packs : LeafWriterFits z leaf k value p early v
  pub more : p.place < 10

-- at each stage
abbrev pub StageFits : Sizes → Demand → List ℕ → ℕ → Reserve → Stock → View → View → Type 0
StageFits z demand k value (Leaf t) stock u v = (demand.leaf ≡ true) × (stock.leaf ≡ None) × IsSeeking z k value stock u t Leaves v
StageFits z demand k value (LeafWriter p) stock u v = (demand.leaf ≡ true) × IsPacking z k value stock u p v
StageFits z demand k value (Node t) stock u v = (demand.leaf ≡ true → HasLeafWords stock) × IsSeekingNode z demand k value stock u t v
StageFits z demand k value (Ended Ready) stock u v = HasAll demand stock
StageFits z demand k value (Ended (Full pool)) stock u v = HasNone z demand pool u v

pub record Fits (z : Sizes) (demand : Demand) (k : List ℕ) (value : ℕ) (m : Reserve) (stock : Stock) (u v : View) : Type 0 where
  pub sizes : demand.sizes ≡ z
  pub only : OnlySupplies z k value stock u v
  pub few : v.steps ≤ u.steps + most_steps z demand
  pub counted : MadeFew u v (few_steps z demand)
  pub stage : StageFits z demand k value m stock u v
