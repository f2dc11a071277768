-- What a scan is asked for, and what it did, as its pass has seen it.
use Rattle.std.specs.Prelude.{◌≡◌, ℕ, ◌+◌, ◌*◌, ◌<◌, ◌≤◌, ◌==◌, List, [], ◌∷◌, ◌++◌, length, nat_lt, if◌then◌else◌, Option, Some, None, Result, Ok, Err}
use Rattle.std.specs.Ordering.{is_le}
use Rattle.art_key.specs.declared.bounds.Bound.{Bound}
use Rattle.art_key.specs.declared.columns.Column.{Column}
use Rattle.art_key.specs.declared.events.Deed.TheVariants.{Look}
use Rattle.art_key.specs.declared.events.Event.{Event}
use Rattle.art_key.specs.declared.faults.ValueFault.{ValueFault}
use Rattle.art_key.specs.Columns.{order_of, tuple_fault}
use Rattle.art_key.specs.Histories.{bound_at}
use Rattle.art_model.specs.declared.rows.Row.{Row}
use Rattle.art_model.specs.Rows.{Order, Tuple, tuple_cmp}
use Rattle.art_model.specs.Scans.{IsScanOf}
use Rattle.art_scan.specs.declared.faults.ScanFault.{ScanFault}
use Rattle.art_scan.specs.declared.faults.ScanFault.TheVariants.{Value, BadRange, BadLimit, Busy}
use Rattle.art_scan.specs.declared.scans.More.{More}
use Rattle.art_scan.specs.declared.scans.More.TheVariants.{Limit, End}
use Rattle.art_scan.specs.Tiles.{AreTiles, EndsRange, MayStop, Tile, rows_of, states_of}
use Rattle.art_shared.specs.SamePass.{SamePass}
use Rattle.art_step.specs.declared.views.View.{View}
use Rattle.art_table.specs.Tables.{IsPassOf, number_of, own_of, schema_in, seen_by, view_of}
use Rattle.art_table.specs.declared.passes.Pass.{Pass}
use Rattle.art_table.specs.declared.tables.Table.{Table}

-- ---- what is wrong with it

-- the limit is 1 to 100
abbrev pub limit_fault : ℕ → Option ScanFault
limit_fault limit = if limit == 0 then Some BadLimit else if nat_lt 100 limit then Some BadLimit else None

abbrev pub range_fault : Order → Tuple → Tuple → ℕ → Option ScanFault
range_fault order lo hi limit = if is_le (tuple_cmp order lo hi) then limit_fault limit else Some BadRange

abbrev pub or_value : Option ValueFault → Option ScanFault → Option ScanFault
or_value (Some fault) others = Some (Value fault)
or_value None others = others

-- the lower tuple's fault comes first, then the upper one's, then a range that ends before it begins, then the limit
abbrev pub scan_fault : List Column → Tuple → Tuple → ℕ → Option ScanFault
scan_fault schema lo hi limit =
    or_value (tuple_fault schema lo.items) (or_value (tuple_fault schema hi.items) (range_fault (order_of schema) lo hi limit))

-- ---- what its pass saw

-- from one history to another a pass made these looks, in order, each after what came between, and no other events
abbrev pub MakesLooks : ℕ → List Event → List ℕ → List Tile → List Event → List ℕ → Type 0
MakesLooks pass seen own [] seen' own' = (seen' ≡ seen) × (own' ≡ own)
MakesLooks pass seen own (tile ∷ tiles) seen' own' =
    (between : List Event) × (tile.before ≡ seen ++ between)
    × MakesLooks pass (tile.before ++ record { pass = pass; what = Look tile.lo tile.hi tile.row } ∷ []) (own ++ length tile.before ∷ []) tiles seen' own'

-- the pass p made looks that tile the range from one bound to another, and nothing else: it is q then
pub record HasTiled (t : Table) (from to : Bound) (tiles : List Tile) (p q : Pass) : Type 0 where
  pub pass : IsPassOf t q
  pub same : SamePass p.seat q.seat
  pub looks : MakesLooks (number_of p) (seen_by t p) (own_of p) tiles (seen_by t q) (own_of q)
  pub tiles_are : AreTiles (schema_in t) from to tiles

-- ---- how it ends

-- whether it stopped at its limit
abbrev pub more_at : ℕ → ℕ → More
more_at listed limit = if listed == limit then Limit else End

-- it listed what its looks found, up to where it may stop, and that is what a scan owes over the states that they saw
pub record HasListed (schema : List Column) (lo hi : Tuple) (limit : ℕ) (reached : Bound) (tiles : List Tile) (rows : List Row) (more : More) : Type 0 where
  pub end : Bound
  pub ends : EndsRange schema hi end
  pub stops : MayStop end reached limit tiles
  pub rows_are : rows ≡ rows_of tiles
  pub owed : IsScanOf (order_of schema) (states_of schema tiles) lo hi limit rows
  pub more_is : more ≡ more_at (length rows) limit

-- all turns were used, and are few beside the failures and the looks that were answered; three steps of each look are not counted
pub record UsedTurns (turns looks : ℕ) (u v : View) : Type 0 where
  pub all : v.steps ≡ u.steps + turns + 3 * (looks + 1)
  pub few : turns + 30000 * u.failures < 30000 * (v.failures + looks + 1)

abbrev pub EndsAs : Table → Tuple → Tuple → ℕ → ℕ → Bound → List Tile → Pass → List Row → Result More ScanFault → Pass → Type 0
EndsAs t lo hi limit turns reached tiles p rows (Ok more) q = HasListed (schema_in t) lo hi limit reached tiles rows more
EndsAs t lo hi limit turns reached tiles p rows (Err fault) q =
    (fault ≡ Busy) × (rows ≡ []) × UsedTurns turns (length tiles) (view_of p) (view_of q)

-- a scan by the pass p that ended so, in so many turns: the pass is q then
pub record HasScanned (t : Table) (lo hi : Tuple) (limit turns : ℕ) (p : Pass) (rows : List Row) (r : Result More ScanFault) (q : Pass) : Type 0 where
  pub tiles : List Tile
  pub reached : Bound
  pub tiled : HasTiled t (bound_at (schema_in t) lo) reached tiles p q
  pub ends : EndsAs t lo hi limit turns reached tiles p rows r q
  pub steps : (view_of q).steps ≤ (view_of p).steps + 2 * turns + 1000

-- what is wrong with it comes first, and changes nothing; else the range was looked through
pub record Scans (t : Table) (lo hi : Tuple) (limit turns : ℕ) (p : Pass) (rows : List Row) (r : Result More ScanFault) (q : Pass) : Type 0 where
  pub fault : (f : ScanFault) → scan_fault (schema_in t) lo hi limit ≡ Some f → (r ≡ Err f) × (rows ≡ []) × (q ≡ p)
  pub scanned : scan_fault (schema_in t) lo hi limit ≡ None → HasScanned t lo hi limit turns p rows r q
