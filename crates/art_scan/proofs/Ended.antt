-- A scan that has ended.
use Rattle.std.proofs.Common.{◌≡◌, ◌⊎◌, ℕ, ◌+◌, ◌*◌, ◌<◌, ◌≤◌, ◌&&◌, Bool, true, false, List, [], length, nat_lt, Option, Some, None, inl, inr, refl, sym, subst, arith}
use Rattle.std.proofs.lemmas.Bool.{and_parts}
use Rattle.std.proofs.lemmas.Bool.Decides.{nat_tests}
use Rattle.std.specs.Prelude.{Ok, Err}
use Rattle.art_key.specs.Bounds.{is_before}
use Rattle.art_key.specs.Columns.{order_of}
use Rattle.art_key.specs.Histories.{StandsIn, bound_at}
use Rattle.art_key.specs.Spelling.{spelling}
use Rattle.art_key.specs.declared.bounds.Bound.{Bound}
use Rattle.art_key.specs.declared.columns.Column.{Column}
use Rattle.art_model.specs.Rows.{Tuple}
use Rattle.art_model.specs.Scans.{IsScanOf}
use Rattle.art_model.specs.declared.rows.Row.{Row}
use Rattle.art_scan.proofs.Between.{answered, begun, refused, used_up}
use Rattle.art_scan.proofs.Keys.{after_ends_range}
use Rattle.art_scan.proofs.Tiled.{looks_that_tile_are_scans}
use Rattle.art_scan.specs.Scans.{HasListed, Scans, more_at, scan_fault}
use Rattle.art_scan.specs.Tiles.{MayStop, states_of, with_found}
use Rattle.art_scan.specs.Tilings.{IsScanning, IsTiling}
use Rattle.art_scan.specs.declared.faults.ScanFault.TheVariants.{Busy}
use Rattle.art_scan.specs.declared.scans.More.{More}
use Rattle.art_scan.specs.declared.tilings.Tiling.{Tiling}
use Rattle.art_step.specs.Deeds.{bound_of}
use Rattle.art_table.specs.Calls.{HasEnded, LeavesTurns}
use Rattle.art_table.specs.Tables.{IsPassOf, schema_in, turns_left_by, view_of}
use Rattle.art_table.specs.declared.faults.Fault.{Fault}
use Rattle.art_table.specs.declared.jobs.Job.TheVariants.{Look}
use Rattle.art_table.specs.declared.jobs.Outcome.TheVariants.{Seen as saw}
use Rattle.art_table.specs.declared.jobs.Seen.{Seen}
use Rattle.art_table.specs.declared.passes.Pass.{Pass}
use Rattle.art_table.specs.declared.tables.Table.{Table}
use Rattle.art_tree.specs.Looks.{after}

-- ---- whether it looks on

pub looks_on : (listed limit : ℕ) (b : Bool) → (nat_lt listed limit && b) ≡ true → listed < limit
looks_on listed limit b is = let less = (and_parts (nat_lt listed limit) b is).0 in grind (arith, nat_tests)

looks_no_more : (listed limit : ℕ) (b : Bool) → (nat_lt listed limit && b) ≡ false → listed ≤ limit → (b ≡ false) ⊎ (listed ≡ limit)
looks_no_more listed limit false is few = inl refl
looks_no_more listed limit true is few = inr (by (nat_lt listed limit) refl is)
  where
    by : (less : Bool) → nat_lt listed limit ≡ less → (less && true) ≡ false → listed ≡ limit
    by true e is = cc
    by false e is = grind (arith, nat_tests)

pub some_not_none : {A : Type 0} (o : Option A) (a : A) → o ≡ None → o ≡ Some a → ⊥
some_not_none o a none some = cc

-- a scan of this is made, as it was begun
pub scanning : (t : Table) (lo hi : Tuple) (limit turns : ℕ) (schema : List Column) → schema ≡ schema_in t → (b : Tiling) → scan_fault schema lo hi limit ≡ None
    → StandsIn schema lo × StandsIn schema hi → (b.from ≡ bound_at schema lo) × (bound_of b.end ≡ after (spelling schema hi.items)) → (b.limit ≡ limit) × (0 < limit) × (limit ≤ 100)
    → b.turns ≡ turns → (p : Pass) (rows : List Row) → IsPassOf t p → rows ≡ [] → IsScanning t lo hi limit turns p p rows b
scanning t lo hi limit turns schema schema_is b none stands range limits turns_is p rows is nothing =
    let from = subst (λ (s : List Column). b.from ≡ bound_at s lo) schema_is range.0 in
    let end = subst (λ (s : List Column). bound_of b.end ≡ after (spelling s hi.items)) schema_is range.1 in
    let on = begun t b.limit p rows b is nothing refl in
    record {
      end = b.end;
      lo_stands = subst (λ (s : List Column). StandsIn s lo) schema_is stands.0;
      ends = after_ends_range (schema_in t) hi b.end (subst (λ (s : List Column). StandsIn s hi) schema_is stands.1) end;
      none = subst (λ (s : List Column). scan_fault s lo hi limit ≡ None) schema_is none;
      most = limits.2;
      on = subst (λ (a : Bound). IsTiling t a b.end limit turns p p rows b) from
          (subst (λ (n : ℕ). IsTiling t b.from b.end n turns p p rows b) limits.0 (subst (λ (n : ℕ). IsTiling t b.from b.end b.limit n p p rows b) turns_is on));
    }

module _ (t : Table) (lo hi : Tuple) (limit turns : ℕ) (p q : Pass) (rows : List Row) (g : Tiling) (s : IsScanning t lo hi limit turns p q rows g) where
  abbrev end : Bound
  end = s.end

  abbrev on : IsTiling t (bound_at (schema_in t) lo) s.end limit turns p q rows g
  on = s.on

  -- there is room for one row more, where another look is wanted
  pub is_wanted : (nat_lt (length rows) g.limit && is_before g.from g.end) ≡ true → length rows < limit
  is_wanted test = looks_on (length rows) limit (is_before g.from g.end) (subst (λ (n : ℕ). (nat_lt (length rows) n && is_before g.from g.end) ≡ true) s.on.limit_is test)

  -- it goes on after a look that was answered
  pub goes_on : (q' : Pass) (seen : Seen) → (nat_lt (length rows) g.limit && is_before g.from g.end) ≡ true → HasEnded t (Look g.from g.end) g.turns g.turns q (Ok (saw seen)) q'
      → (g' : Tiling) (rows' : List Row) → g'.from ≡ seen.hi → g'.turns ≡ turns_left_by q' → (g'.end ≡ g.end) × (g'.limit ≡ g.limit) → rows' ≡ with_found rows seen.row
      → IsScanning t lo hi limit turns p q' rows' g'
  goes_on q' seen test e g' rows' from_is turns_is same rows_is = record {
    end = s.end;
    lo_stands = s.lo_stands;
    ends = s.ends;
    none = s.none;
    most = s.most;
    on = answered t (bound_at (schema_in t) lo) s.end limit turns p q rows g s.on q' seen (is_wanted test) e g' rows' from_is turns_is same.0 same.1 rows_is;
  }

  pub few_steps : (view_of q).steps ≤ (view_of p).steps + 2 * turns + 1000
  few_steps = let used = on.used in let some = on.some in omega (arith, used, some)

  -- ---- with nothing left, or at its limit

  module _ (stopped : (nat_lt (length rows) g.limit && is_before g.from g.end) ≡ false) where
    same : (nat_lt (length rows) limit && is_before g.from end) ≡ false
    same = subst (λ (b : Bound). (nat_lt (length rows) limit && is_before g.from b) ≡ false) on.end_is
        (subst (λ (n : ℕ). (nat_lt (length rows) n && is_before g.from g.end) ≡ false) on.limit_is stopped)

    stops : MayStop end g.from limit on.tiles
    stops = record {
      few = subst (λ (l : List Row). length l ≤ limit) on.rows_are on.few;
      within = on.within;
      stopped = subst (λ (l : List Row). (is_before g.from end ≡ false) ⊎ (length l ≡ limit)) on.rows_are (looks_no_more (length rows) limit (is_before g.from end) same on.few);
    }

    has_listed : (more : More) → more ≡ more_at (length rows) limit → HasListed (schema_in t) lo hi limit g.from on.tiles rows more
    has_listed more is = record {
      end = end;
      ends = s.ends;
      stops = stops;
      rows_are = on.rows_are;
      owed = subst (λ (l : List Row). IsScanOf (order_of (schema_in t)) (states_of (schema_in t) on.tiles) lo hi limit l) (sym on.rows_are)
          (looks_that_tile_are_scans (schema_in t) lo hi end g.from limit on.tiles s.lo_stands s.ends on.tiled.tiles_are stops);
      more_is = is;
    }

    pub listed_scans : (more : More) → more ≡ more_at (length rows) limit → Scans t lo hi limit turns p rows (Ok more) q
    listed_scans more is = record {
      fault = λ f some. absurd (some_not_none (scan_fault (schema_in t) lo hi limit) f s.none some);
      scanned = λ _. record { tiles = on.tiles; reached = g.from; tiled = on.tiled; ends = has_listed more is; steps = few_steps };
    }

  -- ---- for want of turns

  module _ (q' : Pass) (f : Fault) (e : HasEnded t (Look g.from g.end) g.turns g.turns q (Err f) q') where
    pub refused_scans : Scans t lo hi limit turns p [] (Err Busy) q'
    refused_scans =
        let left : LeavesTurns g.turns (turns_left_by q') q (Err f) q' = e.left in
        let all = left.spent.all in
        let none_left = (left.none f refl).1 in
        let used = on.used in
        let some = on.some in
        record {
          fault = λ x some. absurd (some_not_none (scan_fault (schema_in t) lo hi limit) x s.none some);
          scanned = λ _. record {
            tiles = on.tiles;
            reached = g.from;
            tiled = refused t (bound_at (schema_in t) lo) end limit turns p q rows g on q' f e;
            ends = (refl, refl, used_up t (bound_at (schema_in t) lo) end limit turns p q rows g on q' f e);
            steps = omega (arith, all, none_left, used, some);
          };
        }
