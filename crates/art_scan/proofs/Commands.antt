-- A command that goes on by a call, or by a look.
use Rattle.std.proofs.Common.{◌≡◌, ◌∙◌, ◌<◌, ◌&&◌, ℕ, true, length, nat_lt, Some, refl, sym, ap, subst, arith}
use Rattle.std.proofs.lemmas.Bool.{and_from}
use Rattle.std.proofs.lemmas.Bool.Decides.{nat_tests}
use Rattle.std.proofs.lemmas.Option.{same_Some}
use Rattle.std.specs.Prelude.{List, [], Result, Ok, Err}
use Rattle.art_key.specs.Bounds.{is_before}
use Rattle.art_key.specs.Histories.{bound_at}
use Rattle.art_key.specs.declared.bounds.Bound.{Bound}
use Rattle.art_model.specs.Rows.{Tuple}
use Rattle.art_model.specs.declared.commands.Command.{Command}
use Rattle.art_model.specs.declared.commands.Command.TheVariants.{Insert, Remove, Get, Scan}
use Rattle.art_model.specs.declared.rows.Row.{Row}
use Rattle.art_scan.specs.Endings.{CommandEnds}
use Rattle.art_scan.specs.Running.{GoesOn, IsGivenUp, IsLooking, IsOver}
use Rattle.art_scan.proofs.Ended.{some_not_none}
use Rattle.art_scan.specs.Scans.{HasTiled, Scans, scan_fault}
use Rattle.art_scan.specs.Tilings.{IsScanning}
use Rattle.art_scan.specs.declared.faults.ScanFault.{ScanFault}
use Rattle.art_scan.specs.declared.looking.Looking.{Looking}
use Rattle.art_scan.specs.declared.running.Ending.TheVariants as ending
use Rattle.art_scan.specs.declared.running.Stage.{Stage}
use Rattle.art_scan.specs.declared.running.Stage.TheVariants as stage
use Rattle.art_scan.specs.declared.scans.More.{More}
use Rattle.art_scan.specs.declared.tilings.Tiling.{Tiling}
use Rattle.art_shared.specs.SamePass.{SamePass}
use Rattle.art_table.specs.Attempts as attempts
use Rattle.art_table.specs.Calls.{Ends, IsAttempt}
use Rattle.art_table.specs.Tables.{IsPassOf, own_of, schema_in, seen_by, view_of}
use Rattle.art_table.specs.declared.attempts.Attempt.{Attempt}
use Rattle.art_table.specs.declared.faults.Fault.{Fault}
use Rattle.art_table.specs.declared.jobs.Job.{Job}
use Rattle.art_table.specs.declared.jobs.Job.TheVariants as job
use Rattle.art_table.specs.declared.jobs.Outcome.{Outcome}
use Rattle.art_table.specs.declared.passes.Pass.{Pass}
use Rattle.art_table.specs.declared.tables.Table.{Table}

-- ---- by a call

-- of some job
pub call_runs : (t : Table) (c : Command) (turns : ℕ) (p : Pass) (a : Attempt) (rows : List Row) → GoesOn t c turns p (stage.Call a) rows → (j : Job) × IsAttempt t j turns p a
call_runs t (Insert tuple value) turns p a rows on = (job.Insert tuple value, on)
call_runs t (Remove tuple) turns p a rows on = (job.Remove tuple, on)
call_runs t (Get tuple) turns p a rows on = (job.Get tuple, on)
call_runs t (Scan lo hi limit) turns p a rows on = absurd on

-- what the attempt keeps, the command keeps
pub call_goes_on : (t : Table) (a b : Attempt) → ((j : Job) (turns : ℕ) (p : Pass) → IsAttempt t j turns p a → IsAttempt t j turns p b)
    → (c : Command) (turns : ℕ) (p : Pass) (rows : List Row) → GoesOn t c turns p (stage.Call a) rows → GoesOn t c turns p (stage.Call b) rows
call_goes_on t a b keeps (Insert tuple value) turns p rows on = keeps (job.Insert tuple value) turns p on
call_goes_on t a b keeps (Remove tuple) turns p rows on = keeps (job.Remove tuple) turns p on
call_goes_on t a b keeps (Get tuple) turns p rows on = keeps (job.Get tuple) turns p on
call_goes_on t a b keeps (Scan lo hi limit) turns p rows on = absurd on

-- it ends as its attempt does
pub call_ends : (t : Table) (a : Attempt) (r : Result Outcome Fault) (q : Pass) → ((j : Job) (turns : ℕ) (p : Pass) → IsAttempt t j turns p a → Ends t j turns p r q)
    → (c : Command) (turns : ℕ) (p : Pass) (rows rows' : List Row) → GoesOn t c turns p (stage.Call a) rows → CommandEnds t c turns p rows' (ending.Call r) q
call_ends t a r q ends (Insert tuple value) turns p rows rows' on = ends (job.Insert tuple value) turns p on
call_ends t a r q ends (Remove tuple) turns p rows rows' on = ends (job.Remove tuple) turns p on
call_ends t a r q ends (Get tuple) turns p rows rows' on = ends (job.Get tuple) turns p on
call_ends t a r q ends (Scan lo hi limit) turns p rows rows' on = absurd on

-- it is given up as its attempt is
pub call_given : (t : Table) (a : Attempt) (q : Pass) → ((j : Job) (turns : ℕ) (p : Pass) → IsAttempt t j turns p a → attempts.IsGivenUp t turns p q)
    → (c : Command) (turns : ℕ) (p : Pass) (rows : List Row) → GoesOn t c turns p (stage.Call a) rows → IsGivenUp t c turns p q
call_given t a q given (Insert tuple value) turns p rows on = given (job.Insert tuple value) turns p on
call_given t a q given (Remove tuple) turns p rows on = given (job.Remove tuple) turns p on
call_given t a q given (Get tuple) turns p rows on = given (job.Get tuple) turns p on
call_given t a q given (Scan lo hi limit) turns p rows on = absurd on

-- ---- by a look

-- of a scan
pub look_runs : (t : Table) (c : Command) (turns : ℕ) (p : Pass) (l : Looking) (rows : List Row) → GoesOn t c turns p (stage.Look l) rows
    → (lo : Tuple) × (hi : Tuple) × (limit : ℕ) × (n : ℕ) × (q : Pass) × IsLooking t lo hi limit n q rows l
look_runs t (Insert tuple value) turns p l rows on = absurd on
look_runs t (Remove tuple) turns p l rows on = absurd on
look_runs t (Get tuple) turns p l rows on = absurd on
look_runs t (Scan lo hi limit) turns p l rows on = (lo, hi, limit, turns, p, on)

-- what the looks keep, the command keeps
pub look_keeps : (t : Table) (l m : Looking) (rows rows' : List Row)
    → ((lo hi : Tuple) (limit turns : ℕ) (p : Pass) → IsLooking t lo hi limit turns p rows l → IsLooking t lo hi limit turns p rows' m)
    → (c : Command) (turns : ℕ) (p : Pass) → GoesOn t c turns p (stage.Look l) rows → GoesOn t c turns p (stage.Look m) rows'
look_keeps t l m rows rows' keeps (Insert tuple value) turns p on = absurd on
look_keeps t l m rows rows' keeps (Remove tuple) turns p on = absurd on
look_keeps t l m rows rows' keeps (Get tuple) turns p on = absurd on
look_keeps t l m rows rows' keeps (Scan lo hi limit) turns p on = keeps lo hi limit turns p on

-- what its looks show, the command shows
module _ (t : Table) (l : Looking) (rows rows' : List Row) where
  pub look_ends : (r : Result More ScanFault) (q : Pass) → ((lo hi : Tuple) (limit turns : ℕ) (p : Pass) → IsLooking t lo hi limit turns p rows l → Scans t lo hi limit turns p rows' r q)
      → (c : Command) (turns : ℕ) (p : Pass) → GoesOn t c turns p (stage.Look l) rows → CommandEnds t c turns p rows' (ending.Scan r) q
  look_ends r q ends (Insert tuple value) turns p on = absurd on
  look_ends r q ends (Remove tuple) turns p on = absurd on
  look_ends r q ends (Get tuple) turns p on = absurd on
  look_ends r q ends (Scan lo hi limit) turns p on = ends lo hi limit turns p on

  pub look_given : (q : Pass) → ((lo hi : Tuple) (limit turns : ℕ) (p : Pass) → IsLooking t lo hi limit turns p rows l → IsGivenUp t (Scan lo hi limit) turns p q)
      → (c : Command) (turns : ℕ) (p : Pass) → GoesOn t c turns p (stage.Look l) rows → IsGivenUp t c turns p q
  look_given q given (Insert tuple value) turns p on = absurd on
  look_given q given (Remove tuple) turns p on = absurd on
  look_given q given (Get tuple) turns p on = absurd on
  look_given q given (Scan lo hi limit) turns p on = given lo hi limit turns p on

  pub look_over : (s : Stage) → ((lo hi : Tuple) (limit turns : ℕ) (p : Pass) → IsLooking t lo hi limit turns p rows l → GoesOn t (Scan lo hi limit) turns p s rows')
      → (c : Command) (turns : ℕ) (p : Pass) → GoesOn t c turns p (stage.Look l) rows → GoesOn t c turns p s rows'
  look_over s over (Insert tuple value) turns p on = absurd on
  look_over s over (Remove tuple) turns p on = absurd on
  look_over s over (Get tuple) turns p on = absurd on
  look_over s over (Scan lo hi limit) turns p on = over lo hi limit turns p on

-- ---- a scan that has ended

pub over_pass : (t : Table) (c : Command) (turns : ℕ) (p q : Pass) (r : Result More ScanFault) (n : ℕ) (rows : List Row) → GoesOn t c turns p (stage.Over q r n) rows → IsPassOf t q
over_pass t (Insert tuple value) turns p q r n rows on = absurd on
over_pass t (Remove tuple) turns p q r n rows on = absurd on
over_pass t (Get tuple) turns p q r n rows on = absurd on
over_pass t (Scan lo hi limit) turns p q r n rows on = on.pass

pub over_ends : (t : Table) (c : Command) (turns : ℕ) (p q : Pass) (r : Result More ScanFault) (n : ℕ) (rows : List Row) → GoesOn t c turns p (stage.Over q r n) rows
    → CommandEnds t c turns p rows (ending.Scan r) q
over_ends t (Insert tuple value) turns p q r n rows on = absurd on
over_ends t (Remove tuple) turns p q r n rows on = absurd on
over_ends t (Get tuple) turns p q r n rows on = absurd on
over_ends t (Scan lo hi limit) turns p q r n rows on = on.scans

-- ---- how it begins, and how it is refused at once

-- the same command at the same stage
pub as_is : (t : Table) (c d : Command) (turns : ℕ) (p : Pass) (s r : Stage) (rows : List Row) → c ≡ d → s ≡ r → GoesOn t d turns p r rows → GoesOn t c turns p s rows
as_is t c d turns p s r rows command stages on =
    subst (λ (k : Command). GoesOn t k turns p s rows) (sym command) (subst (λ (x : Stage). GoesOn t d turns p x rows) (sym stages) on)

module _ (t : Table) (lo hi : Tuple) (limit turns : ℕ) (p : Pass) (rows : List Row) (none : rows ≡ []) where
  pub first_looks : (g : Tiling) (l : Looking) → IsScanning t lo hi limit turns p p rows g → 0 < g.limit → is_before g.from g.end ≡ true → l.tiling ≡ g
      → IsAttempt t (job.Look g.from g.end) g.turns p l.attempt → IsLooking t lo hi limit turns p rows l
  first_looks g l s some order is look =
      let first : nat_lt 0 g.limit ≡ true = grind (arith, nat_tests) in
      let low : nat_lt (length rows) g.limit ≡ true = ap (λ (xs : List Row). nat_lt (length xs) g.limit) none ∙ first in
      let test : (nat_lt (length rows) g.limit && is_before g.from g.end) ≡ true = and_from (nat_lt (length rows) g.limit) (is_before g.from g.end) low order in
      record {
        began = p;
        scan = subst (λ (x : Tiling). IsScanning t lo hi limit turns p p rows x) (sym is) s;
        on = subst (λ (x : Tiling). (nat_lt (length rows) x.limit && is_before x.from x.end) ≡ true) (sym is) test;
        look = subst (λ (x : Tiling). IsAttempt t (job.Look x.from x.end) x.turns p l.attempt) (sym is) look;
      }

  abbrev fault_of : ScanFault → Result More ScanFault
  fault_of x = Err x

  abbrev fault_in : ScanFault → Result More ScanFault → ScanFault
  fault_in f (Err g) = g
  fault_in f (Ok more) = f

  pub refused_at_once : IsPassOf t p → (f : ScanFault) → scan_fault (schema_in t) lo hi limit ≡ Some f → IsOver t lo hi limit turns p rows p (Err f) 0
  refused_at_once is_pass f some = record {
    pass = is_pass;
    scans = record {
      fault = λ g is. (ap fault_of (same_Some f g (sym some ∙ is)), none, refl);
      scanned = λ is. absurd (some_not_none (scan_fault (schema_in t) lo hi limit) f is some);
    };
    at_once = λ g is. (some ∙ ap Some (ap (fault_in f) is), refl);
  }

-- a scan that was refused is given up as it is
no_looks : (t : Table) (lo : Bound) (p q : Pass) → IsPassOf t q → q ≡ p → HasTiled t lo lo [] p q
no_looks t lo p q is same = record {
  pass = is;
  same = subst (λ (x : Pass). SamePass p.seat x.seat) (sym same) (record { number = refl; table = refl; seat = refl; basis = refl; told = refl });
  looks = (ap (seen_by t) same, ap own_of same);
  tiles_are = refl;
}

pub over_given : (t : Table) (c : Command) (turns : ℕ) (p q : Pass) (f : ScanFault) (n : ℕ) (rows : List Row) → GoesOn t c turns p (stage.Over q (Err f) n) rows
    → IsGivenUp t c turns p q
over_given t (Insert tuple value) turns p q f n rows on = absurd on
over_given t (Remove tuple) turns p q f n rows on = absurd on
over_given t (Get tuple) turns p q f n rows on = absurd on
over_given t (Scan lo hi limit) turns p q f n rows on =
    let some = (on.at_once f refl).0 in
    let same = (on.scans.fault f some).2 in
    record {
      reached = bound_at (schema_in t) lo;
      tiles = [];
      tiled = no_looks t (bound_at (schema_in t) lo) p q on.pass same;
      left = λ none. absurd (some_not_none (scan_fault (schema_in t) lo hi limit) f none some);
      steps = let still = ap (λ (x : Pass). (view_of x).steps) same in omega (arith, still);
    }
