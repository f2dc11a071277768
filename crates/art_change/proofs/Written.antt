-- A write that has ended, as its call sees it.
use Rattle.std.proofs.Common.{◌≡◌, ◌+◌, ◌≤◌, ℕ, true, List, refl, sym, ap, ◌∙◌, subst}
use Rattle.arrayvec.specs.ArrayVec.{ArrayVec}
use Rattle.art_change.specs.ArtAttempt.declared.attempts.Room.{Room}
use Rattle.art_change.specs.Calls.{GoesOn, Get, HasCalled, Insert, IsCaller, IsGround, IsWriting, Look, Remove, Wish, may_end, told_by}
use Rattle.art_change.specs.Outcomes.{of_write}
use Rattle.art_change.specs.declared.callers.Call.TheVariants as call
use Rattle.art_change.specs.declared.callers.Caller.{Caller}
use Rattle.art_change.specs.declared.outcomes.Outcome.TheVariants.{Busy as is_busy}
use Rattle.art_change.specs.Writes as writes
use Rattle.art_change.specs.Writes.{Fits, HasAnswered, HasCounted, HasGround, IsDone, IsReady, UsedTurns}
use Rattle.art_change.specs.ArtAttempt.declared.attempts.Job.{Job}
use Rattle.art_change.specs.ArtAttempt.declared.attempts.Job.TheVariants as job
use Rattle.art_change.specs.declared.writes.WriteOutcome.{WriteOutcome as Outcome}
use Rattle.art_change.specs.declared.writes.WriteOutcome.TheVariants.{New, Present, Gone, Absent, Full, Exhausted, Overlaps, Busy, Crowded}
use Rattle.art_change.specs.declared.writes.Write.{Write}
use Rattle.art_epoch.specs.Limbo.{places_of}
use Rattle.art_epoch.specs.declared.limbo.Place.{Place}
use Rattle.art_epoch.specs.declared.stocks.Stock.{Stock}
use Rattle.art_step.specs.Events.{SeesEvent}
use Rattle.art_step.specs.declared.views.Sizes.{Sizes}
use Rattle.art_step.specs.declared.views.View.{View}

-- ---- its event

insert_tells : (k : ArrayVec ℕ) (value : ℕ) (o : Outcome) → writes.told_by o job.Insert k value ≡ told_by (Insert k value) (of_write o)
insert_tells k value New = refl
insert_tells k value (Present stands) = refl
insert_tells k value (Gone had) = refl
insert_tells k value Absent = refl
insert_tells k value (Full pool) = refl
insert_tells k value (Exhausted c) = refl
insert_tells k value Overlaps = refl
insert_tells k value Busy = refl
insert_tells k value (Crowded b) = refl

remove_tells : (k : ArrayVec ℕ) (value : ℕ) (o : Outcome) → writes.told_by o job.Remove k value ≡ told_by (Remove k) (of_write o)
remove_tells k value New = refl
remove_tells k value (Present stands) = refl
remove_tells k value (Gone had) = refl
remove_tells k value Absent = refl
remove_tells k value (Full pool) = refl
remove_tells k value (Exhausted c) = refl
remove_tells k value Overlaps = refl
remove_tells k value Busy = refl
remove_tells k value (Crowded b) = refl

busy_told : (o : Outcome) → of_write o ≡ is_busy → o ≡ Busy
busy_told New is = cc
busy_told (Present stands) is = cc
busy_told (Gone had) is = cc
busy_told Absent is = cc
busy_told (Full pool) is = cc
busy_told (Exhausted c) is = cc
busy_told Overlaps is = cc
busy_told Busy is = refl
busy_told (Crowded b) is = cc

-- ---- how it may end

module _ (z : Sizes) (u : View) (ps : List Place) (m : Write) (r : Room) (qs : List Place) (v : View) where
  insert_may : (k : ArrayVec ℕ) (value : ℕ) (o : Outcome) → m.job ≡ job.Insert → IsDone z u ps o m r qs v → may_end (Insert k value) (of_write o) ≡ true
  insert_may k value New is done = refl
  insert_may k value (Present stands) is done = refl
  insert_may k value (Full pool) is done = refl
  insert_may k value (Exhausted c) is done = refl
  insert_may k value Overlaps is done = refl
  insert_may k value Busy is done = refl
  insert_may k value (Crowded b) is done = refl
  insert_may k value (Gone had) is done = let no : job.Insert ≡ job.Remove = sym is ∙ done.outcome.ends.0 in cc
  insert_may k value Absent is done = let no : job.Insert ≡ job.Remove = sym is ∙ done.outcome.ends.0 in cc

  remove_may : (k : ArrayVec ℕ) (o : Outcome) → m.job ≡ job.Remove → IsDone z u ps o m r qs v → may_end (Remove k) (of_write o) ≡ true
  remove_may k (Gone had) is done = refl
  remove_may k Absent is done = refl
  remove_may k (Exhausted c) is done = refl
  remove_may k Busy is done = refl
  remove_may k (Crowded b) is done = refl
  remove_may k New is done = let no : job.Remove ≡ job.Insert = sym is ∙ done.outcome.ends.0 in cc
  remove_may k (Present stands) is done = let no : job.Remove ≡ job.Insert = sym is ∙ done.outcome.ends.0 in cc
  remove_may k (Full pool) is done = let no : job.Remove ≡ job.Insert = sym is ∙ done.outcome.ends.0 in cc
  remove_may k Overlaps is done = let no : job.Remove ≡ job.Insert = sym is ∙ done.outcome.ends.0 in cc

-- ---- what a client sees

-- what a write says when it has ended so
pub record Says (m : Write) (o : Outcome) : Type 0 where
  pub answered : (z : Sizes) (u v : View) (ps qs : List Place) (r : Room) → Fits z u ps m r qs v → HasAnswered z u m.job o r.row.key r.row.value qs v
  pub counted : (z : Sizes) (u v : View) (ps qs : List Place) (r : Room) → Fits z u ps m r qs v → HasCounted z u m.turns m.restarts o v
  pub grounds : (z : Sizes) (u v : View) (ps qs : List Place) (r : Room) → Fits z u ps m r qs v → HasGround z u m.job ps m.turns m.restarts o r qs v
  pub ready : (z : Sizes) (u v : View) (own : ℕ) (ps qs : List Place) (s : Stock) (r : Room) → IsReady z u own ps s → Fits z u ps m r qs v → IsReady z v own qs r.stock

module _ (z : Sizes) (u : View) (c : Caller) (m : Write) (v : View) (o : Outcome) (says : Says m o) where
  module _ (j : Job) (k : ArrayVec ℕ) (value turns : ℕ) (on : IsWriting z j k value turns u c m v) where
    tells : SeesEvent u v (writes.told_by o j k value)
    tells =
        let a = says.answered z u v on.waited (places_of c.limbo) c.room on.fits in
        subst (λ (i : Job). SeesEvent u v (writes.told_by o i k value)) on.job_is
        (subst (λ (n : ℕ). SeesEvent u v (writes.told_by o m.job k n)) on.value_is
        (subst (λ (q : ArrayVec ℕ). SeesEvent u v (writes.told_by o m.job q c.room.row.value)) on.key_is a.tells))

    ground : IsGround z j turns m.restarts u c (of_write o) v
    ground =
        let g = says.grounds z u v on.waited (places_of c.limbo) c.room on.fits in
        record {
          waited = on.waited;
          write = o;
          is = refl;
          ground = record {
            machine = g.machine;
            job_is = g.job_is ∙ on.job_is;
            turns_are = g.turns_are ∙ on.turns_are;
            restarts_are = g.restarts_are;
            outcome_is = g.outcome_is;
            done = g.done;
            cause = g.cause;
          };
        }

    caller : IsCaller z v c
    caller = record { few = on.few; sizes = on.fits.room.sizes; ready = says.ready z u v c.own on.waited (places_of c.limbo) on.stock c.room on.ready on.fits }

    failed : u.failures + m.restarts ≤ v.failures
    failed = (says.counted z u v on.waited (places_of c.limbo) c.room on.fits).failed

    busy : of_write o ≡ is_busy → UsedTurns z u turns v
    busy told = subst (λ (n : ℕ). UsedTurns z u n v) on.turns_are ((says.counted z u v on.waited (places_of c.limbo) c.room on.fits).busy (busy_told o told))

  pub write_called : (w : Wish) (given turns : ℕ) → GoesOn z w turns u c (call.Write m) v → v.steps ≤ u.steps + given + 1000 → HasCalled z w given turns m.restarts u c (of_write o) v
  write_called (Insert k value) given turns on few =
      let g = ground job.Insert k value turns on in
      record {
        may = ap (may_end (Insert k value)) g.is ∙ insert_may z u g.waited g.ground.machine c.room (places_of c.limbo) v k value g.write g.ground.job_is g.ground.done;
        tells = subst (SeesEvent u v) (insert_tells k value o) (tells job.Insert k value turns on);
        caller = caller job.Insert k value turns on;
        range = tt;
        ground = g;
        failed = failed job.Insert k value turns on;
        busy = λ told. record { used = busy job.Insert k value turns on told; counts = tt };
        left = tt;
        steps = few;
      }
  write_called (Remove k) given turns on few =
      let g = ground job.Remove k 0 turns on in
      record {
        may = ap (may_end (Remove k)) g.is ∙ remove_may z u g.waited g.ground.machine c.room (places_of c.limbo) v k g.write g.ground.job_is g.ground.done;
        tells = subst (SeesEvent u v) (remove_tells k 0 o) (tells job.Remove k 0 turns on);
        caller = caller job.Remove k 0 turns on;
        range = tt;
        ground = g;
        failed = failed job.Remove k 0 turns on;
        busy = λ told. record { used = busy job.Remove k 0 turns on told; counts = tt };
        left = tt;
        steps = few;
      }
  write_called (Get k) given turns on few = absurd on
  write_called (Look lo hi) given turns on few = absurd on
