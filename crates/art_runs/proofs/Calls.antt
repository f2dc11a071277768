-- A call that alone makes steps, from its beginning to its end.
use Rattle.std.proofs.Common.{◌≡◌, ◌+◌, ◌++◌, ◌<◌, ◌^◌, ◌∷◌, ℕ, zero, suc, true, List, [], inl, refl, sym, ap, ◌∙◌, subst, arith, ⊎_elim, append_assoc}
use Rattle.std.proofs.lemmas.Bool.{cond_both}
use Rattle.std.proofs.lemmas.List.{append_cancel_right}
use Rattle.std.specs.Prelude.{nat_lt}
use Rattle.arrayvec.specs.ArrayVec.{ArrayVec}
use Rattle.art_change.specs.ArtAttempt.declared.attempts.Room.{Room}
use Rattle.art_change.specs.AsAsked.{GoesBy, WriteWaits}
use Rattle.art_change.specs.Calls.{Get, GoesOn, HasGroundOf, Insert, IsGround, Look, Remove, Wish, may_end}
use Rattle.art_change.specs.Outcomes.{of_write}
use Rattle.art_change.specs.declared.callers.Call.{Call}
use Rattle.art_change.specs.declared.callers.Call.TheVariants as call
use Rattle.art_change.specs.declared.callers.Caller.{Caller}
use Rattle.art_change.specs.declared.outcomes.Outcome.{Outcome}
use Rattle.art_change.specs.declared.outcomes.Outcome.TheVariants as outcome
use Rattle.art_change.specs.Writes as writes
use Rattle.art_change.specs.ArtAttempt.declared.attempts.Job.{Job}
use Rattle.art_change.specs.declared.writes.WriteOutcome.{WriteOutcome}
use Rattle.art_change.specs.declared.writes.WriteOutcome.TheVariants as wrote
use Rattle.art_change.specs.declared.writes.Write.{Write}
use Rattle.art_epoch.specs.Limbo.{places_of}
use Rattle.art_epoch.specs.Pins.{view_advanced}
use Rattle.art_epoch.specs.Reclaiming.{Look as LookAt, view_watched}
use Rattle.art_epoch.specs.declared.limbo.Place.{Place}
use Rattle.art_change.specs.ArtEpoch.Enter.{IsCrowded}
use Rattle.art_change.specs.ArtEpoch.declared.enter.Blocker.{Blocker}
use Rattle.art_key.specs.declared.bounds.Bound.{Bound}
use Rattle.art_change.specs.ArtLook.Seeks as seeks
use Rattle.art_change.specs.ArtLook.declared.seeks.Seek.{Seek}
use Rattle.art_runs.proofs.OthersIdle.{alone_on, idle_current}
use Rattle.art_runs.proofs.Calm.{IsMoment}
use Rattle.art_runs.proofs.Finding.{finds_on, finds_start}
use Rattle.art_runs.proofs.Seeks.{seek_makes}
use Rattle.art_runs.proofs.Writes.{write_makes}
use Rattle.art_runs.specs.OthersIdle.{AreCurrent, HasFound}
use Rattle.art_runs.specs.Solo.{BeginLaw, EndLaw, IsCurrentBy, IsSolo, StepLaw}
use Rattle.art_step.proofs.SetsView.{member_back, member_front}
use Rattle.art_step.specs.Steps.Watch as watch
use Rattle.art_step.specs.Views.{Member, Memory, Views}
use Rattle.art_step.specs.declared.views.Found.{Found}
use Rattle.art_step.specs.declared.views.Sizes.{Sizes}
use Rattle.art_step.specs.declared.views.View.{View}
use Rattle.art_step.specs.declared.views.Word.TheVariants.{Pass}
use Rattle.art_world.proofs.Lasting.{lasting_on}

-- ---- at its beginning

begins_current : (m : Memory) (u : View) (c : Caller) (n : Call) → AreCurrent m u → IsCurrentBy m u u c n
begins_current m u c (call.Write n) current = λ own many. current
begins_current m u c (call.Seek n) current = λ own. current

pub begins_solo : BeginLaw
begins_solo z p m f u c sound lasting alone at idle = record {
  alone = alone;
  lasting = lasting;
  timely = lasting.timely p u at;
  found = finds_start m u;
  failures = refl;
  current = begins_current m u c c.call (idle_current z p u m f sound at idle);
}

-- ---- at each step

-- what a write knows, and what a seek
pub write_fits : (z : Sizes) (turns : ℕ) (u : View) (c : Caller) (n : Write) (v : View) (w : Wish) → GoesOn z w turns u c (call.Write n) v → (ps : List Place) × writes.Fits z u ps n c.room (places_of c.limbo) v
write_fits z turns u c n v (Insert k value) goes = (goes.waited, goes.fits)
write_fits z turns u c n v (Remove k) goes = (goes.waited, goes.fits)
write_fits z turns u c n v (Get k) goes = absurd goes
write_fits z turns u c n v (Look lo hi) goes = absurd goes

pub seek_fits : (z : Sizes) (turns : ℕ) (u : View) (c : Caller) (n : Seek) (v : View) (w : Wish) → GoesOn z w turns u c (call.Seek n) v → seeks.Fits z c.key.items c.hi u n c.path_buffer v
seek_fits z turns u c n v (Get k) goes = subst (λ (a : ArrayVec ℕ). seeks.Fits z a.items c.hi u n c.path_buffer v) (sym goes.key_is) goes.fits
seek_fits z turns u c n v (Look lo hi) goes =
    let s = goes.0 in
    subst (λ (a : ArrayVec ℕ). seeks.Fits z a.items c.hi u n c.path_buffer v) (sym s.key_is) (subst (λ (b : Bound). seeks.Fits z lo.items b u n c.path_buffer v) (sym s.bound_is) s.fits)
seek_fits z turns u c n v (Insert k value) goes = absurd goes
seek_fits z turns u c n v (Remove k) goes = absurd goes

-- where a write goes on with no step, it knows the same of the words
module _ (z : Sizes) (m : Memory) (u v : View) (ps : List Place) (n : Write) (r : Room) (qs : List Place) (fits : writes.Fits z u ps n r qs v) (current : v.own ≡ u.own → 582 < writes.steps_left n r qs → AreCurrent m v) where
  record Waits (a : Write) (s : Room) (rs : List Place) : Type 0 where
    knows : writes.Fits z u ps a s rs v
    same : v.own ≡ u.own → 582 < writes.steps_left a s rs → AreCurrent m v

  waits_on : (times : ℕ) (a : Write) (s : Room) (rs : List Place) → WriteWaits times z v n r qs a s rs → Waits a s rs
  waits_on zero a s rs waits =
      subst (λ (x : Write). Waits x s rs) (sym waits.0) (subst (λ (x : Room). Waits n x rs) (sym waits.1) (subst (λ (x : List Place). Waits n r x) (sym waits.2) record { knows = fits; same = current }))
  waits_on (suc times) a s rs (b, t, ts, waits, makes) =
      let h = waits_on times b t ts waits in
      let less = makes.left in
      record { knows = makes.fits u ps h.knows; same = λ own many. h.same own (omega (arith, many, less)) }

module _ (z : Sizes) (p : ℕ) (m : Memory) (f : Views) (m' : Memory) (f' : Views) (u v w : View) (turns : ℕ) (wish : Wish) (c d : Caller) (solo : IsSolo z p m f u v c) (at : IsMoment z p m f m' f' v w) where
  call_on : (n a : Call) → GoesOn z wish turns u c n v → IsCurrentBy m u v c n → GoesBy z v c n w d a → (w.failures ≡ v.failures) × IsCurrentBy m' u w d a
  call_on (call.Write n) (call.Write a) goes current made =
      let fits = write_fits z turns u c n v wish goes in
      let h = waits_on z m u v fits.0 n c.room (places_of c.limbo) fits.1 current made.times made.between made.room made.waiting made.waits in
      write_makes z p m f m' f' u v w solo.found solo.timely solo.failures made.between made.room fits.0 made.waiting a d.room (places_of d.limbo) at h.knows h.same made.makes
  call_on (call.Seek n) (call.Seek a) goes current made =
      seek_makes z p m f m' f' u v w solo.found at c.key.items c.hi n c.path_buffer a d.path_buffer (seek_fits z turns u c n v wish goes) current made
  call_on (call.Write n) (call.Seek a) goes current made = absurd made
  call_on (call.Seek n) (call.Write a) goes current made = absurd made

pub steps_solo : StepLaw
steps_solo z p m f m' f' u v w wish given turns c d calling solo goes views step sound before after =
    let at : IsMoment z p m f m' f' v w = record { step = step; before = before; after = after; alone = solo.alone; gone = solo.lasting.gone } in
    let on = call_on z p m f m' f' u v w turns wish c d solo at c.call d.call calling.goes_on solo.current goes in
    record {
      alone = alone_on z p m f m' f' step solo.alone;
      lasting = lasting_on z p m f m' f' step solo.lasting;
      timely = solo.timely;
      found = finds_on z p u v w m f m' f' step views solo.alone before after solo.found;
      failures = on.0 ∙ solo.failures;
      current = on.1;
    }

-- ---- at its end

-- the words that were watched were found
watched_found : (x : View) (ls : List LookAt) → (ys : List Found) × ((view_watched x ls).found ≡ ys ++ x.found) × ((l : LookAt) → Member l ls → (y : Found) × Member y ys × (y.word ≡ Pass l.0 l.1))
watched_found x [] = ([], refl, λ l there. absurd there)
watched_found x (l ∷ ls) =
    let first : Found = record { word = Pass l.0 l.1; step = x.steps + 1 } in
    let more = watched_found (watch.view_after x l.0 l.1) ls in (
      more.0 ++ first ∷ [],
      more.1 ∙ sym (append_assoc more.0 (first ∷ []) x.found),
      λ k there. ⊎_elim
          (λ (same : k ≡ l). (first, member_back first more.0 (first ∷ []) (inl refl), sym (ap (λ (a : LookAt). Pass a.0 a.1) same)))
          (λ (later : Member k ls). let y = more.2 k later in (y.0, member_front y.0 more.0 (first ∷ []) y.1, y.2))
          there,
    )

advanced_found : (u : View) (x : ℕ) → (view_advanced u x).found ≡ u.found
advanced_found u x = cond_both (nat_lt x (2 ^ 62)) _ _ (λ (v : View). v.found ≡ u.found) (λ e. refl) (λ e. refl)

-- each was 0, so nobody was in the way
not_crowded : (z : Sizes) (m : Memory) (u v : View) (ps qs : List Place) (b : Blocker) → HasFound m u v → IsCrowded z u v ps qs b → ⊥
not_crowded z m u v ps qs b had crowded =
    let r = crowded.reclaims_once in
    let ys = watched_found (view_advanced u r.found) r.looks in
    let found : v.found ≡ ys.0 ++ u.found =
    ap (λ (x : View). x.found) r.is ∙ (ap (λ (x : View). x.found) r.seen ∙ (ys.1 ∙ ap (λ (l : List Found). ys.0 ++ l) (advanced_found u r.found))) in
    let news : ys.0 ≡ had.news = append_cancel_right ys.0 had.news u.found (sym found ∙ had.is) in
    let y = ys.2 (b.pass, b.epoch) crowded.blocker.look in
    crowded.blocker.some (had.idle y.0 b.pass b.epoch (subst (Member y.0) news y.1) y.2)

crowded_write : (o : WriteOutcome) (b : Blocker) → outcome.Crowded b ≡ of_write o → o ≡ wrote.Crowded b
crowded_write (wrote.Crowded a) b is = cc
crowded_write wrote.New b is = cc
crowded_write (wrote.Present stands) b is = cc
crowded_write (wrote.Gone had) b is = cc
crowded_write wrote.Absent b is = cc
crowded_write (wrote.Full pool) b is = cc
crowded_write (wrote.Exhausted c) b is = cc
crowded_write wrote.Overlaps b is = cc
crowded_write wrote.Busy b is = cc

module _ (z : Sizes) (m : Memory) (u v : View) (had : HasFound m u v) (turns restarts : ℕ) (c : Caller) (b : Blocker) where
  ground_not_crowded : (j : Job) → IsGround z j turns restarts u c (outcome.Crowded b) v → ⊥
  ground_not_crowded j g =
      let h = g.ground in
      let is = crowded_write g.write b g.is in
      let done = subst (λ (o : WriteOutcome). writes.IsDone z u g.waited o h.machine c.room (places_of c.limbo) v) is h.done in
      not_crowded z m u v g.waited (places_of c.limbo) b had done.0

  wish_not_crowded : (w : Wish) → may_end w (outcome.Crowded b) ≡ true → HasGroundOf z w turns restarts u c (outcome.Crowded b) v → ⊥
  wish_not_crowded (Insert k value) may ground = ground_not_crowded _ ground
  wish_not_crowded (Remove k) may ground = ground_not_crowded _ ground
  wish_not_crowded (Get k) may ground = cc
  wish_not_crowded (Look lo hi) may ground = cc

pub ends_alone : EndLaw
ends_alone z p m f u v wish given turns restarts c d o solo called = record {
  room = λ b is. wish_not_crowded z m u v solo.found turns restarts d b wish
      (subst (λ (e : Outcome). may_end wish e ≡ true) is called.may) (subst (λ (e : Outcome). HasGroundOf z wish turns restarts u d e v) is called.ground);
  busy = λ is limited. (let few = (called.busy is).used.few limited in let none = solo.failures in omega (arith, few, none));
}
