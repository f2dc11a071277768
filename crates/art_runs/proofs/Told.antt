-- What a call that is under way has told by now: nothing, or the one event of an answer to its wish.
use Rattle.std.proofs.Common.{◌≡◌, ◌⊎◌, ℕ, ◌+◌, ◌<◌, ◌≤◌, Bool, true, false, if◌then◌else◌, List, length, Option, Some, None, inl, inr, refl, ap, ◌∙◌, subst, arith}
use Rattle.std.proofs.lemmas.Bool.{ne_eqb}
use Rattle.std.specs.Option.{option_map}
use Rattle.arrayvec.specs.ArrayVec.{ArrayVec}
use Rattle.art_change.proofs.ArtAttempt.Free.{free_so}
use Rattle.art_change.specs.ArtAttempt.Attempts as attempts
use Rattle.art_change.specs.ArtAttempt.Cases.{made_by}
use Rattle.art_change.specs.ArtAttempt.Trying.{StillTries}
use Rattle.art_change.specs.ArtAttempt.declared.attempts.Attempt.{Attempt}
use Rattle.art_change.specs.ArtAttempt.declared.attempts.Stage.{Stage as AttemptStage}
use Rattle.art_change.specs.ArtAttempt.declared.attempts.Stage.TheVariants as attempt
use Rattle.art_change.specs.ArtAttempt.declared.attempts.Room.{Room}
use Rattle.art_change.specs.Calls.{GoesOn, Get, Insert, IsCalling, IsWriting, Look, Remove, Wish, told_by}
use Rattle.art_change.specs.Outcomes.{of_write}
use Rattle.art_change.specs.declared.callers.Call.{Call}
use Rattle.art_change.specs.declared.callers.Call.TheVariants as call
use Rattle.art_change.specs.declared.callers.Caller.{Caller}
use Rattle.art_change.specs.declared.outcomes.Outcome.{Outcome}
use Rattle.art_change.specs.declared.outcomes.Outcome.TheVariants as outcome
use Rattle.art_change.proofs.Answered.{answered, left_opened, sees_all}
use Rattle.art_change.specs.Writes as writes
use Rattle.art_change.specs.Writes.{IsExiting, IsTrying, StageFits, gone_by}
use Rattle.art_change.specs.ArtAttempt.declared.attempts.Job.{Job}
use Rattle.art_change.specs.ArtAttempt.declared.attempts.Job.TheVariants as job
use Rattle.art_change.specs.declared.writes.WriteOutcome.{WriteOutcome}
use Rattle.art_change.specs.declared.writes.WriteOutcome.TheVariants as write
use Rattle.art_change.specs.declared.writes.Stage.{Stage}
use Rattle.art_change.specs.declared.writes.Stage.TheVariants as stages
use Rattle.art_change.specs.declared.writes.Write.{Write}
use Rattle.art_epoch.proofs.Pinned.{pinning_same}
use Rattle.art_epoch.specs.Limbo.{places_of}
use Rattle.art_epoch.specs.Pins.{Pins}
use Rattle.art_epoch.specs.declared.limbo.Place.{Place}
use Rattle.art_change.proofs.ArtFind.Stages.{still_reading}
use Rattle.art_change.specs.ArtFind.Descents as descents
use Rattle.art_change.specs.ArtFind.Driven.{get_done}
use Rattle.art_change.proofs.ArtEpoch.Opens.{enter_same}
use Rattle.art_change.specs.ArtEpoch.Exit.{ExitFits}
use Rattle.art_change.specs.ArtEpoch.declared.exit.Exit.{Exit}
use Rattle.art_change.specs.ArtEpoch.declared.exit.Exit.TheVariants as exit
use Rattle.art_change.specs.ArtEpoch.declared.stocks.Stock.{Stock}
use Rattle.art_key.specs.declared.bounds.Bound.{Bound}
use Rattle.art_change.proofs.ArtLook.Stages.{still_reading as still_looking}
use Rattle.art_change.specs.ArtLook.Looks as looks
use Rattle.art_change.specs.ArtLook.Seen.{look_done}
use Rattle.art_change.specs.ArtLook.declared.looks.Seen.{Seen as SeenOf}
use Rattle.art_change.specs.ArtLook.declared.path_buffers.PathBuffer.{PathBuffer}
use Rattle.art_change.specs.ArtPlan.Apply.{Fits as MakeFits, ended_at as make_ended}
use Rattle.art_change.specs.ArtPlan.declared.apply.Apply.{Apply}
use Rattle.art_change.specs.ArtPlan.declared.apply.Apply.TheVariants.{Upgrading, Claiming, Filling, Writing, Committing, Releasing, ReleasingNode, GivingUp, Ended}
use Rattle.art_change.specs.ArtPlan.declared.changes.Change.{Change}
use Rattle.art_change.proofs.ArtLook.Closes.{closed_sought, over_told}
use Rattle.art_change.proofs.ArtLook.SeekEnds.{key_not_seen, range_not_absent, range_not_found}
use Rattle.art_change.specs.ArtLook.Seeks as seeks
use Rattle.art_change.specs.ArtLook.Walks as walks
use Rattle.art_change.specs.ArtLook.Walks.{IsEnd, aim_of, of_value, told_of}
use Rattle.art_change.specs.ArtLook.declared.seeks.Seek.{Seek}
use Rattle.art_change.specs.ArtLook.declared.seeks.SeekStage.{SeekStage}
use Rattle.art_change.specs.ArtLook.declared.seeks.SeekStage.TheVariants as seek
use Rattle.art_change.specs.ArtLook.declared.walks.Aim.TheVariants as aim
use Rattle.art_change.specs.ArtLook.declared.walks.Outcome.{Outcome as SeekOutcome}
use Rattle.art_change.specs.ArtLook.declared.walks.Outcome.TheVariants.{Found, Absent, Seen, Busy}
use Rattle.art_change.specs.ArtLook.declared.walks.Walk.{Walk}
use Rattle.art_change.specs.ArtLook.declared.walks.Walk.TheVariants.{Key, Range}
use Rattle.art_step.specs.Events.{MakesEvent, SeesEvent}
use Rattle.art_step.specs.Shows.{OnlyReads, Rest}
use Rattle.art_step.specs.Steps.Epoch as epoch
use Rattle.art_step.specs.Steps.Pin as pin
use Rattle.art_step.specs.Tokens.{links_of}
use Rattle.art_step.specs.declared.deeds.Deed.{Deed}
use Rattle.art_step.specs.declared.views.Sizes.{Sizes}
use Rattle.art_step.specs.declared.views.View.{View}
use Rattle.art_cell.specs.declared.cells.Link.{Link}

-- since the view u nothing was told, or just the event of an answer to the wish
abbrev pub HasTold : Wish → View → View → Type 0
HasTold w u v = (v.own ≡ u.own) ⊎ ((o : Outcome) × (what : Deed) × (told_by w o ≡ Some what) × MakesEvent u v what)

told_so : (w : Wish) (o : Outcome) (d : Option Deed) (u v : View) → told_by w o ≡ d → SeesEvent u v d → HasTold w u v
told_so w o None u v is sees = inl sees.1
told_so w o (Some what) u v is sees = inr (o, what, is, sees)

-- as a view had it that tells nothing since
since : (u b v : View) (what : Option Deed) → b.seen ≡ u.seen → b.own ≡ u.own → b.pass ≡ u.pass → SeesEvent b v what → SeesEvent u v what
since u b v what seen own pass sees = sees_all u b v v seen own pass refl refl what sees

since_tries : (u b v : View) (what : Option Deed) → StillTries u b → SeesEvent b v what → SeesEvent u v what
since_tries u b v what still sees = since u b v what (ap (λ (r : Rest). r.seen) still.rest) (ap (λ (r : Rest). r.own) still.rest) (ap (λ (r : Rest). r.pass) still.rest) sees

-- ---- a change

-- no event was made, or this one
abbrev MadeSo : View → View → Deed → Type 0
MadeSo u v what = SeesEvent u v None ⊎ MakesEvent u v what

module _ (z : Sizes) (c : Change) (u v : View) where
  apply_made : (m : Apply) → MakeFits z c m u v → make_ended m ≡ None → MadeSo u v c.effects.deed
  apply_made (Upgrading i) fits on = let r = fits.stage.1.same.rest in inl (ap (λ (o : Rest). o.seen) r, ap (λ (o : Rest). o.own) r)
  apply_made (Claiming b) fits on = let r = fits.stage.1.same.rest in inl (ap (λ (o : Rest). o.seen) r, ap (λ (o : Rest). o.own) r)
  apply_made (Filling b place) fits on = let r = fits.stage.2.same.rest in inl (ap (λ (o : Rest). o.seen) r, ap (λ (o : Rest). o.own) r)
  apply_made (Writing j) fits on = let r = fits.stage.1.same.rest in inl (ap (λ (o : Rest). o.seen) r, ap (λ (o : Rest). o.own) r)
  apply_made Committing fits on = let r = fits.stage.same.rest in inl (ap (λ (o : Rest). o.seen) r, ap (λ (o : Rest). o.own) r)
  apply_made (Releasing i) fits on = inr fits.stage.1.done.event
  apply_made (ReleasingNode b) fits on = inr fits.stage.1.done.event
  apply_made (GivingUp locked released e) fits on = let r = fits.stage.2.failed.rest in inl (ap (λ (o : Rest). o.seen) r, ap (λ (o : Rest). o.own) r)
  apply_made (Ended r) fits on = cc

module _ (z : Sizes) (u : View) (r : Room) (v : View) where
  still_none : StillTries u v → SeesEvent u v None
  still_none still = (ap (λ (o : Rest). o.seen) still.rest, ap (λ (o : Rest). o.own) still.rest)

  made_since : (early : View) (what deed : Deed) → deed ≡ what → StillTries u early → MadeSo early v deed → MadeSo u v what
  made_since early what deed is base (inl none) = inl (since_tries u early v None base none)
  made_since early what deed is base (inr made) = inr (subst (MakesEvent u v) is (since_tries u early v (Some deed) base made))

  -- of an attempt
  attempt_made : (m : Attempt) (s : AttemptStage) → length r.row.key.items ≤ 64 → attempts.StageFits z u s m r v → attempts.ending_at s ≡ None → MadeSo u v (made_by m.job r.row r.gone)
  attempt_made m (attempt.Finding f) short fits on = inl (still_none (free_so z u m r v short (attempt.Finding f) refl refl fits).still)
  attempt_made m (attempt.Placed t p) short fits on = inl (still_none (free_so z u m r v short (attempt.Placed t p) refl refl fits).still)
  attempt_made m (attempt.Apply s) short fits on = made_since fits.0.early (made_by m.job r.row r.gone) r.change.effects.deed fits.0.deed fits.0.base (apply_made z r.change fits.0.early v s fits.0.fits fits.1)
  attempt_made m (attempt.Ended e) short fits on = cc

-- ---- a write

-- the event of one of its outcomes was made, if that has one
abbrev SeesSome : Job → ArrayVec ℕ → ℕ → View → View → Type 0
SeesSome j k value u v = (o : WriteOutcome) × SeesEvent u v (writes.told_by o j k value)

module _ (z : Sizes) (u : View) (r : Room) (v : View) where
  job_some : (j : Job) → MadeSo u v (made_by j r.row r.gone) → SeesSome j r.row.key r.row.value u v
  job_some job.Insert (inl none) = (write.Busy, none)
  job_some job.Insert (inr made) = (write.New, made)
  job_some job.Remove (inl none) = (write.Busy, none)
  job_some job.Remove (inr made) = (write.Gone r.gone.value, made)

  tries_some : (j : Job) (t : Attempt) → t.job ≡ j → length r.row.key.items ≤ 64 → attempts.Fits z u t r v → attempts.ended_at t ≡ None → SeesSome j r.row.key r.row.value u v
  tries_some j t is short fits on = job_some j (subst (λ (k : Job). MadeSo u v (made_by k r.row r.gone)) is (attempt_made z u r v t t.stage short fits.stage on))

module _ (z : Sizes) (k : List ℕ) (value : ℕ) (u v : View) (ps qs : List Place) (us : List Link) (s : Stock) where
  close_tells : (c : Exit) → ExitFits z k value u ps us c qs s v → (v.seen ≡ u.seen) × (v.own ≡ u.own)
  close_tells exit.Labelling fits = (ap (λ (t : View). t.seen) fits.is, ap (λ (t : View). t.own) fits.is)
  close_tells exit.Giving fits = (ap (λ (t : View). t.seen) fits.is, ap (λ (t : View). t.own) fits.is)
  close_tells exit.Ended fits = (ap (λ (t : View). t.seen) fits.0.is, ap (λ (t : View). t.own) fits.0.is)

module _ (z : Sizes) (u : View) (ps : List Place) (m : Write) (r : Room) (qs : List Place) (v : View) where
  -- since the view u
  abbrev Tells : Type 0
  Tells = (v.own ≡ u.own) ⊎ SeesSome m.job r.row.key r.row.value u v

  trying_tells : (t : Attempt) → length r.row.key.items ≤ 64 → IsTrying z u ps m t r qs v → Tells
  trying_tells t short k =
      let some = tries_some z k.began r v m.job t k.job short k.fits k.going in
      let what = writes.told_by some.0 m.job r.row.key r.row.value in
      let opened = k.frame.frame.is in
      inr (
        some.0,
        since u k.opened v what (ap (λ (t : View). t.seen) opened) (ap (λ (t : View). t.own) opened) (ap (λ (t : View). t.pass) opened)
            (since_tries k.opened k.began v what k.begun.base some.1),
      )

  exit_tells : (x : Exit) (o : WriteOutcome) → IsExiting z u ps m x o r qs v → Tells
  exit_tells x o k =
      let same = close_tells z r.row.key.items r.row.value k.ended v k.waiting qs (links_of (gone_by o r.change)) r.stock x k.fits in
      let opened = k.frame.frame.is in
      inr (
        o,
        sees_all u k.opened k.ended v (ap (λ (t : View). t.seen) opened) (ap (λ (t : View). t.own) opened) (ap (λ (t : View). t.pass) opened) same.0 same.1
            (writes.told_by o m.job r.row.key r.row.value) (left_opened z u ps m r qs v x o k).tells,
      )

  write_tells : (s : Stage) → length r.row.key.items ≤ 64 → StageFits z u ps s m r qs v → Tells
  write_tells (stages.Enter e) short fits = inl (enter_same z u v ps qs e fits.enter fits.going).1
  write_tells (stages.Trying t) short fits = trying_tells t short fits.0
  write_tells (stages.Exit x o) short fits = exit_tells x o fits.0
  write_tells (stages.Ended o) short fits = inr (o, (answered z u ps m r qs v o fits).tells)

insert_tells : (k : ArrayVec ℕ) (value : ℕ) (o : WriteOutcome) → told_by (Insert k value) (of_write o) ≡ writes.told_by o job.Insert k value
insert_tells k value write.New = refl
insert_tells k value (write.Present stands) = refl
insert_tells k value (write.Gone had) = refl
insert_tells k value write.Absent = refl
insert_tells k value (write.Full pool) = refl
insert_tells k value (write.Exhausted c) = refl
insert_tells k value write.Overlaps = refl
insert_tells k value write.Busy = refl
insert_tells k value (write.Crowded b) = refl

remove_tells : (k : ArrayVec ℕ) (value : ℕ) (o : WriteOutcome) → told_by (Remove k) (of_write o) ≡ writes.told_by o job.Remove k value
remove_tells k value write.New = refl
remove_tells k value (write.Present stands) = refl
remove_tells k value (write.Gone had) = refl
remove_tells k value write.Absent = refl
remove_tells k value (write.Full pool) = refl
remove_tells k value (write.Exhausted c) = refl
remove_tells k value write.Overlaps = refl
remove_tells k value write.Busy = refl
remove_tells k value (write.Crowded b) = refl

module _ (z : Sizes) (turns : ℕ) (u : View) (c : Caller) (m : Write) (v : View) where
  abbrev TellsOf : Job → ArrayVec ℕ → ℕ → Type 0
  TellsOf j k value = (v.own ≡ u.own) ⊎ SeesSome j k value u v

  writing_tells : (j : Job) (k : ArrayVec ℕ) (value : ℕ) → IsWriting z j k value turns u c m v → TellsOf j k value
  writing_tells j k value on =
      let own : TellsOf m.job c.room.row.key c.room.row.value = write_tells z u on.waited m c.room (places_of c.limbo) v m.stage on.fits.room.key.short on.fits.stage in
      let by_job : TellsOf j c.room.row.key c.room.row.value = subst (λ (i : Job). TellsOf i c.room.row.key c.room.row.value) on.job_is own in
      let by_key : TellsOf j k c.room.row.value = subst (λ (x : ArrayVec ℕ). TellsOf j x c.room.row.value) on.key_is by_job in
      subst (λ (n : ℕ). TellsOf j k n) on.value_is by_key

  insert_told : (k : ArrayVec ℕ) (value : ℕ) → TellsOf job.Insert k value → HasTold (Insert k value) u v
  insert_told k value (inl none) = inl none
  insert_told k value (inr some) = told_so (Insert k value) (of_write some.0) (writes.told_by some.0 job.Insert k value) u v (insert_tells k value some.0) some.1

  remove_told : (k : ArrayVec ℕ) → TellsOf job.Remove k 0 → HasTold (Remove k) u v
  remove_told k (inl none) = inl none
  remove_told k (inr some) = told_so (Remove k) (of_write some.0) (writes.told_by some.0 job.Remove k 0) u v (remove_tells k 0 some.0) some.1

-- ---- a seek

pinned_view : (v : View) (x : ℕ) → 0 < x → pin.view_after v x ≡ record v { steps = v.steps + 1; pins = v.pins + 1; pin = x }
pinned_view v x some = rw (ne_eqb x 0 (λ e. omega (arith, e, some))) refl

module _ (z : Sizes) (u o : View) (p : Pins z u o) where
  pinned_seen : o.seen ≡ u.seen
  pinned_seen = ap (λ (v : View). v.seen) p.is ∙ ap (λ (v : View). v.seen) (pinned_view (epoch.view_after u p.found) p.found p.some)

  pinned_own : o.own ≡ u.own
  pinned_own = ap (λ (v : View). v.own) p.is ∙ ap (λ (v : View). v.own) (pinned_view (epoch.view_after u p.found) p.found p.some)

  pinned_pass : o.pass ≡ u.pass
  pinned_pass = ap (λ (v : View). v.pass) p.is ∙ ap (λ (v : View). v.pass) (pinned_view (epoch.view_after u p.found) p.found p.some)

-- where nothing came of a part, there is none
pub no_end : {A B : Type 0} (f : A → B) (o : Option A) → option_map f o ≡ None → o ≡ None
no_end f None is = refl
no_end f (Some x) is = cc

seen_going : (b : Bool) → (if b then Some Seen else None) ≡ None → b ≡ false
seen_going true is = cc
seen_going false is = refl

module _ (z : Sizes) (k : List ℕ) (hi : Bound) (u : View) (t : PathBuffer) (n : ℕ) (v : View) where
  walk_reads : (w : Walk) → walks.Fits z k hi u w t n v → walks.ended_at w ≡ None → OnlyReads u v
  walk_reads (Key m) fits going = (still_reading z k (get_done k) m.depth m.stage u v (no_end of_value (descents.ended_at m.stage) going) fits.fits).only
  walk_reads (Range m) fits going = (still_looking z k hi m.depth t m.stage u v (seen_going (looks.has_ended m.stage) going) fits.fits).only

-- it told nothing yet, or what its end tells
record SeekTells (k : List ℕ) (hi : Bound) (u : View) (m : Seek) (t : PathBuffer) (v : View) : Type 0 where
  ends : IsEnd m.walk m.left m.outcome
  tells : SeesEvent u v (told_of m.outcome k hi t m.walk)

module _ (z : Sizes) (k : List ℕ) (hi : Bound) (u : View) (m : Seek) (t : PathBuffer) (v : View) (short : length k ≤ 64) where
  seek_tells : (s : SeekStage) → seeks.StageFits z k hi u s m t v → (v.own ≡ u.own) ⊎ SeekTells k hi u m t v
  seek_tells seek.Pinning fits = inl (pinning_same z u v m.pinning fits.pinning fits.going).1
  seek_tells seek.Walking fits =
      let a = fits.walking in
      inl (ap (λ (r : Rest). r.own) (walk_reads z k hi a.opened t m.restarts v m.walk a.walk fits.going) ∙ pinned_own z u a.opened a.pins_to)
  seek_tells seek.Closing fits =
      let a = fits.walking in
      inr record {
        ends = fits.ends;
        tells = since u a.opened v (told_of m.outcome k hi t m.walk) (pinned_seen z u a.opened a.pins_to) (pinned_own z u a.opened a.pins_to) (pinned_pass z u a.opened a.pins_to) (over_told z k hi u m t v fits).tells;
      }
  seek_tells seek.Ended fits = inr record { ends = fits.over.ends; tells = (closed_sought z k hi u m t v fits short).tells }

module _ (u v : View) (left : ℕ) where
  get_told : (k : ArrayVec ℕ) (hi : Bound) (t : PathBuffer) (w : Walk) (o : SeekOutcome) → aim_of w ≡ aim.Key → IsEnd w left o → SeesEvent u v (told_of o k.items hi t w) → HasTold (Get k) u v
  get_told k hi t w (Found value) is ends sees = inr (outcome.Found value, get_done k.items (Some value), refl, sees)
  get_told k hi t w Absent is ends sees = inr (outcome.Absent, get_done k.items None, refl, sees)
  get_told k hi t w Busy is ends sees = inl sees.1
  get_told k hi t (Key m) Seen is ends sees = absurd (key_not_seen m left ends)
  get_told k hi t (Range m) Seen is ends sees = cc

  seen_told : (lo : ArrayVec ℕ) (hi : Bound) (s : Option SeenOf) → SeesEvent u v (option_map look_done s) → HasTold (Look lo hi) u v
  seen_told lo hi None sees = inl sees.1
  seen_told lo hi (Some seen) sees = inr (outcome.Seen seen, look_done seen, refl, sees)

  look_told : (lo : ArrayVec ℕ) (hi : Bound) (t : PathBuffer) (w : Walk) (o : SeekOutcome) → aim_of w ≡ aim.Range → IsEnd w left o → SeesEvent u v (told_of o lo.items hi t w) → HasTold (Look lo hi) u v
  look_told lo hi t (Range m) Seen is ends sees = seen_told lo hi (looks.seen_at lo.items hi t m.stage) sees
  look_told lo hi t (Range m) Busy is ends sees = inl sees.1
  look_told lo hi t (Range m) (Found value) is ends sees = absurd (range_not_found m left value ends)
  look_told lo hi t (Range m) Absent is ends sees = absurd (range_not_absent m left ends)
  look_told lo hi t (Key m) o is ends sees = cc

-- ---- a call

module _ (z : Sizes) (turns : ℕ) (u : View) (c : Caller) (v : View) where
  get_tells : (k : ArrayVec ℕ) (hi : Bound) (m : Seek) → (v.own ≡ u.own) ⊎ SeekTells k.items hi u m c.path_buffer v → aim_of m.walk ≡ aim.Key → HasTold (Get k) u v
  get_tells k hi m (inl none) is = inl none
  get_tells k hi m (inr some) is = get_told u v m.left k hi c.path_buffer m.walk m.outcome is some.ends some.tells

  look_tells : (lo : ArrayVec ℕ) (hi : Bound) (m : Seek) → (v.own ≡ u.own) ⊎ SeekTells lo.items hi u m c.path_buffer v → aim_of m.walk ≡ aim.Range → HasTold (Look lo hi) u v
  look_tells lo hi m (inl none) is = inl none
  look_tells lo hi m (inr some) is = look_told u v m.left lo hi c.path_buffer m.walk m.outcome is some.ends some.tells

  going_tells : (w : Wish) (a : Call) → GoesOn z w turns u c a v → HasTold w u v
  going_tells (Insert k value) (call.Write m) on = insert_told z turns u c m v k value (writing_tells z turns u c m v job.Insert k value on)
  going_tells (Remove k) (call.Write m) on = remove_told z turns u c m v k (writing_tells z turns u c m v job.Remove k 0 on)
  going_tells (Get k) (call.Seek m) on = get_tells k c.hi m (seek_tells z k.items c.hi u m c.path_buffer v on.short m.stage on.fits) on.aim_is
  going_tells (Look lo hi) (call.Seek m) on = look_tells lo hi m (seek_tells z lo.items hi u m c.path_buffer v on.0.short m.stage on.0.fits) on.0.aim_is
  going_tells (Insert k value) (call.Seek m) on = absurd on
  going_tells (Remove k) (call.Seek m) on = absurd on
  going_tells (Get k) (call.Write m) on = absurd on
  going_tells (Look lo hi) (call.Write m) on = absurd on

-- a call that is under way, or has ended, made one event at most, of an answer to its wish
pub calling_tells : (z : Sizes) (w : Wish) (given turns : ℕ) (u : View) (c : Caller) (v : View) → IsCalling z w given turns u c v → HasTold w u v
calling_tells z w given turns u c v calling = going_tells z turns u c v w c.call calling.goes_on
