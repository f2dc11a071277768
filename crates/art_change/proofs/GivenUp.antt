-- A write that cannot be given up holds a cell, or has made its event; one that will refuse holds none, and has made none.
use Rattle.std.proofs.Common.{◌≡◌, ◌≢◌, ◌++◌, ℕ, zero, suc, ◌+◌, ◌<◌, ◌==◌, Bool, false, true, List, [], ◌∷◌, length, Option, Some, None, inl, inr, refl, sym, ap, ◌∙◌, subst, arith}
use Rattle.std.proofs.lemmas.List.{length-append}
use Rattle.std.proofs.lemmas.Option.{same_Some, slice_get-get_or}
use Rattle.std.specs.Prelude.{get_or}
use Rattle.arrayvec.specs.ArrayVec.{ArrayVec}
use Rattle.art_attempt.specs.Attempts.{Fits as TryFits, StageFits as AttemptFits, ended_at as try_ended, ending_at, free_at, is_free}
use Rattle.art_plan.specs.Apply.{is_begun}
use Rattle.art_attempt.specs.declared.attempts.Room.{Room}
use Rattle.art_cell.specs.declared.cells.Cell.TheVariants as cell
use Rattle.art_cell.specs.declared.cells.Link.{Link}
use Rattle.art_cell.specs.declared.cells.Node.{Node}
use Rattle.art_change.proofs.Answered.{left_opened, sees_all}
use Rattle.art_change.specs.Writes.{Fits, HoldsOrTold, OutcomeBy, IsExiting, IsDone, StageFits, WillRefuse, gone_by, is_refusal, outcome_in, refuses_at, told_by}
use Rattle.art_attempt.specs.declared.attempts.Job.{Job}
use Rattle.art_attempt.specs.declared.attempts.Stage.{Stage as AttemptStage}
use Rattle.art_attempt.specs.declared.attempts.Stage.TheVariants as attempt
use Rattle.art_attempt.specs.declared.attempts.Job.TheVariants.{Insert, Remove}
use Rattle.art_attempt.specs.declared.attempts.Attempt.{Attempt}
use Rattle.art_change.specs.declared.writes.WriteOutcome.{WriteOutcome as Outcome}
use Rattle.art_change.specs.declared.writes.WriteOutcome.TheVariants.{New, Present, Gone, Absent, Full, Exhausted, Overlaps, Busy, Crowded}
use Rattle.art_change.specs.declared.writes.Stage.{Stage}
use Rattle.art_change.specs.declared.writes.Stage.TheVariants as stages
use Rattle.art_change.specs.declared.writes.Write.{Write}
use Rattle.art_epoch.specs.declared.limbo.Place.{Place}
use Rattle.art_epoch.proofs.Opens.{enter_same}
use Rattle.art_epoch.specs.Exit.{ExitFits}
use Rattle.art_epoch.specs.declared.exit.Exit.{Exit}
use Rattle.art_epoch.specs.declared.exit.Exit.TheVariants as exit
use Rattle.art_epoch.specs.declared.stocks.Stock.{Stock}
use Rattle.art_plan.proofs.Committing.{some_words}
use Rattle.art_plan.specs.Apply.{Fits as MakeFits, at_claim, at_fill, at_release, ended_at as make_ended, so_many}
use Rattle.art_plan.specs.declared.apply.Apply.{Apply}
use Rattle.art_plan.specs.declared.apply.Apply.TheVariants.{Upgrading, Claiming, Filling, Writing, Committing, Releasing, ReleasingNode, GivingUp, Ended}
use Rattle.art_plan.specs.Changes.{filled_at, target_at, targets}
use Rattle.art_plan.specs.Whole.{HoldsWhole, filled_ends, made_at}
use Rattle.art_plan.specs.declared.changes.Change.{Change}
use Rattle.art_plan.specs.declared.changes.Put.{Put}
use Rattle.art_plan.specs.declared.changes.Target.{Target}
use Rattle.art_step.specs.Events.{SeesEvent}
use Rattle.art_step.specs.Tokens.{links_of}
use Rattle.art_step.specs.Views.{Member}
use Rattle.art_step.specs.declared.deeds.Deed.{Deed}
use Rattle.art_step.specs.declared.views.Holding.{Holding}
use Rattle.art_step.specs.declared.views.Sizes.{Sizes}
use Rattle.art_step.specs.declared.views.View.{View}

-- ---- a cell is held

some_member : (hs : List Holding) (h : Holding) → Member h hs → hs ≢ []
some_member hs h i none = subst (Member h) none i

target_there : (c : Change) (i : ℕ) → i < targets c → (x : Target) × (target_at c i ≡ Some x)
target_there c i low =
    let none : Target = record { stamp = record { cell = cell.Anchor; version = 0; first = 0 }; obsolete = false } in
    (get_or c.targets.items i none, slice_get-get_or c.targets.items i none low)

above_zero : (i : ℕ) → (i == 0) ≡ false → 0 < i
above_zero zero some = absurd (cc)
above_zero (suc i) some = omega arith

module _ (u : View) (c : Change) (to : ℕ) (ps : List Put) (filled : Bool → ℕ) (hs : List Holding) where
  holds_target : (i : ℕ) → HoldsWhole u c i to ps filled hs → i < to → i < targets c → hs ≢ []
  holds_target i holds low is =
      let x = target_there c i is in
      let h = holds.each i x.0 (omega arith) low x.1 in
      some_member hs h.0 h.1

  holds_node : (i : ℕ) (b : Bool) (n : Node) → HoldsWhole u c i to ps filled hs → made_at b c ≡ Some n → 0 < filled b → hs ≢ []
  holds_node i b n holds made some = let h = holds.new b n made some in some_member hs h.0 h.1

module _ (z : Sizes) (c : Change) (u v : View) where
  -- the making of a change holds a cell from its first upgrade to its last release
  apply_holds : (m : Apply) → MakeFits z c m u v → make_ended m ≡ None → is_begun m ≡ false → v.held ≢ []
  apply_holds (Upgrading i) fits on some =
      let low = above_zero i some in
      holds_target u c i [] (so_many 0 0) v.held 0 fits.stage.1.holds low (let a = fits.stage.0 in omega (arith, a, low))
  apply_holds (Claiming b) fits on some = holds_target u c (targets c) [] (at_claim c b) v.held 0 fits.stage.1.holds fits.planned.some fits.planned.some
  apply_holds (Filling b place) fits on some = holds_target u c (targets c) [] (at_fill c b place) v.held 0 fits.stage.2.holds fits.planned.some fits.planned.some
  apply_holds (Writing j) fits on some = let k = fits.stage.1 in holds_target u c (targets c) _ (filled_ends c) v.held 0 k.holds fits.planned.some fits.planned.some
  apply_holds Committing fits on some = holds_target u c (targets c) c.puts.items (filled_ends c) v.held 0 fits.stage.holds fits.planned.some fits.planned.some
  apply_holds (Releasing i) fits on some = holds_target u c (targets c) c.puts.items (filled_ends c) v.held i fits.stage.1.holds fits.stage.0 fits.stage.0
  apply_holds (ReleasingNode false) fits on some =
      let n = fits.stage.0 in
      holds_node u c (targets c) c.puts.items (at_release c false) v.held (targets c) false n.0 fits.stage.1.holds n.1
      (subst (λ (o : Option Node). 0 < filled_at c o) (sym n.1) (some_words n.0.layout))
  apply_holds (ReleasingNode true) fits on some =
      let n = fits.stage.0 in
      holds_node u c (targets c) c.puts.items (at_release c true) v.held (targets c) true n.0 fits.stage.1.holds n.1
      (subst (λ (o : Option Node). 0 < filled_at c o) (sym n.1) (some_words n.0.layout))
  apply_holds (GivingUp locked released e) fits on some =
      let low = fits.stage.0 in
      let few = fits.stage.1 in
      holds_target u c locked [] (so_many 0 0) v.held released fits.stage.2.holds low (omega (arith, low, few))
  apply_holds (Ended r) fits on some = cc

-- an attempt that is not free holds one
module _ (z : Sizes) (u : View) (m : Attempt) (r : Room) (v : View) where
  holds_at : (s : AttemptStage) → AttemptFits z u s m r v → ending_at s ≡ None → free_at s ≡ false → v.held ≢ []
  holds_at (attempt.Apply s) fits on free = apply_holds z r.change fits.0.early v s fits.0.fits fits.1 free
  holds_at (attempt.Finding f) fits on free = cc
  holds_at (attempt.Placed t p) fits on free = cc
  holds_at (attempt.Ended e) fits on free = cc

  pub held_in : TryFits z u m r v → try_ended m ≡ None → is_free m ≡ false → v.held ≢ []
  held_in fits on free = holds_at m.stage fits.stage on free

-- ---- the event was made

module _ (z : Sizes) (k : List ℕ) (value : ℕ) (u v : View) (ps qs : List Place) (us : List Link) (s : Stock) where
  -- the close tells nothing
  close_tells : (c : Exit) → ExitFits z k value u ps us c qs s v → (v.seen ≡ u.seen) × (v.own ≡ u.own)
  close_tells exit.Labelling fits = (ap (λ (t : View). t.seen) fits.is, ap (λ (t : View). t.own) fits.is)
  close_tells exit.Giving fits = (ap (λ (t : View). t.seen) fits.is, ap (λ (t : View). t.own) fits.is)
  close_tells exit.Ended fits = (ap (λ (t : View). t.seen) fits.0.is, ap (λ (t : View). t.own) fits.0.is)

-- what is no refusal was told
told_of : (z : Sizes) (u : View) (j : Job) (r : Room) (o : Outcome) (left : ℕ) (v : View) (k : ArrayVec ℕ) (value : ℕ) → OutcomeBy z u j r o left v
    → is_refusal o ≡ false → (what : Deed) × (told_by o j k value ≡ Some what)
told_of z u Insert r New left v k value fits untold = (_, refl)
told_of z u Insert r (Present stands) left v k value fits untold = (_, refl)
told_of z u Remove r (Gone had) left v k value fits untold = (_, refl)
told_of z u Remove r Absent left v k value fits untold = (_, refl)
told_of z u Insert r (Gone had) left v k value fits untold = let no = fits.ends.0 in cc
told_of z u Insert r Absent left v k value fits untold = let no = fits.ends.0 in cc
told_of z u Remove r New left v k value fits untold = let no = fits.ends.0 in cc
told_of z u Remove r (Present stands) left v k value fits untold = let no = fits.ends.0 in cc
told_of z u j r (Full pool) left v k value fits untold = cc
told_of z u j r (Exhausted x) left v k value fits untold = cc
told_of z u j r Overlaps left v k value fits untold = cc
told_of z u j r Busy left v k value fits untold = cc
told_of z u j r (Crowded b) left v k value fits untold = cc

module _ (z : Sizes) (u : View) (ps : List Place) (m : Write) (r : Room) (qs : List Place) (v : View) where
  exit_told : (x : Exit) (o : Outcome) → IsExiting z u ps m x o r qs v → is_refusal o ≡ false → HoldsOrTold u v
  exit_told x o k untold =
      let same = close_tells z r.row.key.items r.row.value k.ended v k.waiting qs (links_of (gone_by o r.change)) r.stock x k.fits in
      let told = told_of z k.began m.job (record r { stock = k.stock }) o m.left k.ended r.row.key r.row.value k.outcome untold in
      let sees = sees_all u k.opened k.ended v (ap (λ (t : View). t.seen) k.frame.frame.is) (ap (λ (t : View). t.own) k.frame.frame.is) (ap (λ (t : View). t.pass) k.frame.frame.is)
      same.0 same.1 (told_by o m.job r.row.key r.row.value) (left_opened z u ps m r qs v x o k).tells in
      inr (told.0, subst (SeesEvent u v) told.1 sees)

  done_told : (o : Outcome) → IsDone z u ps o m r qs v → is_refusal o ≡ false → HoldsOrTold u v
  done_told New done untold = exit_told exit.Ended New done untold
  done_told (Present stands) done untold = exit_told exit.Ended (Present stands) done untold
  done_told (Gone had) done untold = exit_told exit.Ended (Gone had) done untold
  done_told Absent done untold = exit_told exit.Ended Absent done untold
  done_told (Full pool) done untold = cc
  done_told (Exhausted c) done untold = cc
  done_told Overlaps done untold = cc
  done_told Busy done untold = cc
  done_told (Crowded b) done untold = cc

  pub told_in_stage : (s : Stage) (o : Outcome) → outcome_in s ≡ Some o → StageFits z u ps s m r qs v → is_refusal o ≡ false → HoldsOrTold u v
  told_in_stage (stages.Exit x a) o is fits untold = exit_told x a fits.0 (ap is_refusal (same_Some {A = Outcome} a o is) ∙ untold)
  told_in_stage (stages.Ended a) o is fits untold = done_told a fits (ap is_refusal (same_Some {A = Outcome} a o is) ∙ untold)
  told_in_stage (stages.Enter e) o is fits untold = cc
  told_in_stage (stages.Trying t) o is fits untold = cc

  pub held_in_try : (t : Attempt) → StageFits z u ps (stages.Trying t) m r qs v → is_free t ≡ false → HoldsOrTold u v
  held_in_try t fits untold = inl (held_in z fits.0.began t r v fits.0.fits fits.0.going untold)

-- ---- what will refuse is free, and has told nothing

no_longer : (xs : List ℕ) (x : ℕ) → xs ≡ xs ++ x ∷ [] → ⊥
no_longer xs x same = let long : length xs ≡ length xs + 1 = ap length same ∙ length-append xs (x ∷ []) in absurd (omega (arith, long))

pub free_untold : (u v : View) → v.held ≡ [] → v.own ≡ u.own → HoldsOrTold u v → ⊥
free_untold u v free own (inl holds) = holds free
free_untold u v free own (inr told) = no_longer u.own (length (u.seen ++ told.1.between)) (sym own ∙ told.1.own)

refusal_tells : (o : Outcome) (j : Job) (k : ArrayVec ℕ) (value : ℕ) → is_refusal o ≡ true → told_by o j k value ≡ None
refusal_tells New j k value refuses = cc
refusal_tells (Present stands) j k value refuses = cc
refusal_tells (Gone had) j k value refuses = cc
refusal_tells Absent j k value refuses = cc
refusal_tells (Full pool) j k value refuses = refl
refusal_tells (Exhausted c) j k value refuses = refl
refusal_tells Overlaps j k value refuses = refl
refusal_tells Busy j k value refuses = refl
refusal_tells (Crowded b) j k value refuses = refl

module _ (z : Sizes) (k : List ℕ) (value : ℕ) (u v : View) (ps qs : List Place) (us : List Link) (s : Stock) where
  close_frees : (c : Exit) → ExitFits z k value u ps us c qs s v → v.held ≡ []
  close_frees exit.Labelling fits = ap (λ (t : View). t.held) fits.is ∙ fits.may.free
  close_frees exit.Giving fits = ap (λ (t : View). t.held) fits.is ∙ fits.free
  close_frees exit.Ended fits = fits.0.free

module _ (z : Sizes) (u : View) (ps : List Place) (m : Write) (r : Room) (qs : List Place) (v : View) where
  exit_free : (x : Exit) (o : Outcome) → IsExiting z u ps m x o r qs v → is_refusal o ≡ true → HoldsOrTold u v → ⊥
  exit_free x o k refuses =
      let bytes = r.row.key.items in
      let same = close_tells z bytes r.row.value k.ended v k.waiting qs (links_of (gone_by o r.change)) r.stock x k.fits in
      let free = close_frees z bytes r.row.value k.ended v k.waiting qs (links_of (gone_by o r.change)) r.stock x k.fits in
      let sees = sees_all u k.opened k.ended v (ap (λ (t : View). t.seen) k.frame.frame.is) (ap (λ (t : View). t.own) k.frame.frame.is) (ap (λ (t : View). t.pass) k.frame.frame.is)
      same.0 same.1 (told_by o m.job r.row.key r.row.value) (left_opened z u ps m r qs v x o k).tells in
      let none = subst (SeesEvent u v) (refusal_tells o m.job r.row.key r.row.value refuses) sees in
      free_untold u v free none.1

  done_free : (o : Outcome) → IsDone z u ps o m r qs v → is_refusal o ≡ true → HoldsOrTold u v → ⊥
  done_free New done refuses = cc
  done_free (Present stands) done refuses = cc
  done_free (Gone had) done refuses = cc
  done_free Absent done refuses = cc
  done_free (Full pool) done refuses = exit_free exit.Ended (Full pool) done refuses
  done_free (Exhausted c) done refuses = exit_free exit.Ended (Exhausted c) done refuses
  done_free Overlaps done refuses = exit_free exit.Ended Overlaps done refuses
  done_free Busy done refuses = exit_free exit.Ended Busy done refuses
  done_free (Crowded b) done refuses = free_untold u v (ap (λ (t : View). t.held) done.0.only ∙ done.1) (ap (λ (t : View). t.own) done.0.only)

  refused_free : (s : Stage) → refuses_at s m.left → StageFits z u ps s m r qs v → HoldsOrTold u v → ⊥
  refused_free (stages.Enter e) refuses fits =
      let same = enter_same z u v ps qs e fits.enter fits.going in
      free_untold u v (same.0 ∙ fits.untried.free) same.1
  refused_free (stages.Trying t) refuses fits = absurd refuses
  refused_free (stages.Exit x o) refuses fits = exit_free x o fits.0 refuses
  refused_free (stages.Ended o) refuses fits = done_free o fits refuses

  pub refusing_is_free : WillRefuse m → Fits z u ps m r qs v → HoldsOrTold u v → ⊥
  refusing_is_free refuses fits = refused_free m.stage refuses fits.stage
