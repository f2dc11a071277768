-- An op that has its turns comes to an end: each is one step of its call, and only so many are left.
use Rattle.std.proofs.Common.{◌≡◌, ◌≢◌, ◌⊎◌, ◌∙◌, ◌+◌, ◌<◌, ◌≤◌, ◌==◌, ℕ, List, [], ◌∷◌, true, false, Option, Some, None, length, cond, inl, inr, refl, sym, ap, subst, arith, ⊎_elim}
use Rattle.std.proofs.lemmas.Bool.{cases_Bool, cases_eq, cond_both, eqb-true}
use Rattle.std.proofs.lemmas.List.Sums.{sum_by-cons}
use Rattle.std.proofs.lemmas.Option.{same_Some, slice_get_within}
use Rattle.std.specs.List.{slice_get}
use Rattle.std.specs.Option.{is_some, option_map}
use Rattle.std.specs.Prelude.{slice_set}
use Rattle.art_change.specs.ArtAttempt.declared.attempts.Room.{Room}
use Rattle.art_change.specs.Writes as writes
use Rattle.art_change.specs.declared.writes.Stage.{Stage}
use Rattle.art_change.specs.declared.writes.Stage.TheVariants as write
use Rattle.art_change.specs.declared.writes.Write.{Write}
use Rattle.art_change.specs.ArtEpoch.Exit as exits
use Rattle.art_change.specs.ArtEpoch.declared.exit.Exit.{Exit}
use Rattle.art_change.specs.ArtEpoch.declared.exit.Exit.TheVariants.{Ended, Giving, Labelling}
use Rattle.art_change.specs.ArtEpoch.declared.stocks.Stock.{Stock}
use Rattle.art_change.specs.ArtLook.Seeks as seeks
use Rattle.art_change.specs.ArtLook.declared.seeks.Seek.{Seek}
use Rattle.art_change.specs.ArtLook.declared.seeks.SeekStage.{SeekStage}
use Rattle.art_change.specs.ArtLook.declared.seeks.SeekStage.TheVariants as seek
use Rattle.art_change.specs.Calls.{Get, GoesOn, Insert, IsCalling, Look, Remove, Wish, left_in, outcome_of}
use Rattle.art_change.specs.declared.callers.Call.{Call}
use Rattle.art_change.specs.declared.callers.Call.TheVariants as call
use Rattle.art_change.specs.declared.callers.Caller.{Caller}
use Rattle.art_change.specs.declared.outcomes.Outcome.{Outcome}
use Rattle.art_epoch.specs.declared.limbo.Place.{Place}
use Rattle.art_epoch.specs.Limbo.{places_of}
use Rattle.art_runs.specs.Ops.{Goes, IsRunOfOps, IsUnderWay, caller_in, has_ended, outcome_in, turns_of}
use Rattle.art_runs.specs.declared.ops.Op.{Op}
use Rattle.art_step.proofs.Determined.{steps_count}
use Rattle.art_step.specs.Steps.{OneStep}
use Rattle.art_step.specs.WordRows.{view_at, views_of}
use Rattle.art_step.specs.declared.views.Sizes.{Sizes}
use Rattle.art_step.specs.declared.views.View.{View}
use Rattle.art_world.proofs.TakenTurns.{placed_here, placed_there, run_keeps, turn_others}
use Rattle.art_world.proofs.ViewLists.{at_view}
use Rattle.art_world.specs.Contents.{AtOnce, Contents, memory_now}
use Rattle.art_world.specs.Turns.{IsTurn, NamesNobody, TakesTurn}

-- ---- a call that goes on has a step left

none_mapped : {A B : Type 0} (f : A → B) (o : Option A) → option_map f o ≡ None → o ≡ None
none_mapped f None none = refl
none_mapped f (Some x) none = absurd (cc)

exit_left : (c : Exit) (s : Stock) → exits.is_ended c ≡ false → 0 < exits.steps_left c s
exit_left Labelling s going = omega arith
exit_left Giving s going = omega arith
exit_left Ended s going = absurd (cc)

write_left : (z : Sizes) (u v : View) (ps qs : List Place) (m : Write) (r : Room) (s : Stage) → writes.StageFits z u ps s m r qs v → writes.outcome_at s ≡ None → 0 < writes.left_at s m.left r qs
write_left z u v ps qs m r (write.Enter e) fits going = omega arith
write_left z u v ps qs m r (write.Trying t) fits going = omega arith
write_left z u v ps qs m r (write.Exit x o) fits going = exit_left x r.stock fits.1
write_left z u v ps qs m r (write.Ended o) fits going = absurd (cc)

seek_left : (m : Seek) (s : SeekStage) → seeks.outcome_at s m.outcome ≡ None → 0 < seeks.left_at s m
seek_left m seek.Pinning going = omega arith
seek_left m seek.Walking going = omega arith
seek_left m seek.Closing going = omega arith
seek_left m seek.Ended going = absurd (cc)

module _ (z : Sizes) (turns : ℕ) (u v : View) (c : Caller) where
  goes_left : (w : Wish) (m : Call) → GoesOn z w turns u c m v → outcome_of c m ≡ None → 0 < left_in c m
  goes_left (Insert k value) (call.Write m) goes none = write_left z u v goes.waited (places_of c.limbo) m c.room m.stage goes.fits.stage (none_mapped _ _ none)
  goes_left (Remove k) (call.Write m) goes none = write_left z u v goes.waited (places_of c.limbo) m c.room m.stage goes.fits.stage (none_mapped _ _ none)
  goes_left (Get k) (call.Seek m) goes none = seek_left m m.stage (none_mapped _ _ none)
  goes_left (Look lo hi) (call.Seek m) goes none = seek_left m m.stage (none_mapped _ _ none)
  goes_left (Insert k value) (call.Seek m) goes none = absurd goes
  goes_left (Remove k) (call.Seek m) goes none = absurd goes
  goes_left (Get k) (call.Write m) goes none = absurd goes
  goes_left (Look lo hi) (call.Write m) goes none = absurd goes

none_if : (o : Option Outcome) → is_some o ≡ false → o ≡ None
none_if None none = refl
none_if (Some x) none = absurd (cc)

-- so one that has made all its steps has ended
spent_ends : (z : Sizes) (w : Wish) (given most : ℕ) (u v : View) (a : Op) → IsCalling z w given most u (caller_in a) v → u.steps + given + 1000 ≤ v.steps → has_ended a ≡ true
spent_ends z w given most u v a calling spent = ⊎_elim
    (λ (e : has_ended a ≡ true). e)
    (λ (e : has_ended a ≡ false).
    let some = goes_left z most u v (caller_in a) w (caller_in a).call calling.goes_on (none_if (outcome_in a) e) in
    let few = calling.few in
    absurd (omega (arith, some, few, spent)))
    (cases_Bool (has_ended a))

-- ---- how many turns name a pass

turn_counts : (p t : ℕ) (ts : List ℕ) → turns_of p (t ∷ ts) ≤ 1 + turns_of p ts
turn_counts p t ts =
    let sum = sum_by-cons (λ (i : ℕ). cond (i == p) 1 0) t ts in
    let one = cond_both (t == p) 1 0 (λ (n : ℕ). n ≤ 1) (λ e. omega arith) (λ e. omega arith) in
    omega (arith, sum, one)

other_counts : (p t : ℕ) (ts : List ℕ) → t ≢ p → turns_of p (t ∷ ts) ≡ turns_of p ts
other_counts p t ts other =
    let sum = sum_by-cons (λ (i : ℕ). cond (i == p) 1 0) t ts in
    let none = cond_both (t == p) 1 0 (λ (n : ℕ). n ≡ 0) (λ e. absurd (other (eqb-true t p e))) (λ e. refl) in
    omega (arith, sum, none)

-- ---- the turns of the op of the pass p

-- the views of a world that a turn made of another one
module _ (p : ℕ) where
  abbrev Turn : ℕ → Contents → List Op → Contents → List Op → Type 0
  Turn t k xs m zs = IsTurn (λ a z v. IsUnderWay z a v) has_ended Goes t k xs m zs

  abbrev Takes : ℕ → Contents → List Op → Contents → List Op → Type 0
  Takes t k xs m zs = TakesTurn (λ a z v. IsUnderWay z a v) has_ended Goes t k xs m zs

  -- an op that has ended stays
  rests : (a : Op) (ts : List ℕ) (k : Contents) (xs : List Op) (l : Contents) (ys : List Op) → IsRunOfOps ts k xs l ys → slice_get xs p ≡ Some a → has_ended a ≡ true → slice_get ys p ≡ Some a
  rests a ts k xs l ys run is ended =
      run_keeps (λ a z v. IsUnderWay z a v) has_ended Goes (λ m zs. slice_get zs p ≡ Some a)
      (λ t k xs m zs turn at. ⊎_elim
      (λ (n : NamesNobody (λ a z v. IsUnderWay z a v) has_ended Goes t xs × (m ≡ k) × (zs ≡ xs)). ap (λ (l : List Op). slice_get l p) n.2 ∙ at)
      (λ (g : Takes t k xs m zs). ap (λ (l : List Op). slice_get l p) g.actors ∙ (placed_there xs t p g.now (λ (e : p ≡ t).
      let same : a ≡ g.before = same_Some a g.before (sym at ∙ (ap (slice_get xs) e ∙ g.named)) in
      let going = g.goes_on in
      absurd (cc (ended, same, going))) ∙ at))
      turn)
      ts k xs l ys run is

  -- an op that had so many turns has ended, or made as many steps
  record Served (n : ℕ) (k l : Contents) (ys : List Op) : Type 0 where
    now : Op
    is : slice_get ys p ≡ Some now
    done : (has_ended now ≡ true) ⊎ ((view_at k.views p).steps + n ≤ (view_at l.views p).steps)

  one_counts : (k m : Contents) → AtOnce (OneStep k.sizes p) k m → length m.views ≡ length k.views → (view_at m.views p).steps ≡ (view_at k.views p).steps + 1
  one_counts k m step count =
      let low = slice_get_within k.views p step.view step.before in
      steps_count k.sizes p (view_at k.views p) (view_at m.views p) (memory_now k) (views_of k.views) (memory_now m) (views_of m.views) step (at_view k.views p low) (at_view m.views p (omega (arith, low, count)))

  took : (t : ℕ) (k : Contents) (xs : List Op) (m : Contents) (zs : List Op) (g : Takes t k xs m zs) → t ≡ p → ((view_at m.views p).steps ≡ (view_at k.views p).steps + 1) ⊎ (has_ended g.now ≡ true)
  took t k xs m zs g same = ⊎_elim
      (λ (step : AtOnce (OneStep k.sizes t) k m). inl (one_counts k m (subst (λ (i : ℕ). AtOnce (OneStep k.sizes i) k m) same step) g.only.count))
      (λ (none : (m ≡ k) × (has_ended g.now ≡ true)). inr none.1)
      g.step

  module _ (t : ℕ) (ts : List ℕ) (k : Contents) (xs : List Op) (m : Contents) (zs : List Op) (l : Contents) (ys : List Op) (rest : IsRunOfOps ts m zs l ys) where
    -- it ended before the rest of the turns
    rested : (a : Op) (n : ℕ) → slice_get zs p ≡ Some a → has_ended a ≡ true → Served n k l ys
    rested a n is ended = record { now = a; is = rests a ts m zs l ys rest is ended; done = inl ended }

    -- or is served by them
    served_then : (n : ℕ) → (view_at k.views p).steps + turns_of p (t ∷ ts) ≤ (view_at m.views p).steps + n → Served n m l ys → Served (turns_of p (t ∷ ts)) k l ys
    served_then n few s = record {
      now = s.now;
      is = s.is;
      done = ⊎_elim
          (λ (ended : has_ended s.now ≡ true). inl ended)
          (λ (made : (view_at m.views p).steps + n ≤ (view_at l.views p).steps). inr (omega (arith, few, made)))
          s.done;
    }

    taken : (a : Op) → slice_get xs p ≡ Some a → (g : Takes t k xs m zs) → t ≡ p → ((b : Op) → slice_get zs p ≡ Some b → Served (turns_of p ts) m l ys) → Served (turns_of p (t ∷ ts)) k l ys
    taken a is g same more =
        let low = slice_get_within xs p a is in
        let here : slice_get zs p ≡ Some g.now = ap (λ (l : List Op). slice_get l p) g.actors ∙ (ap (λ (i : ℕ). slice_get (slice_set xs i g.now) p) same ∙ placed_here xs p g.now low) in
        ⊎_elim
        (λ (one : (view_at m.views p).steps ≡ (view_at k.views p).steps + 1).
        let most = turn_counts p t ts in
        served_then (turns_of p ts) (omega (arith, one, most)) (more g.now here))
        (λ (ended : has_ended g.now ≡ true). rested g.now (turns_of p (t ∷ ts)) here ended)
        (took t k xs m zs g same)

    nobody : (a : Op) → slice_get xs p ≡ Some a → NamesNobody (λ a z v. IsUnderWay z a v) has_ended Goes t xs → zs ≡ xs → t ≡ p → Served (turns_of p (t ∷ ts)) k l ys
    nobody a is (inl none) stay same = absurd (cc (is, ap (slice_get xs) (sym same) ∙ none))
    nobody a is (inr x) stay same =
        let one : x.0 ≡ a = same_Some x.0 a (sym x.1 ∙ (ap (slice_get xs) same ∙ is)) in
        rested a (turns_of p (t ∷ ts)) (ap (λ (l : List Op). slice_get l p) stay ∙ is) (subst (λ (b : Op). has_ended b ≡ true) one x.2)

    own : (a : Op) → slice_get xs p ≡ Some a → Turn t k xs m zs → t ≡ p → ((b : Op) → slice_get zs p ≡ Some b → Served (turns_of p ts) m l ys) → Served (turns_of p (t ∷ ts)) k l ys
    own a is (inl n) same more = nobody a is n.0 n.2 same
    own a is (inr g) same more = taken a is g same more

    other : (a : Op) → slice_get xs p ≡ Some a → Turn t k xs m zs → t ≢ p → ((b : Op) → slice_get zs p ≡ Some b → Served (turns_of p ts) m l ys) → Served (turns_of p (t ∷ ts)) k l ys
    other a is turn apart more =
        let view = ap (λ (v : View). v.steps) (turn_others (λ a z v. IsUnderWay z a v) has_ended Goes t k xs m zs turn p (λ e. apart (sym e))) in
        let count = other_counts p t ts apart in
        served_then (turns_of p ts) (omega (arith, view, count)) (more a (stays turn))
      where
        stays : Turn t k xs m zs → slice_get zs p ≡ Some a
        stays (inl n) = ap (λ (l : List Op). slice_get l p) n.2 ∙ is
        stays (inr g) = ap (λ (l : List Op). slice_get l p) g.actors ∙ (placed_there xs t p g.now (λ e. apart (sym e)) ∙ is)

  served : (a : Op) (ts : List ℕ) (k : Contents) (xs : List Op) (l : Contents) (ys : List Op) → IsRunOfOps ts k xs l ys → slice_get xs p ≡ Some a → Served (turns_of p ts) k l ys
  served a [] k xs l ys run is = record {
    now = a;
    is = ap (λ (zs : List Op). slice_get zs p) run.1 ∙ is;
    done = inr (let same = ap (λ (c : Contents). (view_at c.views p).steps) run.0 in omega (arith, same));
  }
  served a (t ∷ ts) k xs l ys (m, zs, turn, rest) is = ⊎_elim
      (λ (same : t ≡ p). own t ts k xs m zs l ys rest a is turn same (λ b at. served b ts m zs l ys rest at))
      (λ (apart : t ≢ p). other t ts k xs m zs l ys rest a is turn apart (λ b at. served b ts m zs l ys rest at))
      (cases_eq t p)

-- an op that had as many turns as its call may have steps has ended
pub turns_end : (p : ℕ) (ts : List ℕ) (k : Contents) (xs : List Op) (l : Contents) (ys : List Op) → IsRunOfOps ts k xs l ys → (a b : Op) → slice_get xs p ≡ Some a → slice_get ys p ≡ Some b
    → (w : Wish) (given most : ℕ) (u : View) → IsCalling l.sizes w given most u (caller_in b) (view_at l.views p) → u.steps + given + 1000 ≤ (view_at k.views p).steps + turns_of p ts → has_ended b ≡ true
turns_end p ts k xs l ys run a b was is w given most u calling many =
    let s = served p a ts k xs l ys run was in
    ⊎_elim
    (λ (ended : has_ended s.now ≡ true). subst (λ (x : Op). has_ended x ≡ true) (same_Some s.now b (sym s.is ∙ is)) ended)
    (λ (made : (view_at k.views p).steps + turns_of p ts ≤ (view_at l.views p).steps). spent_ends l.sizes w given most u (view_at l.views p) b calling (omega (arith, many, made)))
    s.done
