-- An op that alone has turns, while every other pass is idle, meets no failure.
use Rattle.std.proofs.Common.{◌≡◌, ◌≢◌, ◌⊎◌, ◌+◌, ◌<◌, ◌∙◌, ◌∷◌, ℕ, true, false, List, [], Option, Some, None, length, slice_get, inl, inr, refl, sym, ap, subst, arith, ⊎_elim}
use Rattle.std.proofs.lemmas.Bool.{cases_eq}
use Rattle.std.proofs.lemmas.Option.{same_Some, slice_get_within}
use Rattle.art_change.specs.AsAsked.{GoesAsAsked}
use Rattle.art_change.specs.Calls.{Get, GoesOn, Insert, IsCalling, Look, Remove, Wish, restarts_in}
use Rattle.art_change.specs.declared.callers.Call.{Call}
use Rattle.art_change.specs.declared.callers.Call.TheVariants as call
use Rattle.art_change.specs.declared.callers.Caller.{Caller}
use Rattle.art_change.specs.declared.driver.Made.{Made}
use Rattle.art_runs.specs.Alone.{AreTurnsOf, GoesAlone, NamesNoOp}
use Rattle.art_runs.specs.Ops.{AsksLast, EndsAsCalled, Goes, IsRunOfOps, IsTurnOf, IsUnderWay, MakesLast, caller_in, has_ended, last_in, outcome_in}
use Rattle.art_runs.specs.declared.ops.Op.{Op}
use Rattle.art_runs.specs.OthersIdle.{IsAlone}
use Rattle.art_runs.specs.Solo.{BeginLaw, EndLaw, HasViews, IsSolo, RestartLaw, StepLaw}
use Rattle.art_step.proofs.Determined.{steps_count}
use Rattle.art_step.specs.Sound.{IsSound}
use Rattle.art_step.specs.Steps.{OneStep}
use Rattle.art_step.specs.WordRows.{view_at, views_of}
use Rattle.art_step.specs.declared.views.Sizes.{Sizes}
use Rattle.art_step.specs.declared.views.View.{View}
use Rattle.art_world.proofs.TakenTurns.{placed_here, placed_there}
use Rattle.art_world.proofs.ViewLists.{at_view}
use Rattle.art_world.specs.Contents.{Contents, memory_now}
use Rattle.art_world.specs.Lasting.{IsLasting}
use Rattle.art_world.specs.Turns.{IsTurn}

-- ---- turns of one op

-- a turn of the list
abbrev Turn : ℕ → Contents → List Op → Contents → List Op → Type 0
Turn t k xs m zs = IsTurn (λ a z v. IsUnderWay z a v) has_ended Goes t k xs m zs

-- who takes a turn is the op p
is_of : (p t : ℕ) (k : Contents) (xs : List Op) (m : Contents) (zs : List Op) → IsTurnOf t k xs m zs → (t ≡ p) ⊎ NamesNoOp t xs → t ≡ p
is_of p t k xs m zs turn (inl same) = same
is_of p t k xs m zs turn (inr (inl none)) = let no : Some turn.before ≡ None = sym turn.named ∙ none in absurd (cc)
is_of p t k xs m zs turn (inr (inr o)) =
    let same : o.0 ≡ turn.before = same_Some o.0 turn.before (sym o.1 ∙ turn.named) in
    let no : true ≡ false = sym o.2 ∙ (ap has_ended same ∙ turn.goes_on) in
    absurd (cc)

-- the others stay as they were
stays_nobody : (xs zs : List Op) (t : ℕ) → slice_get zs t ≡ slice_get xs t → NamesNoOp t xs → NamesNoOp t zs
stays_nobody xs zs t same (inl none) = inl (same ∙ none)
stays_nobody xs zs t same (inr o) = inr (o.0, same ∙ o.1, o.2)

turns_on : (p t : ℕ) (ts : List ℕ) (k : Contents) (xs : List Op) (m : Contents) (zs : List Op) → Turn t k xs m zs → AreTurnsOf p (t ∷ ts) xs → AreTurnsOf p ts zs
turns_on p t ts k xs m zs (inl n) all i there = subst (λ (l : List Op). (i ≡ p) ⊎ NamesNoOp i l) (sym n.2) (all i (inr there))
turns_on p t ts k xs m zs (inr turn) all i there =
    let own = is_of p t k xs m zs turn (all t (inl refl)) in
    ⊎_elim
    (λ (same : i ≡ p). inl same)
    (λ (other : i ≢ p). ⊎_elim
    (λ (same : i ≡ p). inl same)
    (λ (nobody : NamesNoOp i xs). inr (stays_nobody xs zs i (ap (λ (l : List Op). slice_get l i) turn.actors ∙ placed_there xs t i turn.now (λ e. other (e ∙ own))) nobody))
    (all i (inr there)))
    (cases_eq i p)

-- ---- a pass with a view

module _ (k : Contents) (count : length k.views ≡ k.sizes.passes) where
  has_views : HasViews k.sizes (views_of k.views)
  has_views q low = (view_at k.views q, at_view k.views q (subst (λ (n : ℕ). q < n) (sym count) low))

-- a call is begun by an idle pass
began_idle : (z : Sizes) (turns : ℕ) (u : View) (c : Caller) (v : View) (w : Wish) (n : Call) → GoesOn z w turns u c n v → u.pin ≡ 0
began_idle z turns u c v (Insert k value) (call.Write n) goes = goes.ready.frame.may.idle
began_idle z turns u c v (Remove k) (call.Write n) goes = goes.ready.frame.may.idle
began_idle z turns u c v (Get k) (call.Seek n) goes = goes.caller.ready.frame.may.idle
began_idle z turns u c v (Look lo hi) (call.Seek n) goes = goes.0.caller.ready.frame.may.idle
began_idle z turns u c v (Insert k value) (call.Seek n) goes = absurd goes
began_idle z turns u c v (Remove k) (call.Seek n) goes = absurd goes
began_idle z turns u c v (Get k) (call.Write n) goes = absurd goes
began_idle z turns u c v (Look lo hi) (call.Write n) goes = absurd goes

-- ---- the op at each turn

-- its call goes on for what it was begun for, at the view u; it knows what a call that is alone knows, or has ended since
record Solo (p : ℕ) (w : Wish) (given most : ℕ) (u : View) (fresh : Type 0) (k : Contents) (xs : List Op) : Type 0 where
  op : Op
  is : slice_get xs p ≡ Some op
  calling : IsCalling k.sizes w given most u (caller_in op) (view_at k.views p)
  ends : fresh → EndsAsCalled op
  past : Caller
  solo : IsSolo k.sizes p (memory_now k) (views_of k.views) u (view_at k.views p) past
  same : has_ended op ≡ false → past ≡ caller_in op
  there : p < length k.views
  count : length k.views ≡ k.sizes.passes

module _ (steps : StepLaw) (p : ℕ) (w : Wish) (given most : ℕ) (u : View) (fresh : Type 0) (k : Contents) (xs : List Op) (m : Contents) (zs : List Op) (t : IsTurnOf p k xs m zs) (s : Solo p w given most u fresh k xs) where
  before_is : s.op ≡ t.before
  before_is = same_Some s.op t.before (sym s.is ∙ t.named)

  calling_before : IsCalling k.sizes w given most u (caller_in t.before) (view_at k.views p)
  calling_before = subst (λ (a : Op). IsCalling k.sizes w given most u (caller_in a) (view_at k.views p)) before_is s.calling

  here : views_of k.views p ≡ Some (view_at k.views p)
  here = at_view k.views p s.there

  there_still : p < length m.views
  there_still = subst (λ (n : ℕ). p < n) (sym t.only.count) s.there

  -- a step was made: it was the one that was asked for
  by_last : (o : Option Made) → MakesLast k.sizes o (view_at k.views p) (view_at m.views p) → AsksLast k.sizes o (view_at k.views p) (caller_in t.before) (view_at m.views p) (caller_in t.now)
      → (view_at m.views p).steps ≡ (view_at k.views p).steps + 1 → GoesAsAsked k.sizes (view_at k.views p) (caller_in t.before) (view_at m.views p) (caller_in t.now)
  by_last (Some made) last asked one = asked
  by_last None last asked one = let same = ap (λ (v : View). v.steps) last in absurd (omega (arith, same, one))

  stepped : OneStep k.sizes p (memory_now k) (views_of k.views) (memory_now m) (views_of m.views) → IsSolo m.sizes p (memory_now m) (views_of m.views) u (view_at m.views p) (caller_in t.now)
  stepped once =
      let after = at_view m.views p there_still in
      let one = steps_count k.sizes p (view_at k.views p) (view_at m.views p) (memory_now k) (views_of k.views) (memory_now m) (views_of m.views) once here after in
      let goes = by_last (last_in t.now) t.turn.last t.turn.asked one in
      let live : has_ended s.op ≡ false = ap has_ended before_is ∙ t.goes_on in
      let solo = subst (λ (c : Caller). IsSolo k.sizes p (memory_now k) (views_of k.views) u (view_at k.views p) c) (s.same live ∙ ap caller_in before_is) s.solo in
      let sound = subst (λ (z : Sizes). IsSound z (memory_now m) (views_of m.views)) t.only.sizes t.sound in
      subst (λ (z : Sizes). IsSolo z p (memory_now m) (views_of m.views) u (view_at m.views p) (caller_in t.now)) (sym t.only.sizes)
      (steps k.sizes p (memory_now k) (views_of k.views) (memory_now m) (views_of m.views) u (view_at k.views p) (view_at m.views p) w given most (caller_in t.before) (caller_in t.now)
      calling_before solo goes (has_views k s.count) once sound here after)

  solo_by : (c : Caller) → IsSolo m.sizes p (memory_now m) (views_of m.views) u (view_at m.views p) c → (has_ended t.now ≡ false → c ≡ caller_in t.now) → Solo p w given most u fresh m zs
  solo_by c solo same = record {
    op = t.now;
    is = ap (λ (l : List Op). slice_get l p) t.actors ∙ placed_here xs p t.now (slice_get_within xs p t.before t.named);
    calling = t.turn.calling w given most u calling_before;
    ends = λ _. t.turn.ends;
    past = c;
    solo = solo;
    same = same;
    there = there_still;
    count = t.only.count ∙ (s.count ∙ ap (λ (z : Sizes). z.passes) (sym t.only.sizes));
  }

  solo_goes : Solo p w given most u fresh m zs
  solo_goes = ⊎_elim
      (λ (once : OneStep k.sizes p (memory_now k) (views_of k.views) (memory_now m) (views_of m.views)). solo_by (caller_in t.now) (stepped once) (λ _. refl))
      (λ (none : (m ≡ k) × (has_ended t.now ≡ true)). solo_by s.past
      (subst (λ (c : Contents). IsSolo c.sizes p (memory_now c) (views_of c.views) u (view_at c.views p) s.past) (sym none.0) s.solo)
      (λ live. let no : true ≡ false = sym none.1 ∙ live in absurd (cc)))
      t.step

module _ (steps : StepLaw) (p : ℕ) (w : Wish) (given most : ℕ) (u : View) (fresh : Type 0) where
  solo_turn : (t : ℕ) (k : Contents) (xs : List Op) (m : Contents) (zs : List Op) → Turn t k xs m zs → (t ≡ p) ⊎ NamesNoOp t xs → Solo p w given most u fresh k xs → Solo p w given most u fresh m zs
  solo_turn t k xs m zs (inl n) own s = subst (λ (c : Contents). Solo p w given most u fresh c zs) (sym n.1) (subst (λ (l : List Op). Solo p w given most u fresh k l) (sym n.2) s)
  solo_turn t k xs m zs (inr turn) own s =
      solo_goes steps p w given most u fresh k xs m zs (subst (λ (i : ℕ). IsTurnOf i k xs m zs) (is_of p t k xs m zs turn own) turn) s

  solo_run : (ts : List ℕ) (k : Contents) (xs : List Op) (l : Contents) (ys : List Op) → IsRunOfOps ts k xs l ys → AreTurnsOf p ts xs → Solo p w given most u fresh k xs → Solo p w given most u fresh l ys
  solo_run [] k xs l ys run all s = subst (λ (c : Contents). Solo p w given most u fresh c ys) (sym run.0) (subst (λ (a : List Op). Solo p w given most u fresh k a) (sym run.1) s)
  solo_run (t ∷ ts) k xs l ys (m, zs, turn, rest) all s =
      solo_run ts m zs l ys rest (turns_on p t ts k xs m zs turn all) (solo_turn t k xs m zs turn (all t (inl refl)) s)

not_ended : (a : Op) → outcome_in a ≡ None → EndsAsCalled a
not_ended a none o is = absurd (cc (none, is))

-- from the beginning of its call on
pub goes_alone : BeginLaw → StepLaw → RestartLaw → EndLaw → (p : ℕ) (a : Op) (w : Wish) (given most : ℕ) (ts : List ℕ) (k : Contents) (xs : List Op) (l : Contents) (ys : List Op) → IsRunOfOps ts k xs l ys
    → IsSound k.sizes (memory_now k) (views_of k.views) → IsLasting k.sizes (memory_now k) (views_of k.views) → length k.views ≡ k.sizes.passes → p < length k.views → slice_get xs p ≡ Some a
    → IsCalling k.sizes w given most (view_at k.views p) (caller_in a) (view_at k.views p) → AreTurnsOf p ts xs → IsAlone p (views_of k.views) → GoesAlone k l ys p a most
goes_alone begins steps restarts ends p a w given most ts k xs l ys run sound lasting count there is calling all alone =
    let u : View = view_at k.views p in
    let idle = began_idle k.sizes most u (caller_in a) u w (caller_in a).call calling.goes_on in
    let first : Solo p w given most u (outcome_in a ≡ None) k xs = record {
      op = a;
      is = is;
      calling = calling;
      ends = not_ended a;
      past = caller_in a;
      solo = begins k.sizes p (memory_now k) (views_of k.views) u (caller_in a) sound lasting alone (at_view k.views p there) idle;
      same = λ _. refl;
      there = there;
      count = count;
    } in
    let last = solo_run steps p w given most u (outcome_in a ≡ None) ts k xs l ys run all first in
    record {
      now = last.op;
      is = last.is;
      none_failed = last.solo.failures;
      never_anew = restarts l.sizes w given most u (caller_in last.op) (view_at l.views p) last.calling last.solo.failures;
      ends = λ fresh o at.
          ends l.sizes p (memory_now l) (views_of l.views) u (view_at l.views p) w given most (restarts_in (caller_in last.op)) last.past (caller_in last.op) o last.solo
          (last.ends fresh o at l.sizes w given most u (view_at l.views p) last.calling);
    }
