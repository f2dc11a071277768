-- A list of turns, as the op of one pass meets it: its call goes on, and it makes its event at one turn, or makes none.
use Rattle.std.proofs.Common.{◌≡◌, ◌≢◌, ◌⊎◌, ◌++◌, ◌+◌, ◌∙◌, ℕ, List, [], ◌∷◌, Option, Some, None, length, inl, inr, refl, sym, ap, subst, arith, ⊎_elim}
use Rattle.std.proofs.lemmas.Bool.{cases_eq}
use Rattle.std.proofs.lemmas.Option.{same_Some, slice_get_within}
use Rattle.std.specs.FinMap.{empty}
use Rattle.std.specs.List.{slice_get}
use Rattle.art_change.specs.Calls.{IsCalling, Wish}
use Rattle.art_runs.proofs.Growing.{Grows, StepMade, grows_most, grows_none, grows_then, made_length, none_then, same_none, step_grows, step_made}
use Rattle.art_runs.proofs.Told.{HasTold, calling_tells}
use Rattle.art_runs.specs.Ops.{EndsAsCalled, Goes, IsRunOfOps, IsTurnOf, IsUnderWay, caller_in, has_ended, last_in, outcome_in}
use Rattle.art_runs.specs.Runs.{Makes, MakesNone, MakesOnce, MakesOneAtMost}
use Rattle.art_runs.specs.declared.ops.Op.{Op}
use Rattle.art_step.specs.Events.{MakesEvent, SeesEvent}
use Rattle.art_step.specs.Histories.{IsAnswered, IsLegal, IsLegalFrom, becomes, event, run}
use Rattle.art_step.specs.WordRows.{view_at}
use Rattle.art_step.specs.declared.deeds.Deed.{Deed}
use Rattle.art_step.specs.declared.views.Event.{Event}
use Rattle.art_step.specs.declared.views.Sizes.{Sizes}
use Rattle.art_step.specs.declared.views.View.{View}
use Rattle.art_tree.specs.Rows.{ByteMap}
use Rattle.art_world.proofs.TakenTurns.{placed_here, placed_there, run_keeps, turn_passes}
use Rattle.art_world.specs.Contents.{Contents}
use Rattle.art_world.specs.Turns.{IsTurn}

-- ---- one turn

abbrev Turn : ℕ → Contents → List Op → Contents → List Op → Type 0
Turn t k xs m zs = IsTurn (λ a z v. IsUnderWay z a v) has_ended Goes t k xs m zs

-- the op of the pass p, and its view, stay
pub record Stays (p : ℕ) (k : Contents) (xs : List Op) (m : Contents) (zs : List Op) : Type 0 where
  pub sizes : m.sizes ≡ k.sizes
  pub view : view_at m.views p ≡ view_at k.views p
  pub op : slice_get zs p ≡ slice_get xs p

turned_by : (p t : ℕ) (k : Contents) (xs : List Op) (m : Contents) (zs : List Op) → IsTurnOf t k xs m zs → (t ≡ p) ⊎ (t ≢ p) → Stays p k xs m zs ⊎ ((t ≡ p) × IsTurnOf p k xs m zs)
turned_by p t k xs m zs turn (inl same) = inr (same, subst (λ (i : ℕ). IsTurnOf i k xs m zs) same turn)
turned_by p t k xs m zs turn (inr other) = inl record {
  sizes = turn.only.sizes;
  view = turn.only.others p (λ e. other (sym e));
  op = ap (λ (l : List Op). slice_get l p) turn.actors ∙ placed_there xs t p turn.now (λ e. other (sym e));
}

-- it stays, or the turn is one of its own
turned : (p t : ℕ) (k : Contents) (xs : List Op) (m : Contents) (zs : List Op) → Turn t k xs m zs → Stays p k xs m zs ⊎ ((t ≡ p) × IsTurnOf p k xs m zs)
turned p t k xs m zs (inl n) = inl record {
  sizes = ap (λ (c : Contents). c.sizes) n.1;
  view = ap (λ (c : Contents). view_at c.views p) n.1;
  op = ap (λ (l : List Op). slice_get l p) n.2;
}
turned p t k xs m zs (inr turn) = turned_by p t k xs m zs turn (cases_eq t p)

-- what turns that leave the op keep, and its own turns keep, a run keeps
pub op_keeps : (p : ℕ) (P : Contents → List Op → Type 0)
    → ((k : Contents) (xs : List Op) (m : Contents) (zs : List Op) → Stays p k xs m zs → P k xs → P m zs)
    → ((k : Contents) (xs : List Op) (m : Contents) (zs : List Op) → IsTurnOf p k xs m zs → P k xs → P m zs)
    → (ts : List ℕ) (k : Contents) (xs : List Op) (l : Contents) (ys : List Op) → IsRunOfOps ts k xs l ys → P k xs → P l ys
op_keeps p P stay go ts k xs l ys run at =
    run_keeps (λ a z v. IsUnderWay z a v) has_ended Goes P
    (λ t k xs m zs turn at. ⊎_elim (λ (s : Stays p k xs m zs). stay k xs m zs s at) (λ (g : (t ≡ p) × IsTurnOf p k xs m zs). go k xs m zs g.1 at) (turned p t k xs m zs turn))
    ts k xs l ys run at

turn_made : (p : ℕ) (k : Contents) (xs : List Op) (m : Contents) (zs : List Op) → IsTurnOf p k xs m zs → StepMade (view_at k.views p) (view_at m.views p)
turn_made p k xs m zs turn = step_made k.sizes (view_at k.views p) (view_at m.views p) (last_in turn.now) turn.turn.last

-- ---- over a list of turns

-- there are as many passes as before
pub run_passes : (ts : List ℕ) (k : Contents) (xs : List Op) (l : Contents) (ys : List Op) → IsRunOfOps ts k xs l ys → length l.views ≡ length k.views
run_passes ts k xs l ys run =
    run_keeps (λ a z v. IsUnderWay z a v) has_ended Goes (λ m zs. length m.views ≡ length k.views)
    (λ t b xs m zs turn at. turn_passes (λ a z v. IsUnderWay z a v) has_ended Goes t b xs m zs turn ∙ at) ts k xs l ys run refl

-- the view of a pass grows
pub run_grows : (p : ℕ) (ts : List ℕ) (k : Contents) (xs : List Op) (l : Contents) (ys : List Op) → IsRunOfOps ts k xs l ys → Grows (view_at k.views p) (view_at l.views p)
run_grows p ts k xs l ys run =
    let v : View = view_at k.views p in
    op_keeps p (λ m zs. Grows v (view_at m.views p))
    (λ k xs m zs s at. subst (λ (w : View). Grows v w) (sym s.view) at)
    (λ k xs m zs turn at. grows_then v (view_at k.views p) (view_at m.views p) at (step_grows (view_at k.views p) (view_at m.views p) (turn_made p k xs m zs turn)))
    ts k xs l ys run (grows_none v v (refl, refl))

-- the op goes on for what it was begun for; if it takes turns, it ends as its call did
pub record Carried (p : ℕ) (w : Wish) (given most : ℕ) (u : View) (fresh : Type 0) (k : Contents) (xs : List Op) : Type 0 where
  pub op : Op
  pub is : slice_get xs p ≡ Some op
  pub calling : IsCalling k.sizes w given most u (caller_in op) (view_at k.views p)
  pub ends : fresh → EndsAsCalled op

module _ (p : ℕ) (w : Wish) (given most : ℕ) (u : View) (fresh : Type 0) (k : Contents) (xs : List Op) (m : Contents) (zs : List Op) where
  carried_stays : Stays p k xs m zs → Carried p w given most u fresh k xs → Carried p w given most u fresh m zs
  carried_stays s c = record {
    op = c.op;
    is = s.op ∙ c.is;
    calling = subst (λ (v : View). IsCalling m.sizes w given most u (caller_in c.op) v) (sym s.view)
        (subst (λ (z : Sizes). IsCalling z w given most u (caller_in c.op) (view_at k.views p)) (sym s.sizes) c.calling);
    ends = c.ends;
  }

  carried_goes : IsTurnOf p k xs m zs → Carried p w given most u fresh k xs → Carried p w given most u fresh m zs
  carried_goes t c =
      let same : c.op ≡ t.before = same_Some c.op t.before (sym c.is ∙ t.named) in
      record {
        op = t.now;
        is = ap (λ (l : List Op). slice_get l p) t.actors ∙ placed_here xs p t.now (slice_get_within xs p t.before t.named);
        calling = t.turn.calling w given most u (subst (λ (a : Op). IsCalling k.sizes w given most u (caller_in a) (view_at k.views p)) same c.calling);
        ends = λ _. t.turn.ends;
      }

no_outcome : (a : Op) → outcome_in a ≡ None → EndsAsCalled a
no_outcome a none o is = absurd (cc (none, is))

pub carried : (p : ℕ) (a : Op) (w : Wish) (given most : ℕ) (u : View) (ts : List ℕ) (k : Contents) (xs : List Op) (l : Contents) (ys : List Op) → IsRunOfOps ts k xs l ys → slice_get xs p ≡ Some a
    → IsCalling k.sizes w given most u (caller_in a) (view_at k.views p) → Carried p w given most u (outcome_in a ≡ None) l ys
carried p a w given most u ts k xs l ys run is calling =
    op_keeps p (λ m zs. Carried p w given most u (outcome_in a ≡ None) m zs)
    (λ k xs m zs s c. carried_stays p w given most u (outcome_in a ≡ None) k xs m zs s c)
    (λ k xs m zs t c. carried_goes p w given most u (outcome_in a ≡ None) k xs m zs t c)
    ts k xs l ys run record { op = a; is = is; calling = calling; ends = no_outcome a }

-- ---- the turn at which the first event is made

record First (ts : List ℕ) (k : Contents) (xs : List Op) (l : Contents) (ys : List Op) (p : ℕ) : Type 0 where
  what : Deed
  before : List ℕ
  after : List ℕ
  list : ts ≡ before ++ p ∷ after
  from : Contents
  waiting : List Op
  to : Contents
  moved : List Op
  run_before : IsRunOfOps before k xs from waiting
  turn : IsTurnOf p from waiting to moved
  run_after : IsRunOfOps after to moved l ys
  none_before : SeesEvent (view_at k.views p) (view_at from.views p) None
  step : (view_at to.views p).steps ≡ (view_at from.views p).steps + 1
  event : MakesEvent (view_at from.views p) (view_at to.views p) what

module _ (p t : ℕ) (ts : List ℕ) (k : Contents) (xs : List Op) (m : Contents) (zs : List Op) (l : Contents) (ys : List Op) (turn : Turn t k xs m zs) where
  abbrev Later : Type 0
  Later = SeesEvent (view_at m.views p) (view_at l.views p) None ⊎ First ts m zs l ys p

  abbrev Now : Type 0
  Now = SeesEvent (view_at k.views p) (view_at l.views p) None ⊎ First (t ∷ ts) k xs l ys p

  later_none : SeesEvent (view_at k.views p) (view_at m.views p) None → Later → Now
  later_none none (inl more) = inl (none_then (view_at k.views p) (view_at m.views p) (view_at l.views p) none more)
  later_none none (inr f) = inr record {
    what = f.what;
    before = t ∷ f.before;
    after = f.after;
    list = ap (λ (is : List ℕ). t ∷ is) f.list;
    from = f.from;
    waiting = f.waiting;
    to = f.to;
    moved = f.moved;
    run_before = (m, zs, turn, f.run_before);
    turn = f.turn;
    run_after = f.run_after;
    none_before = none_then (view_at k.views p) (view_at m.views p) (view_at f.from.views p) none f.none_before;
    step = f.step;
    event = f.event;
  }

  made_now : t ≡ p → IsTurnOf p k xs m zs → IsRunOfOps ts m zs l ys → StepMade (view_at k.views p) (view_at m.views p) → Later → Now
  made_now same own rest (inl none) later = later_none none later
  made_now same own rest (inr made) later = inr record {
    what = made.0;
    before = [];
    after = ts;
    list = ap (λ (i : ℕ). i ∷ ts) same;
    from = k;
    waiting = xs;
    to = m;
    moved = zs;
    run_before = (refl, refl);
    turn = own;
    run_after = rest;
    none_before = (refl, refl);
    step = made.2;
    event = made.1;
  }

  first_by : IsRunOfOps ts m zs l ys → Stays p k xs m zs ⊎ ((t ≡ p) × IsTurnOf p k xs m zs) → Later → Now
  first_by rest (inl stays) later = later_none (same_none (view_at k.views p) (view_at m.views p) stays.view) later
  first_by rest (inr own) later = made_now own.0 own.1 rest (turn_made p k xs m zs own.1) later

first_event : (p : ℕ) (ts : List ℕ) (k : Contents) (xs : List Op) (l : Contents) (ys : List Op) → IsRunOfOps ts k xs l ys → SeesEvent (view_at k.views p) (view_at l.views p) None ⊎ First ts k xs l ys p
first_event p [] k xs l ys run = inl (same_none (view_at k.views p) (view_at l.views p) (ap (λ (c : Contents). view_at c.views p) run.0))
first_event p (t ∷ ts) k xs l ys (m, zs, turn, rest) = first_by p t ts k xs m zs l ys turn rest (turned p t k xs m zs turn) (first_event p ts m zs l ys rest)

-- ---- what it says

last_answered : (s : ByteMap) (es : List Event) (e : Event) → IsLegalFrom s (es ++ e ∷ []) → IsAnswered (run s es) e.what
last_answered s [] e legal = legal.0
last_answered s (x ∷ xs) e legal = last_answered (becomes s x.what) xs e legal.1

-- the last of a list
last_or : Event → List Event → Event
last_or d [] = d
last_or d (x ∷ xs) = last_or x xs

last_is : (d : Event) (xs : List Event) (e : Event) → last_or d (xs ++ e ∷ []) ≡ e
unfolding last_or
last_is d [] e = refl
last_is d (x ∷ xs) e = last_is x xs e

last_same : (xs ys : List Event) (e f : Event) → xs ++ e ∷ [] ≡ ys ++ f ∷ [] → e ≡ f
last_same xs ys e f same = sym (last_is e xs e) ∙ (ap (last_or e) same ∙ last_is e ys f)

-- ---- the one event

module _ (p : ℕ) (ts : List ℕ) (k : Contents) (xs : List Op) (l : Contents) (ys : List Op) (run : IsRunOfOps ts k xs l ys) where
  grows : Grows (view_at k.views p) (view_at l.views p)
  grows = run_grows p ts k xs l ys run

  once : (f : First ts k xs l ys p) → SeesEvent (view_at f.to.views p) (view_at l.views p) None → MakesOnce ts k xs l ys p f.what
  once f none = record {
    before = f.before;
    after = f.after;
    list = f.list;
    from = f.from;
    waiting = f.waiting;
    to = f.to;
    moved = f.moved;
    run_before = f.run_before;
    turn = f.turn;
    run_after = f.run_after;
    none_before = f.none_before;
    step = f.step;
    event = f.event;
    answered = last_answered empty ((view_at f.from.views p).seen ++ f.event.between) (event (view_at f.from.views p).pass f.what) (subst IsLegal f.event.seen f.event.legal);
    none_after = none;
  }

  module _ (u : View) (own : (view_at k.views p).own ≡ u.own) where
    -- since the view u it had told nothing, and now it has just this event: so the first is this, and the last
    once_by : (what : Deed) → MakesEvent u (view_at l.views p) what → SeesEvent (view_at k.views p) (view_at l.views p) None ⊎ First ts k xs l ys p → MakesOnce ts k xs l ys p what
    once_by what made (inl silent) =
        let all = made_length u (view_at l.views p) what made in
        let first = ap (λ (o : List ℕ). length o) own in
        let last = ap (λ (o : List ℕ). length o) silent.1 in
        absurd (omega (arith, all, first, last))
    once_by what made (inr f) =
        let all = made_length u (view_at l.views p) what made in
        let one = made_length (view_at f.from.views p) (view_at f.to.views p) f.what f.event in
        let first = ap (λ (o : List ℕ). length o) own in
        let before = ap (λ (o : List ℕ). length o) f.none_before.1 in
        let after = grows_most (view_at f.to.views p) (view_at l.views p) (run_grows p f.after f.to f.moved l ys f.run_after) (omega (arith, all, one, first, before)) in
        let same : event (view_at f.from.views p).pass f.what ≡ event u.pass what =
        last_same ((view_at f.from.views p).seen ++ f.event.between) (u.seen ++ made.between) (event (view_at f.from.views p).pass f.what) (event u.pass what)
        (sym f.event.seen ∙ (sym after.0 ∙ made.seen)) in
        subst (λ (d : Deed). MakesOnce ts k xs l ys p d) (ap (λ (e : Event). e.what) same) (once f after)

    makes_once : (what : Deed) → MakesEvent u (view_at l.views p) what → MakesOnce ts k xs l ys p what
    makes_once what made = once_by what made (first_event p ts k xs l ys run)

    makes_none : (view_at l.views p).own ≡ u.own → MakesNone ts k xs l ys p
    makes_none none =
        let first = ap (λ (o : List ℕ). length o) own in
        let last = ap (λ (o : List ℕ). length o) none in
        grows_most (view_at k.views p) (view_at l.views p) grows (omega (arith, first, last))

    one_at_most : (w : Wish) → HasTold w u (view_at l.views p) → MakesOneAtMost ts k xs l ys p w
    one_at_most w (inl none) = inl (makes_none none)
    one_at_most w (inr now) = inr (now.0, now.1, now.2, makes_once now.1 now.3)

    pub makes_so : (d : Option Deed) → SeesEvent u (view_at l.views p) d → Makes ts k xs l ys p d
    makes_so None sees = makes_none sees.1
    makes_so (Some what) sees = makes_once what sees

  -- where it had told its event before, it tells nothing more
  pub told_before : (w : Wish) (u : View) (what : Deed) → MakesEvent u (view_at k.views p) what → HasTold w u (view_at l.views p) → MakesNone ts k xs l ys p
  told_before w u what made (inl none) =
      let first = made_length u (view_at k.views p) what made in
      let last = ap (λ (o : List ℕ). length o) none in
      grows_most (view_at k.views p) (view_at l.views p) grows (omega (arith, first, last))
  told_before w u what made (inr now) =
      let first = made_length u (view_at k.views p) what made in
      let last = made_length u (view_at l.views p) now.1 now.3 in
      grows_most (view_at k.views p) (view_at l.views p) grows (omega (arith, first, last))

  by_told : (w : Wish) (u : View) → HasTold w u (view_at k.views p) → HasTold w u (view_at l.views p) → MakesOneAtMost ts k xs l ys p w
  by_told w u (inl own) tells = one_at_most u own w tells
  by_told w u (inr before) tells = inl (told_before w u before.1 before.3 tells)

  -- the pass of an op that is there makes one event at most, of an answer to its wish
  pub op_makes : (a : Op) (w : Wish) (given most : ℕ) (u : View) → slice_get xs p ≡ Some a → IsCalling k.sizes w given most u (caller_in a) (view_at k.views p) → MakesOneAtMost ts k xs l ys p w
  op_makes a w given most u is calling =
      let c = carried p a w given most u ts k xs l ys run is calling in
      by_told w u (calling_tells k.sizes w given most u (caller_in a) (view_at k.views p) calling) (calling_tells l.sizes w given most u (caller_in c.op) (view_at l.views p) c.calling)

  -- where there is no op, the pass makes none
  pub nobody_makes : slice_get xs p ≡ None → MakesNone ts k xs l ys p
  nobody_makes none =
      let v : View = view_at k.views p in
      let stays = op_keeps p (λ m zs. (slice_get zs p ≡ None) × (view_at m.views p ≡ v))
      (λ k xs m zs s at. (s.op ∙ at.0, s.view ∙ at.1))
      (λ k xs m zs t at. absurd (cc (t.named, at.0)))
      ts k xs l ys run (none, refl) in
      same_none v (view_at l.views p) stays.1
