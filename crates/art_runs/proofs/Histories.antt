-- The one history after a list of turns, and that it is one of typed rows.
use Rattle.std.proofs.Common.{◌≡◌, ◌++◌, ◌+◌, ◌<◌, ◌∙◌, ℕ, List, [], ◌∷◌, Option, Some, None, length, inl, inr, refl, sym, ap, subst, arith, ⊎_elim}
use Rattle.std.proofs.lemmas.List.{length-append}
use Rattle.std.proofs.lemmas.Option.{same_Some, slice_get_within}
use Rattle.std.specs.List.{slice_get}
use Rattle.std.specs.Prelude.{⊤}
use Rattle.art_change.specs.Calls.{Get, Insert, IsAdmitted as MayWish, Look, Remove, Wish, told_by}
use Rattle.art_change.specs.declared.outcomes.Outcome.{Outcome}
use Rattle.art_change.specs.declared.outcomes.Outcome.TheVariants as outcome
use Rattle.art_key.specs.Spelling.{IsKeyOf}
use Rattle.art_key.specs.declared.columns.Column.{Column}
use Rattle.art_runs.proofs.Places.{either_member, none_between, none_there, of_beginning}
use Rattle.art_runs.proofs.Growing.{starts_then}
use Rattle.art_runs.proofs.Turns.{nobody_makes, op_makes, run_grows, run_passes}
use Rattle.art_runs.specs.Ops.{IsRunOfOps}
use Rattle.art_runs.specs.Runs.{HasOneHistory, MakesNone, MakesOnce, MakesOneAtMost}
use Rattle.art_runs.specs.Typed.{AreTyped, HasTypedHistory}
use Rattle.art_runs.specs.declared.ops.Op.{Op}
use Rattle.art_step.specs.Deeds.{IsAdmitted}
use Rattle.art_step.specs.Histories.{AreAdmitted, event, places}
use Rattle.art_step.specs.Sound.{IsOneHistory, IsSeenBy, IsSound}
use Rattle.art_step.specs.Views.{Member, Views}
use Rattle.art_step.specs.WordRows.{view_at, views_of}
use Rattle.art_step.specs.declared.deeds.Deed.{Deed}
use Rattle.art_step.specs.declared.views.Event.{Event}
use Rattle.art_step.specs.declared.views.View.{View}
use Rattle.art_typed.specs.Laws.{HistoriesAreTyped}
use Rattle.art_world.proofs.ViewLists.{at_view}
use Rattle.art_world.specs.Contents.{Contents, memory_now}

-- what always holds of a world
abbrev pub StaysSound : Contents → Type 0
StaysSound k = IsSound k.sizes (memory_now k) (views_of k.views)

-- ---- one history

pub one_history : (ts : List ℕ) (k : Contents) (xs : List Op) (l : Contents) (ys : List Op) → IsRunOfOps ts k xs l ys → length l.views ≡ length k.views → StaysSound l → HasOneHistory k l
one_history ts k xs l ys run count sound = record {
  log = sound.log;
  history = sound.history;
  before = λ p low.
      let grows = run_grows p ts k xs l ys run in
      starts_then (view_at k.views p).seen (view_at l.views p).seen sound.log grows.starts
      (sound.history.tells p (view_at l.views p) (at_view l.views p (omega (arith, low, count)))).starts;
  tree = sound.logical;
  words = sound.holder;
  rows = sound.shows;
}

module _ (A : List ℕ → Type 0) where
  -- what the pass has seen of its own events is admitted
  abbrev pub OwnAdmitted : ℕ → List Event → Type 0
  OwnAdmitted p seen = (e : Event) → Member e seen → e.pass ≡ p → IsAdmitted A e.what

  admitted_by : (log : List Event) (f : Views) → IsOneHistory log f → ((p : ℕ) (v : View) → f p ≡ Some v → OwnAdmitted p v.seen) → (e : Event) → Member e log
      → (o : Option View) → f e.pass ≡ o → IsAdmitted A e.what
  admitted_by log f one all e here None is = absurd (none_there e.pass 0 log e (one.strangers e.pass is) here refl)
  admitted_by log f one all e here (Some v) is =
      let s = one.tells e.pass v is in
      all e.pass v is e (of_beginning e.pass log v.seen s.starts.0 e s.starts.1 (s.own ∙ sym s.all) here refl) refl

  pub all_admitted : (log : List Event) (f : Views) → IsOneHistory log f → ((p : ℕ) (v : View) → f p ≡ Some v → OwnAdmitted p v.seen) → AreAdmitted A log
  all_admitted log f one all e here = admitted_by log f one all e here (f e.pass) refl

  -- ---- what was wished

  abbrev Admits : Option Deed → Type 0
  Admits None = ⊤
  Admits (Some what) = IsAdmitted A what

  told_admitted : (w : Wish) (o : Outcome) → MayWish A w → Admits (told_by w o)
  told_admitted (Insert k value) outcome.New is = is
  told_admitted (Insert k value) (outcome.Present stands) is = is
  told_admitted (Insert k value) o is = tt
  told_admitted (Remove k) (outcome.Gone had) is = is
  told_admitted (Remove k) outcome.Absent is = is
  told_admitted (Remove k) o is = tt
  told_admitted (Get k) (outcome.Found value) is = is
  told_admitted (Get k) outcome.Absent is = is
  told_admitted (Get k) o is = tt
  told_admitted (Look lo hi) (outcome.Seen seen) is = tt
  told_admitted (Look lo hi) o is = tt

module _ (A : List ℕ → Type 0) (p : ℕ) where
  own_more : (es between : List Event) (e : Event) → OwnAdmitted A p es → e.pass ≡ p → IsAdmitted A e.what → length (places p ((es ++ between) ++ e ∷ [])) ≡ length (places p es) + 1
      → OwnAdmitted A p ((es ++ between) ++ e ∷ [])
  own_more es between e all mine is one x here own =
      ⊎_elim
      (λ (early : Member x (es ++ between)). ⊎_elim
      (λ (a : Member x es). all x a own)
      (λ (b : Member x between). absurd (none_there p (0 + length es) between x (none_between p es between e mine one) b own))
      (either_member x es between early))
      (λ (last : Member x (e ∷ [])). ⊎_elim (λ (same : x ≡ e). subst (λ (y : Event). IsAdmitted A y.what) (sym same) is) (λ (none : ⊥). absurd none) last)
      (either_member x (es ++ between) (e ∷ []) here)

  module _ (ts : List ℕ) (k : Contents) (xs : List Op) (l : Contents) (ys : List Op) (low : p < length k.views) (all : OwnAdmitted A p (view_at k.views p).seen) where
    none_admitted : MakesNone ts k xs l ys p → OwnAdmitted A p (view_at l.views p).seen
    none_admitted none = subst (λ (es : List Event). OwnAdmitted A p es) (sym none.0) all

    once_admitted : (what : Deed) → IsAdmitted A what → MakesOnce ts k xs l ys p what → OwnAdmitted A p (view_at l.views p).seen
    once_admitted what is m =
        let from : View = view_at m.from.views p in
        let count = run_passes m.before k xs m.from m.waiting m.run_before in
        let inside : p < length m.from.views = omega (arith, low, count) in
        let seen : IsSeenBy m.turn.sound_before.log p from = m.turn.sound_before.history.tells p from (at_view m.from.views p inside) in
        let mine : from.pass ≡ p = seen.pass in
        let own = ap (λ (o : List ℕ). length o) (sym (ap (λ (i : ℕ). places i (view_at m.to.views p).seen) mine) ∙ m.event.all) in
        let grew = ap (λ (o : List ℕ). length o) m.event.own in
        let sum = length-append from.own (length (from.seen ++ m.event.between) ∷ []) in
        let had = ap (λ (o : List ℕ). length o) seen.all in
        let list = ap (λ (es : List Event). length (places p es)) m.event.seen in
        let now = own_more from.seen m.event.between (event from.pass what) (subst (λ (es : List Event). OwnAdmitted A p es) (sym m.none_before.0) all) mine is (omega (arith, own, grew, sum, had, list)) in
        subst (λ (es : List Event). OwnAdmitted A p es) (sym (m.none_after.0 ∙ m.event.seen)) now

    told_so : (w : Wish) (o : Outcome) (what : Deed) → MayWish A w → told_by w o ≡ Some what → IsAdmitted A what
    told_so w o what may is = subst (Admits A) is (told_admitted A w o may)

    most_admitted : (w : Wish) → MayWish A w → MakesOneAtMost ts k xs l ys p w → OwnAdmitted A p (view_at l.views p).seen
    most_admitted w may (inl none) = none_admitted none
    most_admitted w may (inr made) = once_admitted made.1 (told_so w made.0 made.1 may made.2) made.3

-- ---- typed rows

module _ (schema : List Column) (ts : List ℕ) (k : Contents) (xs : List Op) (l : Contents) (ys : List Op) (run : IsRunOfOps ts k xs l ys) (typed : AreTyped schema k xs) where
  pub own_typed : (p : ℕ) → p < length k.views → (o : Option Op) → slice_get xs p ≡ o → OwnAdmitted (IsKeyOf schema) p (view_at l.views p).seen
  own_typed p low None is =
      none_admitted (IsKeyOf schema) p ts k xs l ys low (λ e here own. typed.seen p low e here) (nobody_makes p ts k xs l ys run is)
  own_typed p low (Some a) is =
      let t = typed.ops p a is in
      most_admitted (IsKeyOf schema) p ts k xs l ys low (λ e here own. typed.seen p low e here) t.wish t.typed
      (op_makes p ts k xs l ys run a t.wish t.given t.turns t.began is t.calling)

  pub typed_history : length l.views ≡ length k.views → StaysSound l → HistoriesAreTyped → HasTypedHistory schema k l
  typed_history count sound law =
      let one = one_history ts k xs l ys run count sound in
      let keys = all_admitted (IsKeyOf schema) one.log (views_of l.views) one.history (λ p v is.
      let low = slice_get_within l.views p v is in
      let same : view_at l.views p ≡ v = same_Some (view_at l.views p) v (sym (at_view l.views p low) ∙ is) in
      subst (λ (w : View). OwnAdmitted (IsKeyOf schema) p w.seen) same (own_typed p (omega (arith, low, count)) (slice_get xs p) refl)) in
      let rows = law schema one.log one.history.legal keys in
      record { one = one; keys = keys; legal = rows.0; rows = rows.1 }
