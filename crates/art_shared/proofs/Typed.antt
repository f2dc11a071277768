-- All commands of the history keep having keys of the schema: a step adds the event of its pass alone.
use Rattle.art_key.specs.Spelling.{IsKeyOf}
use Rattle.std.proofs.Common.{◌≡◌, ◌≢◌, ◌⊎◌, ℕ, ◌%◌, ◌==◌, List, [], ◌∷◌, ◌++◌, length, inl, inr, ⊎_elim, sym, refl, ap, ◌∙◌, subst, arith, length-append}
use Rattle.std.proofs.lemmas.Bool.{cases_eq, cond_both}
use Rattle.std.proofs.lemmas.Option.{same_Some}
use Rattle.std.specs.Option.{option_map}
use Rattle.std.specs.Prelude.{IfSome, None, Option, Some}
use Rattle.art_cell.specs.declared.cells.Cell.{Cell}
use Rattle.art_cell.specs.declared.cells.Pool.{Pool}
use Rattle.art_key.specs.declared.columns.Column.{Column}
use Rattle.art_step.specs.declared.deeds.Deed.{Deed}
use Rattle.art_step.specs.declared.views.Event.{Event}
use Rattle.art_step.specs.declared.views.Sizes.{Sizes}
use Rattle.art_step.specs.declared.views.View.{View}
use Rattle.art_step.specs.Deeds.{IsAdmitted}
use Rattle.art_step.specs.Events.{MakesEvent, SeesEvent}
use Rattle.art_step.specs.Histories.{AreAdmitted, StartsWith, event}
use Rattle.art_step.specs.Sound.{IsSound}
use Rattle.art_step.specs.Steps.{IsAdvance, IsAnchor, IsBegin, IsChanged, IsClaim, IsCommit, IsEpoch, IsFreed, IsGive, IsPin, IsRead, IsReadLeaf, IsRelease, IsTake, IsUnchanged, IsUpgrade, IsWatch, IsWrite, IsWriteLeaf, OfAKind, OneStep}
use Rattle.art_step.specs.Steps.Begin as begin
use Rattle.art_step.specs.Steps.Check as check
use Rattle.art_step.specs.Steps.Pin as pin
use Rattle.art_step.specs.Steps.Take as take_free
use Rattle.art_step.specs.Views.{Member, Memory, SetsView, Views, bit_of}
use Rattle.art_step.proofs.Determined.{history_law, whole}
use Rattle.art_step.proofs.SetsView.{member_append, member_front}
use Rattle.art_shared.specs.Turns.{AddsTyped}
use Rattle.art_tree.specs.Heaps.{Cells}

-- ---- histories

last_same : (xs ys : List Event) (a b : Event) → xs ++ a ∷ [] ≡ ys ++ b ∷ [] → a ≡ b
last_same [] [] a b e = cc
last_same [] (y ∷ ys) a b e = absurd (omega (arith, ap length e, length-append ys (b ∷ [])))
last_same (x ∷ xs) [] a b e = absurd (omega (arith, ap length e, length-append xs (a ∷ [])))
last_same (x ∷ xs) (y ∷ ys) a b e = last_same xs ys a b (cc)

pub typed_start : (schema : List Column) (log seen : List Event) → StartsWith log seen → AreAdmitted (IsKeyOf schema) log → AreAdmitted (IsKeyOf schema) seen
typed_start schema log seen s t = λ e i. t e (subst (Member e) (sym s.1) (member_front e seen s.0 i))

typed_more : (schema : List Column) (log : List Event) (e : Event) → AreAdmitted (IsKeyOf schema) log → IsAdmitted (IsKeyOf schema) e.what → AreAdmitted (IsKeyOf schema) (log ++ e ∷ [])
typed_more schema log e t a = λ x i. ⊎_elim
    (λ (j : Member x log). t x j)
    (λ (j : Member x (e ∷ [])). ⊎_elim (λ (is : x ≡ e). subst (λ (y : Event). IsAdmitted (IsKeyOf schema) y.what) (sym is) a) (λ (none : Member x []). absurd none) j)
    (member_append x log (e ∷ []) i)

-- ---- what the pass has seen, after a step of each kind

-- no event, and none of its own
abbrev pub SeesNoMore : View → View → Type 0
SeesNoMore v w = (w.seen ≡ v.seen) × (w.own ≡ v.own)

pub begun_sees : (z : Sizes) (v : View) (c : Cell) (x : ℕ) → SeesNoMore v (begin.view_after z v c x)
begun_sees z v c x = cond_both (x % 4 == 0) _ _ (SeesNoMore v) (λ e. (refl, refl)) (λ e. (refl, refl))

pub taken_sees : (v : View) (pool : Pool) (i : ℕ) (bit : Option ℕ) (x : ℕ) (ws : List ℕ) → SeesNoMore v (take_free.view_after v pool i bit x ws)
taken_sees v pool i None x ws = (refl, refl)
taken_sees v pool i (Some k) x ws = cond_both (bit_of x k == 1) _ _ (SeesNoMore v) (λ e. (refl, refl)) (λ e. (refl, refl))

pub pinned_sees : (v : View) (x : ℕ) → SeesNoMore v (pin.view_after v x)
pinned_sees v x = cond_both (x == 0) _ _ (SeesNoMore v) (λ e. (refl, refl)) (λ e. (refl, refl))

-- all of the history and an event of its own
abbrev SeesOwn : View → List Event → View → Type 0
SeesOwn v log w = (e : Event) × (w.seen ≡ log ++ e ∷ []) × (w.own ≡ v.own ++ length log ∷ [])

-- what it had seen, all of the history, or that and an event of its own
abbrev SeesSo : View → List Event → View → Type 0
SeesSo v log w = (w.seen ≡ v.seen) ⊎ ((w.seen ≡ log) ⊎ SeesOwn v log w)

event_sees : (v u : View) (log : List Event) (o : Option Deed) → u.seen ≡ v.seen → u.own ≡ v.own → SeesSo v log (check.with_event u log o)
event_sees v u log None same own = inl same
event_sees v u log (Some what) same own = inr (inr (event u.pass what, refl, ap (λ (l : List ℕ). l ++ length log ∷ []) own))

module _ (z : Sizes) (p : ℕ) (v : View) (m : Memory) (f : Views) (m' : Memory) (g : Views) (log : List Event) (s : Cells) (w : View) (is : g p ≡ Some w) where
  sees : (u : View) → SetsView f p u g → SeesSo v log u → SeesSo v log w
  sees u t h = subst (SeesSo v log) (same_Some u w (sym t.here ∙ is)) h

  kind_sees : OfAKind z p v m f m' g log s → SeesSo v log w
  kind_sees (IsBegin k) = sees _ k.view (inl (begun_sees z v k.cell (m.version k.cell)).0)
  kind_sees (IsRead k) = sees _ k.view (inl refl)
  kind_sees (IsReadLeaf k) = sees _ k.view (inl refl)
  kind_sees (IsUnchanged k) = sees _ k.view (event_sees v (check.view_unchanged v k.stamp k.paths) log k.event refl refl)
  kind_sees (IsChanged k) = sees _ k.view (inl refl)
  kind_sees (IsUpgrade k) = sees _ k.view (inl refl)
  kind_sees (IsClaim k) = sees _ k.view (inl refl)
  kind_sees (IsCommit k) = sees _ k.view (inr (inr (event v.pass k.what, refl, refl)))
  kind_sees (IsRelease k) = sees _ k.view (inl refl)
  kind_sees (IsWrite k) = sees _ k.view (inl refl)
  kind_sees (IsWriteLeaf k) = sees _ k.view (inl refl)
  kind_sees (IsTake k) = sees _ k.view (inl (taken_sees v k.pool k.index k.bit (m.free_word k.pool k.index) k.copy).0)
  kind_sees (IsGive k) = sees _ k.view (inl refl)
  kind_sees (IsFreed k) = sees _ k.view (inl refl)
  kind_sees (IsEpoch k) = sees _ k.view (inl refl)
  kind_sees (IsPin k) = sees _ k.view (inl (pinned_sees v k.word).0)
  kind_sees (IsAdvance k) = sees _ k.view (inl refl)
  kind_sees (IsWatch k) = sees _ k.view (inl refl)
  kind_sees (IsAnchor k) = sees _ k.view (inr (inl refl))

-- ---- a step

module _ (schema : List Column) (v w : View) (log : List Event) (t : AreAdmitted (IsKeyOf schema) log) (starts : StartsWith log v.seen) (adds : AddsTyped schema v w) where
  own_typed : SeesOwn v log w → AreAdmitted (IsKeyOf schema) w.seen
  own_typed k = ⊎_elim
      (λ (none : w.own ≡ v.own). absurd (omega (arith, ap length (sym none ∙ k.2), length-append v.own (length log ∷ []))))
      (λ (one : (front : List Event) × (e : Event) × (w.seen ≡ front ++ e ∷ []) × IsAdmitted (IsKeyOf schema) e.what).
      let same : one.1 ≡ k.0 = last_same one.0 log one.1 k.0 (sym one.2 ∙ k.1) in
      subst (AreAdmitted (IsKeyOf schema)) (sym k.1) (typed_more schema log k.0 t (subst (λ (y : Event). IsAdmitted (IsKeyOf schema) y.what) same one.3)))
      adds

  seen_typed : SeesSo v log w → AreAdmitted (IsKeyOf schema) w.seen
  seen_typed k = ⊎_elim
      (λ (same : w.seen ≡ v.seen). subst (AreAdmitted (IsKeyOf schema)) (sym same) (typed_start schema log v.seen starts t))
      (λ (more : (w.seen ≡ log) ⊎ SeesOwn v log w). ⊎_elim (λ (all : w.seen ≡ log). subst (AreAdmitted (IsKeyOf schema)) (sym all) t) own_typed more)
      k

pub still_typed : (schema : List Column) (z : Sizes) (p : ℕ) (v w : View) (m : Memory) (f : Views) (m' : Memory) (g : Views) → OneStep z p m f m' g → (r : IsSound z m f) (r' : IsSound z m' g) → f p ≡ Some v → SetsView f p w g
    → AreAdmitted (IsKeyOf schema) r.log → AddsTyped schema v w → AreAdmitted (IsKeyOf schema) r'.log
still_typed schema z p v w m f m' g t r r' at set typed adds =
    let same : t.view ≡ v = same_Some t.view v (sym t.before ∙ at) in
    let log : t.sound.log ≡ r.log = history_law z m f t.sound r in
    let mine : AreAdmitted (IsKeyOf schema) w.seen = seen_typed schema t.view w t.sound.log (subst (AreAdmitted (IsKeyOf schema)) (sym log) typed) (t.sound.history.tells p t.view t.before).starts (subst (λ (u : View). AddsTyped schema u w) (sym same) adds)
    (kind_sees z p t.view m f m' g t.sound.log t.sound.logical w set.here t.kind) in
    ⊎_elim
    (λ (none : r'.log ≡ []). subst (AreAdmitted (IsKeyOf schema)) (sym none) (λ e i. absurd i))
    (λ (o : (q : ℕ) × (u : View) × (g q ≡ Some u) × (u.seen ≡ r'.log)). subst (AreAdmitted (IsKeyOf schema)) o.3 (⊎_elim
    (λ (e : o.0 ≡ p). subst (λ (u : View). AreAdmitted (IsKeyOf schema) u.seen) (same_Some w o.1 (sym set.here ∙ (ap g (sym e) ∙ o.2))) mine)
    (λ (other : o.0 ≢ p). typed_start schema r.log o.1.seen (r.history.tells o.0 o.1 (sym (set.there o.0 other) ∙ o.2)).starts typed)
    (cases_eq o.0 p)))
    (whole g r'.log r'.history)

-- ---- events that are shown

-- the pass saw no more
pub quiet : (schema : List Column) (v w : View) → w.own ≡ v.own → AddsTyped schema v w
quiet schema v w same = inl same

-- it made an event
pub made_typed : (schema : List Column) (v w : View) (what : Deed) → MakesEvent v w what → IsAdmitted (IsKeyOf schema) what → AddsTyped schema v w
made_typed schema v w what k a = inr (v.seen ++ k.between, event v.pass what, k.seen, a)

-- it made this event, or none
pub told_typed : (schema : List Column) (v w : View) (o : Option Deed) → SeesEvent v w o → ((what : Deed) → o ≡ Some what → IsAdmitted (IsKeyOf schema) what) → AddsTyped schema v w
told_typed schema v w None k a = inl k.1
told_typed schema v w (Some what) k a = made_typed schema v w what k (a what refl)

-- a deed that is asked for, if one is
pub asked_typed : {A : Type 0} (schema : List Column) (deed : A → Deed) (o : Option A) → IfSome o (λ d. IsAdmitted (IsKeyOf schema) (deed d)) → (what : Deed) → option_map deed o ≡ Some what → IsAdmitted (IsKeyOf schema) what
asked_typed schema deed None a what e = absurd (cc)
asked_typed schema deed (Some d) a what e = subst (IsAdmitted (IsKeyOf schema)) (same_Some (deed d) what e) a
