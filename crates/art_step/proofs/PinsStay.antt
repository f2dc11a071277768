-- A place in limbo was there before the step with its number and its pins, or holds the pins that stood just before it.
use Rattle.std.proofs.Common.{◌≡◌, ◌⊎◌, ℕ, ◌%◌, ◌==◌, List, Some, inl, inr, refl, sym, ap, ◌∙◌, subst, ⊎_elim}
use Rattle.std.proofs.lemmas.Bool.{cond_both}
use Rattle.std.proofs.lemmas.Option.{same_Some}
use Rattle.std.specs.Prelude.{Option, None}
use Rattle.art_cell.specs.declared.cells.Cell.{Cell}
use Rattle.art_cell.specs.declared.cells.Pool.{Pool}
use Rattle.art_step.specs.declared.deeds.Deed.{Deed}
use Rattle.art_step.specs.declared.views.Event.{Event}
use Rattle.art_step.specs.declared.views.Retired.{Retired}
use Rattle.art_step.specs.declared.views.Sizes.{Sizes}
use Rattle.art_step.specs.declared.views.View.{View}
use Rattle.art_step.specs.Determined.{MarkedLaw, PinsLaw, WasInLimbo}
use Rattle.art_step.specs.Sound.{IsSound}
use Rattle.art_step.specs.Steps.{OfAKind, IsBegin, IsRead, IsReadLeaf, IsUnchanged, IsChanged, IsUpgrade, IsClaim, IsCommit, IsRelease, IsWrite, IsWriteLeaf, IsTake, IsGive, IsFreed, IsEpoch, IsPin, IsAdvance, IsWatch, IsAnchor}
use Rattle.art_step.specs.Steps.Begin as begin
use Rattle.art_step.specs.Steps.Check as check
use Rattle.art_step.specs.Steps.Commit.{AreStanding, all_retired}
use Rattle.art_step.specs.Steps.Epoch as epoch
use Rattle.art_step.specs.Steps.Pin as pin
use Rattle.art_step.specs.Steps.Take as take_free
use Rattle.art_step.specs.Steps.Watch as watch
use Rattle.art_step.specs.Views.{Member, Memory, Views, SetsView, bit_of}
use Rattle.art_step.proofs.Gathered.{key_member}
use Rattle.art_step.proofs.SetsView.{member_append}
use Rattle.art_step.proofs.StepCommits.{retired_of}

begun_same : (z : Sizes) (v : View) (c : Cell) (x : ℕ) → (begin.view_after z v c x).limbo ≡ v.limbo
begun_same z v c x = cond_both (x % 4 == 0) _ _ (λ (w : View). w.limbo ≡ v.limbo) (λ e. refl) (λ e. refl)

event_same : (u : View) (log : List Event) (o : Option Deed) → (check.with_event u log o).limbo ≡ u.limbo
event_same u log None = refl
event_same u log (Some what) = refl

taken_same : (v : View) (pool : Pool) (i : ℕ) (bit : Option ℕ) (x : ℕ) (ws : List ℕ) → (take_free.view_after v pool i bit x ws).limbo ≡ v.limbo
taken_same v pool i None x ws = refl
taken_same v pool i (Some k) x ws = cond_both (bit_of x k == 1) _ _ (λ (w : View). w.limbo ≡ v.limbo) (λ e. refl) (λ e. refl)

pinned_same : (v : View) (x : ℕ) → (pin.view_after v x).limbo ≡ v.limbo
pinned_same v x = cond_both (x == 0) _ _ (λ (w : View). w.limbo ≡ v.limbo) (λ e. refl) (λ e. refl)

module _ (z : Sizes) (p : ℕ) (v : View) (m : Memory) (f : Views) (m' : Memory) (g : Views) (r : IsSound z m f) (w : View) (is : g p ≡ Some w) (e : Retired) (i : Member e w.limbo) where
  abbrev So : Type 0
  So = WasInLimbo v e ⊎ AreStanding f e.pins

  in_limbo : (u : View) → SetsView f p u g → Member e u.limbo
  in_limbo u t = subst (λ (x : View). Member e x.limbo) (same_Some w u (sym is ∙ t.here)) i

  stays : (u : View) → SetsView f p u g → u.limbo ≡ v.limbo → So
  stays u t same = inl (e, subst (Member e) same (in_limbo u t), refl, refl)

  by_kind : OfAKind z p v m f m' g r.log r.logical → So
  by_kind (IsBegin k) = stays _ k.view (begun_same z v k.cell (m.version k.cell))
  by_kind (IsRead k) = stays _ k.view refl
  by_kind (IsReadLeaf k) = stays _ k.view refl
  by_kind (IsUnchanged k) = stays _ k.view (event_same _ r.log k.event)
  by_kind (IsChanged k) = stays _ k.view refl
  by_kind (IsUpgrade k) = stays _ k.view refl
  by_kind (IsClaim k) = stays _ k.view refl
  by_kind (IsCommit k) = ⊎_elim
      (λ (j : Member e (all_retired k.pins k.unlinked)). inr (subst (AreStanding f) (sym (retired_of k.pins k.unlinked e j).3) k.standing))
      (λ (j : Member e v.limbo). inl (e, j, refl, refl))
      (member_append e (all_retired k.pins k.unlinked) v.limbo (in_limbo _ k.view))
  by_kind (IsRelease k) = stays _ k.view refl
  by_kind (IsWrite k) = stays _ k.view refl
  by_kind (IsWriteLeaf k) = stays _ k.view refl
  by_kind (IsTake k) = stays _ k.view (taken_same v k.pool k.index k.bit (m.free_word k.pool k.index) k.copy)
  by_kind (IsGive k) = stays _ k.view refl
  by_kind (IsFreed k) = inl (e, (k.rest.was e (in_limbo _ k.view)).0, refl, refl)
  by_kind (IsEpoch k) = let o = key_member (epoch.labelled m.epoch) v.limbo e (in_limbo _ k.view) in inl (o.0, o.1, ap (λ (d : Retired). d.link) (sym o.2), ap (λ (d : Retired). d.pins) (sym o.2))
  by_kind (IsPin k) = stays _ k.view (pinned_same v k.word)
  by_kind (IsAdvance k) = stays _ k.view refl
  by_kind (IsWatch k) = let o = key_member (watch.watched k.pass (m.pass_word k.pass)) v.limbo e (in_limbo _ k.view) in inl (o.0, o.1, ap (λ (d : Retired). d.link) (sym o.2), ap (λ (d : Retired). d.pins) (sym o.2))
  by_kind (IsAnchor k) = stays _ k.view refl

pub pins_law : PinsLaw
pins_law z p v w m f m' g t at is e i =
    let same : t.view ≡ v = same_Some t.view v (sym t.before ∙ at) in
    subst (λ (u : View). WasInLimbo u e ⊎ AreStanding f e.pins) same (by_kind z p t.view m f m' g t.sound w is e i t.kind)

pub marked_law : MarkedLaw
marked_law z m f q p v u e n r is-v is-u i marked link stamped =
    let k = r.unstamped.awaits q p v u e is-v is-u i in
    k.marked marked (k.stamped n link stamped)
