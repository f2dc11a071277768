-- Only the step that frees a number takes it out of limbo, and then no pass is under a pin that its place holds.
use Rattle.std.proofs.Common.{◌≡◌, ◌≢◌, ℕ, ◌%◌, ◌==◌, List, [], ◌∷◌, ⊎_elim, sym, refl, ap, ◌∙◌, subst}
use Rattle.std.proofs.lemmas.Bool.{cond_both}
use Rattle.std.proofs.lemmas.Option.{same_Some}
use Rattle.std.specs.Prelude.{Option, Some, None}
use Rattle.art_cell.specs.declared.cells.Cell.{Cell}
use Rattle.art_cell.specs.declared.cells.Link.{Link}
use Rattle.art_cell.specs.declared.cells.Pool.{Pool}
use Rattle.art_tree.proofs.Places.{same_link}
use Rattle.art_step.specs.declared.deeds.Deed.{Deed}
use Rattle.art_step.specs.declared.views.Event.{Event}
use Rattle.art_step.specs.declared.views.Retired.{Retired}
use Rattle.art_step.specs.declared.views.Sizes.{Sizes}
use Rattle.art_step.specs.declared.views.View.{View}
use Rattle.art_step.specs.Determined.{LimboLaw}
use Rattle.art_step.specs.Sound.{IsSound}
use Rattle.art_step.specs.Steps.{OfAKind, IsBegin, IsRead, IsReadLeaf, IsUnchanged, IsChanged, IsUpgrade, IsClaim, IsCommit, IsRelease, IsWrite, IsWriteLeaf, IsTake, IsGive, IsFreed, IsEpoch, IsPin, IsAdvance, IsWatch, IsAnchor}
use Rattle.art_step.specs.Steps.Begin as begin
use Rattle.art_step.specs.Steps.Check as check
use Rattle.art_step.specs.Steps.Epoch as epoch
use Rattle.art_step.specs.Steps.Give as give
use Rattle.art_step.specs.Steps.Give.{NobodyIsUnder, WentBack}
use Rattle.art_step.specs.Steps.Pin as pin
use Rattle.art_step.specs.Steps.Take as take_free
use Rattle.art_step.specs.Steps.Watch as watch
use Rattle.art_step.specs.Views.{IsOnce, Member, Memory, Views, SetsView, bit_of, links_in_limbo}
use Rattle.art_step.proofs.Gathered.{member_key}
use Rattle.art_step.proofs.SetsView.{member_back}
use Rattle.art_step.proofs.StepEpochs.{same_links}
use Rattle.art_step.proofs.StepNumbers.{nobody_law}

-- ---- places

-- a number that is named once is at one place
only_place : (es : List Retired) (e d : Retired) → IsOnce (links_in_limbo es) → Member e es → Member d es → e.link ≡ d.link → e ≡ d
only_place [] e d once i j same = absurd i
only_place (x ∷ es) e d once i j same = ⊎_elim
    (λ (first : e ≡ x). ⊎_elim
    (λ (too : d ≡ x). first ∙ sym too)
    (λ (later : Member d es). absurd (once.0 (subst (λ (l : Link). Member l (links_in_limbo es)) (sym same ∙ ap (λ (y : Retired). y.link) first) (member_key (λ (y : Retired). y.link) es d later)))) j)
    (λ (later : Member e es). ⊎_elim
    (λ (first : d ≡ x). absurd (once.0 (subst (λ (l : Link). Member l (links_in_limbo es)) (same ∙ ap (λ (y : Retired). y.link) first) (member_key (λ (y : Retired). y.link) es e later))))
    (λ (too : Member d es). only_place es e d once.1 later too same) j) i

-- ---- which steps leave limbo its numbers

-- the same numbers wait
abbrev Waits : View → View → Type 0
Waits v w = links_in_limbo w.limbo ≡ links_in_limbo v.limbo

begun_waits : (z : Sizes) (v : View) (c : Cell) (x : ℕ) → Waits v (begin.view_after z v c x)
begun_waits z v c x = cond_both (x % 4 == 0) _ _ (Waits v) (λ e. refl) (λ e. refl)

event_waits : (u : View) (log : List Event) (o : Option Deed) → Waits u (check.with_event u log o)
event_waits u log None = refl
event_waits u log (Some what) = refl

taken_waits : (v : View) (pool : Pool) (i : ℕ) (bit : Option ℕ) (x : ℕ) (ws : List ℕ) → Waits v (take_free.view_after v pool i bit x ws)
taken_waits v pool i None x ws = refl
taken_waits v pool i (Some k) x ws = cond_both (bit_of x k == 1) _ _ (Waits v) (λ e. refl) (λ e. refl)

pinned_waits : (v : View) (x : ℕ) → Waits v (pin.view_after v x)
pinned_waits v x = cond_both (x == 0) _ _ (Waits v) (λ e. refl) (λ e. refl)

module _ (z : Sizes) (p : ℕ) (v : View) (m : Memory) (f : Views) (m' : Memory) (g : Views) (at : f p ≡ Some v) (r : IsSound z m f) (w : View) (is : g p ≡ Some w) (e : Retired) (back : WentBack v w e) where
  -- so the number did not go back
  waits_on : (u : View) → SetsView f p u g → Member e.link (links_in_limbo u.limbo) → NobodyIsUnder f e
  waits_on u t there = absurd (back.1 (subst (λ (x : View). Member e.link (links_in_limbo x.limbo)) (same_Some u w (sym t.here ∙ is)) there))

  stays : (u : View) → SetsView f p u g → Waits v u → NobodyIsUnder f e
  stays u t same = waits_on u t (subst (Member e.link) (sym same) (member_key (λ (y : Retired). y.link) v.limbo e back.0))

  -- or it is the one that is freed
  freed : give.FreeStep z p v m f m' g → NobodyIsUnder f e
  freed k = ⊎_elim
      (λ (same : e.link ≡ k.link).
      let once = (r.numbers.accounts p v at).limbo_once in
      let place = only_place v.limbo e k.may.place once back.0 k.may.limbo (same ∙ sym k.may.link) in
      subst (NobodyIsUnder f) (sym place) (nobody_law z p v m f k.link at r k.may))
      (λ (other : e.link ≢ k.link). waits_on _ k.view (member_key (λ (y : Retired). y.link) k.limbo e (k.rest.stays e back.0 other)))
      (same_link e.link k.link)

  by_kind : OfAKind z p v m f m' g r.log r.logical → NobodyIsUnder f e
  by_kind (IsBegin k) = stays _ k.view (begun_waits z v k.cell (m.version k.cell))
  by_kind (IsRead k) = stays _ k.view refl
  by_kind (IsReadLeaf k) = stays _ k.view refl
  by_kind (IsUnchanged k) = stays _ k.view (event_waits _ r.log k.event)
  by_kind (IsChanged k) = stays _ k.view refl
  by_kind (IsUpgrade k) = stays _ k.view refl
  by_kind (IsClaim k) = stays _ k.view refl
  by_kind (IsCommit k) = waits_on _ k.view (member_key (λ (y : Retired). y.link) _ e (member_back e _ v.limbo back.0))
  by_kind (IsRelease k) = stays _ k.view refl
  by_kind (IsWrite k) = stays _ k.view refl
  by_kind (IsWriteLeaf k) = stays _ k.view refl
  by_kind (IsTake k) = stays _ k.view (taken_waits v k.pool k.index k.bit (m.free_word k.pool k.index) k.copy)
  by_kind (IsGive k) = stays _ k.view refl
  by_kind (IsFreed k) = freed k
  by_kind (IsEpoch k) = stays _ k.view (same_links (epoch.labelled m.epoch) (λ d. refl) v.limbo)
  by_kind (IsPin k) = stays _ k.view (pinned_waits v k.word)
  by_kind (IsAdvance k) = stays _ k.view refl
  by_kind (IsWatch k) = stays _ k.view (same_links (watch.watched k.pass (m.pass_word k.pass)) (λ d. refl) v.limbo)
  by_kind (IsAnchor k) = stays _ k.view refl

pub limbo_law : LimboLaw
limbo_law z p v w m f m' g t at is e back =
    let same : t.view ≡ v = same_Some t.view v (sym t.before ∙ at) in
    by_kind z p t.view m f m' g t.before t.sound w is e (subst (λ (u : View). WentBack u w e) (sym same) back) t.kind
