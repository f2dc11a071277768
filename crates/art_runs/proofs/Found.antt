-- What a step finds is the word as it was then.
use Rattle.std.proofs.Common.{◌≡◌, ℕ, ◌%◌, ◌==◌, List, ◌∷◌, length, refl, sym, ap, ◌∙◌, subst, arith}
use Rattle.std.proofs.lemmas.Bool.{cond_both}
use Rattle.std.proofs.lemmas.Option.{same_Some}
use Rattle.std.specs.Prelude.{Option, Some, None}
use Rattle.art_cell.specs.declared.cells.Cell.{Cell}
use Rattle.art_cell.specs.declared.cells.Pool.{Pool}
use Rattle.art_step.specs.declared.deeds.Deed.{Deed}
use Rattle.art_step.specs.declared.views.Event.{Event}
use Rattle.art_step.specs.declared.views.Found.{Found}
use Rattle.art_step.specs.declared.views.Sizes.{Sizes}
use Rattle.art_step.specs.declared.views.View.{View}
use Rattle.art_step.specs.declared.views.Word.{Word}
use Rattle.art_step.specs.declared.views.Word.TheVariants.{Version, Free, Pass}
use Rattle.art_step.specs.Sound.{IsSound}
use Rattle.art_step.specs.Steps.{OfAKind, OneStep, IsBegin, IsRead, IsReadLeaf, IsUnchanged, IsChanged, IsUpgrade, IsClaim, IsCommit, IsRelease, IsWrite, IsWriteLeaf, IsTake, IsGive, IsFreed, IsEpoch, IsPin, IsAdvance, IsWatch, IsAnchor}
use Rattle.art_step.specs.Steps.Begin as begin
use Rattle.art_step.specs.Steps.Check as check
use Rattle.art_step.specs.Steps.Pin as pin
use Rattle.art_step.specs.Steps.Take as take_free
use Rattle.art_step.specs.Views.{Memory, Views, SetsView, bit_of}

-- the word is so
abbrev pub IsWord : Memory → Word → Type 0
IsWord m (Version c x) = m.version c ≡ x
IsWord m (Free pool i x) = m.free_word pool i ≡ x
IsWord m (Pass q x) = m.pass_word q ≡ x

-- ---- what the view after a step has found

-- of the views of one pass before and after a step: what one has found more than the other is a word as it is
record FindsWords (m : Memory) (v w : View) : Type 0 where
  word : (y : Found) → w.found ≡ y ∷ v.found → IsWord m y.word

-- nothing more
none_found : (m : Memory) (v w : View) → w.found ≡ v.found → FindsWords m v w
none_found m v w same = record { word = λ y e. absurd (omega (arith, ap length (sym same ∙ e))) }

-- this word
one_found : (m : Memory) (v w : View) (x : Found) → w.found ≡ x ∷ v.found → IsWord m x.word → FindsWords m v w
one_found m v w x is so = record {
  word = λ y e. let both : x ∷ v.found ≡ y ∷ v.found = sym is ∙ e in let same : x ≡ y = cc in subst (λ (k : Found). IsWord m k.word) same so;
}

begun_finds : (z : Sizes) (m : Memory) (v : View) (c : Cell) → FindsWords m v (begin.view_after z v c (m.version c))
begun_finds z m v c = cond_both (m.version c % 4 == 0) _ _ (FindsWords m v) (λ e. one_found m v _ _ refl refl) (λ e. one_found m v _ _ refl refl)

-- an event leaves what was found
pub event_found : (u : View) (log : List Event) (o : Option Deed) → (check.with_event u log o).found ≡ u.found
event_found u log None = refl
event_found u log (Some what) = refl

taken_finds : (m : Memory) (v : View) (pool : Pool) (i : ℕ) (bit : Option ℕ) (ws : List ℕ) → FindsWords m v (take_free.view_after v pool i bit (m.free_word pool i) ws)
taken_finds m v pool i None ws = one_found m v _ _ refl refl
taken_finds m v pool i (Some k) ws = cond_both (bit_of (m.free_word pool i) k == 1) _ _ (FindsWords m v) (λ e. one_found m v _ _ refl refl) (λ e. one_found m v _ _ refl refl)

pinned_finds : (m : Memory) (v : View) (x : ℕ) → FindsWords m v (pin.view_after v x)
pinned_finds m v x = cond_both (x == 0) _ _ (FindsWords m v) (λ e. none_found m v _ refl) (λ e. none_found m v _ refl)

-- ---- of a step of each kind

module _ (z : Sizes) (p : ℕ) (v : View) (m : Memory) (f : Views) (m' : Memory) (g : Views) (r : IsSound z m f) (w : View) (is : g p ≡ Some w) where
  -- the view after it is the one that it sets
  set_finds : (u : View) → SetsView f p u g → FindsWords m v u → FindsWords m v w
  set_finds u t = subst (FindsWords m v) (same_Some u w (sym t.here ∙ is))

  kind_finds : OfAKind z p v m f m' g r.log r.logical → FindsWords m v w
  kind_finds (IsBegin k) = set_finds _ k.view (begun_finds z m v k.cell)
  kind_finds (IsRead k) = set_finds _ k.view (none_found m v _ refl)
  kind_finds (IsReadLeaf k) = set_finds _ k.view (none_found m v _ refl)
  kind_finds (IsUnchanged k) = set_finds _ k.view (one_found m v _ _ (event_found (check.view_unchanged v k.stamp k.paths) r.log k.event) k.found)
  kind_finds (IsChanged k) = set_finds _ k.view (one_found m v _ _ refl refl)
  kind_finds (IsUpgrade k) = set_finds _ k.view (one_found m v _ _ refl (sym k.locks.found))
  kind_finds (IsClaim k) = set_finds _ k.view (none_found m v _ refl)
  kind_finds (IsCommit k) = set_finds _ k.view (none_found m v _ refl)
  kind_finds (IsRelease k) = set_finds _ k.view (none_found m v _ refl)
  kind_finds (IsWrite k) = set_finds _ k.view (none_found m v _ refl)
  kind_finds (IsWriteLeaf k) = set_finds _ k.view (none_found m v _ refl)
  kind_finds (IsTake k) = set_finds _ k.view (taken_finds m v k.pool k.index k.bit k.copy)
  kind_finds (IsGive k) = set_finds _ k.view (none_found m v _ refl)
  kind_finds (IsFreed k) = set_finds _ k.view (none_found m v _ refl)
  kind_finds (IsEpoch k) = set_finds _ k.view (none_found m v _ refl)
  kind_finds (IsPin k) = set_finds _ k.view (pinned_finds m v k.word)
  kind_finds (IsAdvance k) = set_finds _ k.view (none_found m v _ refl)
  kind_finds (IsWatch k) = set_finds _ k.view (one_found m v _ _ refl refl)
  kind_finds (IsAnchor k) = set_finds _ k.view (none_found m v _ refl)

-- what was found at a step is the word as it was then
pub found_is : (z : Sizes) (p : ℕ) (v w : View) (m : Memory) (f : Views) (m' : Memory) (f' : Views) → OneStep z p m f m' f' → f p ≡ Some v → f' p ≡ Some w → (y : Found) → w.found ≡ y ∷ v.found → IsWord m y.word
found_is z p v w m f m' f' t at is = (subst (λ (u : View). FindsWords m u w) (same_Some t.view v (sym t.before ∙ at)) (kind_finds z p t.view m f m' f' t.sound w is t.kind)).word
