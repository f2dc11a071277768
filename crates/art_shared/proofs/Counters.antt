-- The anchor's version word never falls, and after a step some pass has made one: so each step keeps where the anchor's counter began.
use Rattle.std.proofs.Common.{◌≡◌, ◌≢◌, ◌+◌, ◌≤◌, ℕ, Bool, true, false, List, ⊎_elim, sym, ap, subst, arith}
use Rattle.std.specs.Prelude.{Some}
use Rattle.art_cell.specs.declared.cells.Cell.{Cell}
use Rattle.art_cell.specs.declared.cells.Cell.TheVariants as cell
use Rattle.art_step.specs.declared.views.Event.{Event}
use Rattle.art_step.specs.declared.views.Sizes.{Sizes}
use Rattle.art_step.specs.declared.views.View.{View}
use Rattle.art_step.specs.Effects.{SetsVersion, released_word}
use Rattle.art_step.specs.Steps.{IsAdvance, IsAnchor, IsBegin, IsChanged, IsClaim, IsCommit, IsEpoch, IsFreed, IsGive, IsPin, IsRead, IsReadLeaf, IsRelease, IsTake, IsUnchanged, IsUpgrade, IsWatch, IsWrite, IsWriteLeaf, OfAKind, OneStep}
use Rattle.art_step.specs.Views.{Memory, SetsView, Views}
use Rattle.art_step.proofs.Determined.{steps_count}
use Rattle.art_tree.proofs.Places.{same_cell}
use Rattle.art_tree.specs.Heaps.{Cells}
use Rattle.art_shared.specs.Rule.{BeginsAt}

-- ---- a step of each kind leaves the anchor's version word as it is, or raises it

abbrev Rises : Memory → Memory → Type 0
Rises m m' = m.version cell.Anchor ≤ m'.version cell.Anchor

same_words : (m m' : Memory) → m' ≡ m → Rises m m'
same_words m m' is = let same = ap (λ (n : Memory). n.version cell.Anchor) is in omega (arith, same)

same_versions : (m m' : Memory) → m'.version ≡ m.version → Rises m m'
same_versions m m' is = let same = ap (λ (version : Cell → ℕ). version cell.Anchor) is in omega (arith, same)

-- where the version word of one cell is set, to no less
sets_rise : (m m' : Memory) (c : Cell) (x : ℕ) → m.version c ≤ x → SetsVersion m c x m' → Rises m m'
sets_rise m m' c x low sets = ⊎_elim
    (λ (is : c ≡ cell.Anchor). subst (λ (d : Cell). m.version d ≤ m'.version d) is (let here = sets.here in omega (arith, here, low)))
    (λ (other : c ≢ cell.Anchor). let same = sets.there cell.Anchor (λ e. other (sym e)) in omega (arith, same))
    (same_cell c cell.Anchor)

released_more : (x : ℕ) (obsolete : Bool) → x ≤ released_word x obsolete
released_more x true = omega arith
released_more x false = omega arith

unlocks_rise : (m m' : Memory) (c : Cell) (obsolete : Bool) → SetsVersion m c (released_word (m.version c) obsolete) m' → Rises m m'
unlocks_rise m m' c obsolete sets = sets_rise m m' c (released_word (m.version c) obsolete) (released_more (m.version c) obsolete) sets

module _ (z : Sizes) (p : ℕ) (v : View) (m : Memory) (f : Views) (m' : Memory) (g : Views) (log : List Event) (s : Cells) where
  kind_rises : OfAKind z p v m f m' g log s → Rises m m'
  kind_rises (IsBegin k) = same_words m m' k.words
  kind_rises (IsRead k) = same_words m m' k.words
  kind_rises (IsReadLeaf k) = same_words m m' k.words
  kind_rises (IsUnchanged k) = same_words m m' k.words
  kind_rises (IsChanged k) = same_words m m' k.words
  kind_rises (IsUpgrade k) =
      let found = k.locks.found in
      sets_rise m m' k.stamp.cell (k.stamp.version + 2) (omega (arith, found)) k.locks.sets
  kind_rises (IsClaim k) = let same = k.locks.there cell.Anchor (λ e. cc) in omega (arith, same)
  kind_rises (IsCommit k) = unlocks_rise m m' k.holding.cell k.obsolete k.unlocks
  kind_rises (IsRelease k) = unlocks_rise m m' k.holding.cell k.obsolete k.unlocks
  kind_rises (IsWrite k) = same_versions m m' k.word.version
  kind_rises (IsWriteLeaf k) = same_versions m m' k.word.version
  kind_rises (IsTake k) = same_versions m m' k.sets.version
  kind_rises (IsGive k) = same_versions m m' k.sets.version
  kind_rises (IsFreed k) = same_versions m m' k.sets.version
  kind_rises (IsEpoch k) = same_words m m' k.words
  kind_rises (IsPin k) = same_versions m m' k.sets.version
  kind_rises (IsAdvance k) = same_versions m m' k.sets.version
  kind_rises (IsWatch k) = same_words m m' k.words
  kind_rises (IsAnchor k) = same_words m m' k.words

-- ---- a step

pub still_begun : (start : ℕ) (z : Sizes) (p : ℕ) (v w : View) (m : Memory) (f : Views) (m' : Memory) (g : Views)
    → OneStep z p m f m' g → f p ≡ Some v → SetsView f p w g → BeginsAt start (m.version cell.Anchor) f → BeginsAt start (m'.version cell.Anchor) g
still_begun start z p v w m f m' g t at set begins = record {
  least =
      let low = begins.least in
      let more = kind_rises z p t.view m f m' g t.sound.log t.sound.logical t.kind in
      omega (arith, low, more);
  exactly = λ idle.
      let none = idle p w set.here in
      let one = steps_count z p v w m f m' g t at set.here in
      absurd (omega (arith, none, one));
}
