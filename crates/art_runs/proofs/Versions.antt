-- Version words that a step leaves as they are, and how many events it makes.
use Rattle.std.proofs.Common.{◌≡◌, ◌≢◌, ◌⊎◌, ℕ, ◌+◌, ◌%◌, ◌==◌, List, [], ◌∷◌, ◌++◌, length, inl, inr, refl, sym, ap, ◌∙◌, subst, arith, length-append}
use Rattle.std.proofs.lemmas.Bool.{cond_both}
use Rattle.std.proofs.lemmas.Option.{same_Some}
use Rattle.std.specs.Prelude.{Option, Some, None}
use Rattle.art_cell.specs.declared.cells.Cell.{Cell}
use Rattle.art_cell.specs.declared.cells.Pool.{Pool}
use Rattle.art_step.specs.declared.deeds.Deed.{Deed}
use Rattle.art_step.specs.declared.views.Event.{Event}
use Rattle.art_step.specs.declared.views.Holding.{Holding}
use Rattle.art_step.specs.declared.views.Sizes.{Sizes}
use Rattle.art_step.specs.declared.views.View.{View}
use Rattle.art_step.specs.Sound.{IsSound}
use Rattle.art_step.specs.Steps.{OfAKind, OneStep, IsBegin, IsRead, IsReadLeaf, IsUnchanged, IsChanged, IsUpgrade, IsClaim, IsCommit, IsRelease, IsWrite, IsWriteLeaf, IsTake, IsGive, IsFreed, IsEpoch, IsPin, IsAdvance, IsWatch, IsAnchor}
use Rattle.art_step.specs.Steps.Begin as begin
use Rattle.art_step.specs.Steps.Check as check
use Rattle.art_step.specs.Steps.Commit as commit
use Rattle.art_step.specs.Steps.Pin as pin
use Rattle.art_step.specs.Steps.Release as release
use Rattle.art_step.specs.Steps.Take as take_free
use Rattle.art_step.specs.Steps.Upgrade as upgrade
use Rattle.art_step.specs.Views.{IsLocked, Member, Memory, Views, SetsView, bit_of}

-- ---- how many events a step makes

-- none, or one
abbrev OwnGrows : View → View → Type 0
OwnGrows v w = (w.own ≡ v.own) ⊎ (length w.own ≡ length v.own + 1)

begun_own : (z : Sizes) (v : View) (c : Cell) (x : ℕ) → (begin.view_after z v c x).own ≡ v.own
begun_own z v c x = cond_both (x % 4 == 0) _ _ (λ (w : View). w.own ≡ v.own) (λ e. refl) (λ e. refl)

taken_own : (v : View) (pool : Pool) (i : ℕ) (bit : Option ℕ) (x : ℕ) (ws : List ℕ) → (take_free.view_after v pool i bit x ws).own ≡ v.own
taken_own v pool i None x ws = refl
taken_own v pool i (Some k) x ws = cond_both (bit_of x k == 1) _ _ (λ (w : View). w.own ≡ v.own) (λ e. refl) (λ e. refl)

pinned_own : (v : View) (x : ℕ) → (pin.view_after v x).own ≡ v.own
pinned_own v x = cond_both (x == 0) _ _ (λ (w : View). w.own ≡ v.own) (λ e. refl) (λ e. refl)

one_longer : (xs : List ℕ) (x : ℕ) → length (xs ++ x ∷ []) ≡ length xs + 1
one_longer xs x = length-append xs (x ∷ [])

event_own : (u : View) (log : List Event) (o : Option Deed) → OwnGrows u (check.with_event u log o)
event_own u log None = inl refl
event_own u log (Some what) = inr (one_longer u.own (length log))

module _ (z : Sizes) (p : ℕ) (v : View) (m : Memory) (f : Views) (m' : Memory) (g : Views) (r : IsSound z m f) (w : View) (is : g p ≡ Some w) where
  set_own : (u : View) → SetsView f p u g → OwnGrows v u → OwnGrows v w
  set_own u t = subst (OwnGrows v) (same_Some u w (sym t.here ∙ is))

  kind_own : OfAKind z p v m f m' g r.log r.logical → OwnGrows v w
  kind_own (IsBegin k) = set_own _ k.view (inl (begun_own z v k.cell (m.version k.cell)))
  kind_own (IsRead k) = set_own _ k.view (inl refl)
  kind_own (IsReadLeaf k) = set_own _ k.view (inl refl)
  kind_own (IsUnchanged k) = set_own _ k.view (event_own (check.view_unchanged v k.stamp k.paths) r.log k.event)
  kind_own (IsChanged k) = set_own _ k.view (inl refl)
  kind_own (IsUpgrade k) = set_own _ k.view (inl refl)
  kind_own (IsClaim k) = set_own _ k.view (inl refl)
  kind_own (IsCommit k) = set_own _ k.view (inr (one_longer v.own (length r.log)))
  kind_own (IsRelease k) = set_own _ k.view (inl refl)
  kind_own (IsWrite k) = set_own _ k.view (inl refl)
  kind_own (IsWriteLeaf k) = set_own _ k.view (inl refl)
  kind_own (IsTake k) = set_own _ k.view (inl (taken_own v k.pool k.index k.bit (m.free_word k.pool k.index) k.copy))
  kind_own (IsGive k) = set_own _ k.view (inl refl)
  kind_own (IsFreed k) = set_own _ k.view (inl refl)
  kind_own (IsEpoch k) = set_own _ k.view (inl refl)
  kind_own (IsPin k) = set_own _ k.view (inl (pinned_own v k.word))
  kind_own (IsAdvance k) = set_own _ k.view (inl refl)
  kind_own (IsWatch k) = set_own _ k.view (inl refl)
  kind_own (IsAnchor k) = set_own _ k.view (inl refl)

-- the pass's own events stay, or are one more
pub own_grows : (z : Sizes) (p : ℕ) (v w : View) (m : Memory) (f : Views) (m' : Memory) (f' : Views) → OneStep z p m f m' f' → f p ≡ Some v → f' p ≡ Some w → (w.own ≡ v.own) ⊎ (length w.own ≡ length v.own + 1)
own_grows z p v w m f m' f' t at is = subst (λ (u : View). OwnGrows u w) (same_Some t.view v (sym t.before ∙ at)) (kind_own z p t.view m f m' f' t.sound w is t.kind)

-- ---- the same cells are held

pub record SameCells (hs hs' : List Holding) : Type 0 where
  pub stays : (h : Holding) → Member h hs → (k : Holding) × Member k hs' × (k.cell ≡ h.cell)
  pub was : (h : Holding) → Member h hs' → (k : Holding) × Member k hs × (k.cell ≡ h.cell)

-- the version words stay
abbrev VersionsStay : Memory → Memory → Type 0
VersionsStay m m' = (c : Cell) → m'.version c ≡ m.version c

same_words : (m m' : Memory) → m' ≡ m → VersionsStay m m'
same_words m m' same c = ap (λ (k : Memory). k.version c) same

same_versions : (m m' : Memory) → m'.version ≡ m.version → VersionsStay m m'
same_versions m m' same c = ap (λ (k : Cell → ℕ). k c) same

module _ (z : Sizes) (p : ℕ) (v : View) (m : Memory) (f : Views) (m' : Memory) (g : Views) (at : f p ≡ Some v) (r : IsSound z m f) where
  -- a cell that is held is locked, and one that may be upgraded is clear, where its word is the stamped one
  stamped_not_held : (k : upgrade.Step z p v m f m' g) (h : Holding) → Member h v.held → h.cell ≢ k.stamp.cell
  stamped_not_held k h i same =
      let locked : IsLocked (m.version k.stamp.cell) = subst (λ (c : Cell). IsLocked (m.version c)) same ((r.holder.holds p v at).keeps h i).locked in
      let clear = ((r.vouch p v at).stamps k.stamp k.may.stamp).clear in
      let found = k.locks.found in
      omega arith

  -- an event is made at a commit
  commit_tells : (k : commit.Step z p v m f m' g r.log) → v.own ++ length r.log ∷ [] ≢ v.own
  commit_tells k e = omega (arith, ap length e, one_longer v.own (length r.log))

  -- a cell that is released is held no more
  released_goes : (k : release.Step z p v m f m' g) (h : Holding) → Member h k.held → h.cell ≢ k.holding.cell
  released_goes k h i = (k.drops.was h i).1

  -- ---- where the same cells are held after the step

  record StaysQuiet (w : View) : Type 0 where
    own : w.own ≡ v.own
    cells : SameCells v.held w.held

  module _ (w : View) (is : g p ≡ Some w) (q : StaysQuiet w) where
    now : (u : View) → SetsView f p u g → StaysQuiet u
    now u t = subst StaysQuiet (same_Some w u (sym is ∙ t.here)) q

    kind_stays : OfAKind z p v m f m' g r.log r.logical → VersionsStay m m'
    kind_stays (IsBegin k) = same_words m m' k.words
    kind_stays (IsRead k) = same_words m m' k.words
    kind_stays (IsReadLeaf k) = same_words m m' k.words
    kind_stays (IsUnchanged k) = same_words m m' k.words
    kind_stays (IsChanged k) = same_words m m' k.words
    kind_stays (IsUpgrade k) = let o = (now _ k.view).cells.was _ (inl refl) in absurd (stamped_not_held k o.0 o.1 o.2)
    kind_stays (IsClaim k) = let o = (now _ k.view).cells.was _ (inl refl) in absurd (k.may.free o.0 o.1 o.2)
    kind_stays (IsCommit k) = absurd (commit_tells k (now _ k.view).own)
    kind_stays (IsRelease k) = let o = (now _ k.view).cells.stays k.holding k.may.0 in absurd (released_goes k o.0 o.1 o.2)
    kind_stays (IsWrite k) = same_versions m m' k.word.version
    kind_stays (IsWriteLeaf k) = same_versions m m' k.word.version
    kind_stays (IsTake k) = same_versions m m' k.sets.version
    kind_stays (IsGive k) = same_versions m m' k.sets.version
    kind_stays (IsFreed k) = same_versions m m' k.sets.version
    kind_stays (IsEpoch k) = same_words m m' k.words
    kind_stays (IsPin k) = same_versions m m' k.sets.version
    kind_stays (IsAdvance k) = same_versions m m' k.sets.version
    kind_stays (IsWatch k) = same_words m m' k.words
    kind_stays (IsAnchor k) = same_words m m' k.words

  -- ---- where one cell more is held after it

  record HoldsOneMore (h : Holding) (w : View) : Type 0 where
    own : w.own ≡ v.own
    held : w.held ≡ h ∷ v.held

  module _ (w : View) (is : g p ≡ Some w) (h : Holding) (q : HoldsOneMore h w) where
    more : (u : View) → SetsView f p u g → HoldsOneMore h u
    more u t = subst (HoldsOneMore h) (same_Some w u (sym is ∙ t.here)) q

    -- the other version words stay
    abbrev OthersStay : Type 0
    OthersStay = (c : Cell) → c ≢ h.cell → m'.version c ≡ m.version c

    -- it is the cell of the holding that came
    came : (k : Holding) → k ∷ v.held ≡ h ∷ v.held → (c : Cell) → c ≢ h.cell → c ≢ k.cell
    came k e c other same = let one : k ≡ h = cc in other (same ∙ ap (λ (x : Holding). x.cell) one)

    kind_but : OfAKind z p v m f m' g r.log r.logical → OthersStay
    kind_but (IsBegin k) c other = same_words m m' k.words c
    kind_but (IsRead k) c other = same_words m m' k.words c
    kind_but (IsReadLeaf k) c other = same_words m m' k.words c
    kind_but (IsUnchanged k) c other = same_words m m' k.words c
    kind_but (IsChanged k) c other = same_words m m' k.words c
    kind_but (IsUpgrade k) c other = k.locks.sets.there c (came _ (more _ k.view).held c other)
    kind_but (IsClaim k) c other = k.locks.there c (came _ (more _ k.view).held c other)
    kind_but (IsCommit k) c other = absurd (commit_tells k (more _ k.view).own)
    kind_but (IsRelease k) c other =
        let still : Member k.holding k.held = subst (Member k.holding) (sym (more _ k.view).held) (inr k.may.0) in
        absurd (released_goes k k.holding still refl)
    kind_but (IsWrite k) c other = same_versions m m' k.word.version c
    kind_but (IsWriteLeaf k) c other = same_versions m m' k.word.version c
    kind_but (IsTake k) c other = same_versions m m' k.sets.version c
    kind_but (IsGive k) c other = same_versions m m' k.sets.version c
    kind_but (IsFreed k) c other = same_versions m m' k.sets.version c
    kind_but (IsEpoch k) c other = same_words m m' k.words c
    kind_but (IsPin k) c other = same_versions m m' k.sets.version c
    kind_but (IsAdvance k) c other = same_versions m m' k.sets.version c
    kind_but (IsWatch k) c other = same_words m m' k.words c
    kind_but (IsAnchor k) c other = same_words m m' k.words c

-- where no event is made, and the same cells are held, the version words stay
pub versions_stay : (z : Sizes) (p : ℕ) (v w : View) (m : Memory) (f : Views) (m' : Memory) (f' : Views) → OneStep z p m f m' f' → f p ≡ Some v → f' p ≡ Some w → w.own ≡ v.own → SameCells v.held w.held → (c : Cell) → m'.version c ≡ m.version c
versions_stay z p v w m f m' f' t at is = subst (λ (u : View). w.own ≡ u.own → SameCells u.held w.held → VersionsStay m m') (same_Some t.view v (sym t.before ∙ at))
    (λ own cells. kind_stays z p t.view m f m' f' t.before t.sound w is (record { own = own; cells = cells }) t.kind)

-- where no event is made, and one cell more is held, those of the others stay
pub versions_but : (z : Sizes) (p : ℕ) (v w : View) (m : Memory) (f : Views) (m' : Memory) (f' : Views) → OneStep z p m f m' f' → f p ≡ Some v → f' p ≡ Some w → w.own ≡ v.own → (h : Holding) → w.held ≡ h ∷ v.held → (c : Cell) → c ≢ h.cell → m'.version c ≡ m.version c
versions_but z p v w m f m' f' t at is = subst (λ (u : View). w.own ≡ u.own → (h : Holding) → w.held ≡ h ∷ u.held → (c : Cell) → c ≢ h.cell → m'.version c ≡ m.version c) (same_Some t.view v (sym t.before ∙ at))
    (λ own h held. kind_but z p t.view m f m' f' t.before t.sound w is h (record { own = own; held = held }) t.kind)
