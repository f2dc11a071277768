-- What a step leaves as it was that a call asked for which alone makes steps.
use Rattle.std.proofs.Common.{◌≡◌, ◌≢◌, ◌⊎◌, ◌+◌, ◌∷◌, ℕ, List, [], Option, Some, None, inl, inr, refl, sym, ap, ◌∙◌, subst, ⊎_elim}
use Rattle.std.proofs.lemmas.Bool.{eq-eqb, cond_both}
use Rattle.std.specs.Prelude.{Result, Ok, Err, ⊤, ◌==◌, ◌%◌}
use Rattle.art_cell.specs.declared.cells.Cell.{Cell}
use Rattle.art_cell.specs.declared.cells.Cell.TheVariants as cell
use Rattle.art_cell.specs.declared.cells.Link.TheVariants.{Node as node}
use Rattle.art_cell.specs.declared.cells.Pool.{Pool}
use Rattle.art_change.proofs.ArtFind.Allowed.{none_held}
use Rattle.art_change.proofs.FrameSteps.{IsFrame}
use Rattle.art_step.specs.Acting.{Answers, IsLook}
use Rattle.art_step.specs.declared.actions.Action.{Action}
use Rattle.art_step.specs.declared.actions.Action.TheVariants.{Begin, Read, ReadLeaf, Check, Settle, Upgrade, Claim, Write, WriteLeaf, Commit, Release}
use Rattle.art_step.specs.declared.actions.Action.TheVariants.{ClearBit, GiveBack, Free, ReadEpoch, StorePin, RaiseEpoch, ReadPin}
use Rattle.art_step.specs.declared.actions.Answer.{Answer}
use Rattle.art_step.specs.declared.actions.Answer.TheVariants.{Begun, Word, Checked, Upgraded, Done}
use Rattle.art_step.specs.declared.actions.Effects.{Effects}
use Rattle.art_runs.proofs.OthersIdle.{clear_unless}
use Rattle.art_runs.proofs.Found.{found_is}
use Rattle.art_runs.proofs.Versions.{SameCells, versions_stay}
use Rattle.art_runs.specs.OthersIdle.{AreCurrent, IsAlone}
use Rattle.art_world.specs.Lasting.{NoneGone}
use Rattle.art_step.proofs.Shows.{begun_clear}
use Rattle.art_step.proofs.StepNotes.{vouch_law}
use Rattle.art_step.specs.Shows.{Shows}
use Rattle.art_step.specs.Steps.{OneStep}
use Rattle.art_step.specs.Steps.Begin as begin
use Rattle.art_step.specs.Steps.Check as check
use Rattle.art_step.specs.Steps.Pin as pin
use Rattle.art_step.specs.Steps.Take as take_free
use Rattle.art_step.specs.Views.{IsClear, IsNotHeld, Member, Memory, Views, bit_of, found_version}
use Rattle.art_step.specs.declared.deeds.Deed.{Deed}
use Rattle.art_step.specs.declared.faults.Changed.{Changed}
use Rattle.art_step.specs.declared.views.Holding.{Holding}
use Rattle.art_step.specs.declared.views.Sizes.{Sizes}
use Rattle.art_step.specs.declared.views.Stamp.{Stamp}
use Rattle.art_step.specs.declared.views.View.{View}
use Rattle.art_step.specs.declared.views.Word.TheVariants.{Version, Free}
use Rattle.art_tree.specs.Heaps.{heap_of}
use Rattle.art_tree.specs.Tree.{StandsAt}

-- ---- what founds a step

-- the cell is the anchor, or a node of the tree, as what was noted under a stamp shows
abbrev pub IsLedTo : Sizes → View → Cell → Type 0
IsLedTo z v cell.Anchor = ⊤
IsLedTo z v (cell.Leaf l) = ⊥
IsLedTo z v (cell.Node n) = (x : Stamp) × Member x v.stamps × Shows z v x (λ s. (q : List ℕ) × StandsAt (heap_of s) (node n) q)

-- the stamp is one of a cell that the pass does not hold
abbrev pub IsFreeStamp : View → Stamp → Type 0
IsFreeStamp v x = Member x v.stamps × IsNotHeld v.held x.cell

-- a cell that is begun was led to, while nothing is held; one that is checked or locked is not held
abbrev pub IsCellFounded : Sizes → View → Action → Type 0
IsCellFounded z v (Begin c) = (v.held ≡ []) × IsLedTo z v c
IsCellFounded z v (Check x) = IsFreeStamp v x
IsCellFounded z v (Settle x) = IsFreeStamp v x
IsCellFounded z v (Upgrade x) = IsFreeStamp v x
IsCellFounded z v a = ⊤

-- a bit that is taken is set
abbrev pub IsBitSet : Memory → Pool → ℕ → Option ℕ → Type 0
IsBitSet m pool i None = ⊤
IsBitSet m pool i (Some k) = bit_of (m.free_word pool i) k ≡ 1

abbrev pub IsFounded : Sizes → Memory → View → Action → Type 0
IsFounded z m v (ClearBit pool i bit) = IsBitSet m pool i bit
IsFounded z m v a = IsCellFounded z v a

-- ---- what stays

-- no step failed, the same cells are held, and each stamp that came is that of its cell as it is
pub record StaysCalm (m : Memory) (v w : View) : Type 0 where
  pub failures : w.failures ≡ v.failures
  pub held : SameCells v.held w.held
  pub stamps : (x : Stamp) → Member x w.stamps → Member x v.stamps ⊎ (m.version x.cell ≡ x.version)

pub cells_same : (hs hs' : List Holding) → hs' ≡ hs → SameCells hs hs'
cells_same hs hs' same = record {
  stays = λ h at. (h, subst (Member h) (sym same) at, refl);
  was = λ h at. (h, subst (Member h) same at, refl);
}

-- nothing of all this changed
pub calm_same : (m : Memory) (v w : View) → w.failures ≡ v.failures → w.held ≡ v.held → w.stamps ≡ v.stamps → StaysCalm m v w
calm_same m v w failures held stamps = record {
  failures = failures;
  held = cells_same v.held w.held held;
  stamps = λ x at. inl (subst (Member x) stamps at);
}

-- or all stamps went
calm_none : (m : Memory) (v w : View) → w.failures ≡ v.failures → w.held ≡ v.held → w.stamps ≡ [] → StaysCalm m v w
calm_none m v w failures held stamps = record {
  failures = failures;
  held = cells_same v.held w.held held;
  stamps = λ x at. absurd (subst (Member x) stamps at);
}

-- ---- one step of a pass that is alone

pub record IsMoment (z : Sizes) (p : ℕ) (m : Memory) (f : Views) (m' : Memory) (f' : Views) (v w : View) : Type 0 where
  pub step : OneStep z p m f m' f'
  pub before : f p ≡ Some v
  pub after : f' p ≡ Some w
  pub alone : IsAlone p f
  pub gone : NoneGone z m f

module _ (z : Sizes) (p : ℕ) (m : Memory) (f : Views) (m' : Memory) (f' : Views) (v w : View) (at : IsMoment z p m f m' f' v w) where
  -- stamps stay current
  pub calm_current : StaysCalm m v w → w.own ≡ v.own → AreCurrent m v → AreCurrent m' w
  calm_current calm own current x there free =
      versions_stay z p v w m f m' f' at.step at.before at.after own calm.held x.cell
      ∙ ⊎_elim
      (λ (old : Member x v.stamps). current x old (λ h holds same.
      let k = calm.held.stays h holds in free k.0 k.1 (k.2 ∙ same)))
      (λ (now : m.version x.cell ≡ x.version). now)
      (calm.stamps x there)

  -- the version word that was found
  version_is : (c : Cell) (x : ℕ) → w.found ≡ found_version v c x → m.version c ≡ x
  version_is c x found = found_is z p v w m f m' f' at.step at.before at.after (record { word = Version c x; step = v.steps + 1 }) found

  free_is : (pool : Pool) (i x : ℕ) → w.found ≡ record { word = Free pool i x; step = v.steps + 1 } ∷ v.found → m.free_word pool i ≡ x
  free_is pool i x found = found_is z p v w m f m' f' at.step at.before at.after (record { word = Free pool i x; step = v.steps + 1 }) found

  -- ---- cells

  -- a cell to which it was led is clear
  led_clear : v.held ≡ [] → AreCurrent m v → (c : Cell) → IsLedTo z v c → IsClear (m.version c)
  led_clear free current cell.Anchor led = clear_unless z p v m f at.step.sound at.alone at.before free cell.Anchor at.gone.anchor
  led_clear free current (cell.Leaf l) led = absurd led
  led_clear free current (cell.Node n) led =
      let r = at.step.sound in
      let same = current led.0 led.1 (none_held v led.0.cell free) in
      let holds = vouch_law z p v m f led.0 at.before r same in
      let there = led.2 r.logical r.shows.shape holds in
      clear_unless z p v m f r at.alone at.before free (cell.Node n) (at.gone.nodes r n ((r.numbers.tree (node n)).1 there))

  begun_found : (c : Cell) (x : ℕ) → (begin.view_after z v c x).found ≡ found_version v c x
  begun_found c x = cond_both (x % 4 == 0) _ _ (λ (u : View). u.found ≡ found_version v c x) (λ e. refl) (λ e. refl)

  -- a stamp of a cell that is not held is found unchanged
  pub unchanged : (x : Stamp) → AreCurrent m v → IsFreeStamp v x → (found seen : ℕ) → seen ≡ x.version → found ≢ seen → check.IsChanged v w x found → ⊥
  unchanged x current free found seen is other changed =
      let now = version_is x.cell found (ap (λ (u : View). u.found) changed.is) in
      other (sym now ∙ (current x free.0 free.1 ∙ sym is))

  checks_calm : (x : Stamp) (o : Option Deed) (r : Result ⊤ Changed) → AreCurrent m v → IsFreeStamp v x → check.Outcome z v w x o r → StaysCalm m v w
  checks_calm x o (Ok done) current free row = calm_same m v w (ap (λ (u : View). u.failures) row.is) (ap (λ (u : View). u.held) row.is) (ap (λ (u : View). u.stamps) row.is)
  checks_calm x o (Err c) current free row = absurd (unchanged x current free c.found c.seen row.1 row.2 row.3)

  pub cell_calm : AreCurrent m v → (o : Option Effects) (a : Action) (r : Answer) → IsLook a → IsCellFounded z v a → Answers z o a r v w → StaysCalm m v w
  cell_calm current o (Begin c) (Begun (Ok x)) is founded row =
      let is = row.2 ∙ begun_clear z v c x.version row.1 in
      record {
        failures = ap (λ (u : View). u.failures) is;
        held = cells_same v.held w.held (ap (λ (u : View). u.held) is);
        stamps = λ y there. ⊎_elim
            (λ (same : y ≡ begin.stamp_of z c x.version). inr (subst (λ (s : Stamp). m.version s.cell ≡ s.version) (sym same) (version_is c x.version (ap (λ (u : View). u.found) is))))
            (λ (old : Member y v.stamps). inl old)
            (subst (Member y) (ap (λ (u : View). u.stamps) is) there);
      }
  cell_calm current o (Begin c) (Begun (Err l)) is founded row =
      let now = version_is c l.found (ap (λ (u : View). u.found) row.2 ∙ begun_found c l.found) in
      absurd (row.1 (subst IsClear now (led_clear founded.0 current c founded.1)))
  cell_calm current o (Read x i) (Word a) is founded row = calm_same m v w (ap (λ (u : View). u.failures) row.is) (ap (λ (u : View). u.held) row.is) (ap (λ (u : View). u.stamps) row.is)
  cell_calm current o (ReadLeaf x l i) (Word a) is founded row = calm_same m v w (ap (λ (u : View). u.failures) row) (ap (λ (u : View). u.held) row) (ap (λ (u : View). u.stamps) row)
  cell_calm current o (Check x) (Checked r) is founded row = checks_calm x None r current founded row
  cell_calm current (Some e) (Settle x) (Checked r) is founded row = checks_calm x (Some e.deed) r current founded row
  cell_calm current None (Settle x) r is founded row = absurd row
  cell_calm current o (Begin c) (Word a) is founded row = absurd row
  cell_calm current o (Begin c) (Checked s) is founded row = absurd row
  cell_calm current o (Begin c) (Upgraded s) is founded row = absurd row
  cell_calm current o (Begin c) Done is founded row = absurd row
  cell_calm current o (Read x i) (Begun s) is founded row = absurd row
  cell_calm current o (Read x i) (Checked s) is founded row = absurd row
  cell_calm current o (Read x i) (Upgraded s) is founded row = absurd row
  cell_calm current o (Read x i) Done is founded row = absurd row
  cell_calm current o (ReadLeaf x l i) (Begun s) is founded row = absurd row
  cell_calm current o (ReadLeaf x l i) (Checked s) is founded row = absurd row
  cell_calm current o (ReadLeaf x l i) (Upgraded s) is founded row = absurd row
  cell_calm current o (ReadLeaf x l i) Done is founded row = absurd row
  cell_calm current o (Check x) (Begun s) is founded row = absurd row
  cell_calm current o (Check x) (Word a) is founded row = absurd row
  cell_calm current o (Check x) (Upgraded s) is founded row = absurd row
  cell_calm current o (Check x) Done is founded row = absurd row
  cell_calm current (Some e) (Settle x) (Begun s) is founded row = absurd row
  cell_calm current (Some e) (Settle x) (Word a) is founded row = absurd row
  cell_calm current (Some e) (Settle x) (Upgraded s) is founded row = absurd row
  cell_calm current (Some e) (Settle x) Done is founded row = absurd row
  cell_calm current o (Upgrade x) r is founded row = absurd is
  cell_calm current o (Claim n) r is founded row = absurd is
  cell_calm current o (Write c i word) r is founded row = absurd is
  cell_calm current o (WriteLeaf l i word) r is founded row = absurd is
  cell_calm current o (Commit c b) r is founded row = absurd is
  cell_calm current o (Release c b) r is founded row = absurd is
  cell_calm current o (ClearBit pool i bit) r is founded row = absurd is
  cell_calm current o (GiveBack d) r is founded row = absurd is
  cell_calm current o (Free d) r is founded row = absurd is
  cell_calm current o ReadEpoch r is founded row = absurd is
  cell_calm current o (StorePin y) r is founded row = absurd is
  cell_calm current o RaiseEpoch r is founded row = absurd is
  cell_calm current o (ReadPin q) r is founded row = absurd is

  -- ---- numbers and epochs

  taken_found : (pool : Pool) (i : ℕ) (bit : Option ℕ) (x : ℕ) (ws : List ℕ) → (take_free.view_after v pool i bit x ws).found ≡ record { word = Free pool i x; step = v.steps + 1 } ∷ v.found
  taken_found pool i None x ws = refl
  taken_found pool i (Some k) x ws = cond_both (bit_of x k == 1) _ _ (λ (u : View). u.found ≡ record { word = Free pool i x; step = v.steps + 1 } ∷ v.found) (λ e. refl) (λ e. refl)

  -- what a take of a bit that is set, or of none, changes
  abbrev Quiet : View → Type 0
  Quiet u = (u.failures ≡ v.failures) × (u.held ≡ v.held) × (u.stamps ≡ v.stamps)

  takes_quiet : (pool : Pool) (i : ℕ) (bit : Option ℕ) (x : ℕ) (ws : List ℕ) → m.free_word pool i ≡ x → IsBitSet m pool i bit → Quiet (take_free.view_after v pool i bit x ws)
  takes_quiet pool i None x ws same set = (refl, refl, refl)
  takes_quiet pool i (Some k) x ws same set =
      let one : bit_of x k ≡ 1 = subst (λ (y : ℕ). bit_of y k ≡ 1) same set in
      rw (eq-eqb (bit_of x k) 1 one) (refl, refl, refl)

  pinned_calm : (x : ℕ) → w ≡ pin.view_after v x → StaysCalm m v w
  pinned_calm x is =
      let Calm : View → Type 0 = λ u. StaysCalm m v u in
      subst Calm (sym is) (cond_both (x == 0) _ _ Calm
      (λ e. calm_none m v _ refl refl refl)
      (λ e. calm_same m v _ refl refl refl))

  pub clear_calm : (o : Option Effects) (pool : Pool) (i : ℕ) (bit : Option ℕ) (r : Answer) → IsBitSet m pool i bit → Answers z o (ClearBit pool i bit) r v w → StaysCalm m v w
  clear_calm o pool i bit (Word x) set row =
      let now = free_is pool i x (ap (λ (u : View). u.found) row.is ∙ taken_found pool i bit x row.words) in
      let quiet = takes_quiet pool i bit x row.words now set in
      calm_same m v w (ap (λ (u : View). u.failures) row.is ∙ quiet.0) (ap (λ (u : View). u.held) row.is ∙ quiet.1) (ap (λ (u : View). u.stamps) row.is ∙ quiet.2)
  clear_calm o pool i bit (Begun s) set row = absurd row
  clear_calm o pool i bit (Checked s) set row = absurd row
  clear_calm o pool i bit (Upgraded s) set row = absurd row
  clear_calm o pool i bit Done set row = absurd row

  pub frame_calm : (o : Option Effects) (a : Action) (r : Answer) → IsFrame a → Answers z o a r v w → StaysCalm m v w
  frame_calm o (Begin c) r is row = absurd is
  frame_calm o (Read x i) r is row = absurd is
  frame_calm o (ReadLeaf x l i) r is row = absurd is
  frame_calm o (Check x) r is row = absurd is
  frame_calm o (Settle x) r is row = absurd is
  frame_calm o (Upgrade x) r is row = absurd is
  frame_calm o (Claim n) r is row = absurd is
  frame_calm o (Write c i word) r is row = absurd is
  frame_calm o (WriteLeaf l i word) r is row = absurd is
  frame_calm o (Commit c b) r is row = absurd is
  frame_calm o (Release c b) r is row = absurd is
  frame_calm o (ClearBit pool i bit) r is row = absurd is
  frame_calm o (GiveBack d) (Begun s) is row = absurd row
  frame_calm o (GiveBack d) (Word a) is row = absurd row
  frame_calm o (GiveBack d) (Checked s) is row = absurd row
  frame_calm o (GiveBack d) (Upgraded s) is row = absurd row
  frame_calm o (GiveBack d) Done is row = calm_same m v w (ap (λ (u : View). u.failures) row.is) (ap (λ (u : View). u.held) row.is) (ap (λ (u : View). u.stamps) row.is)
  frame_calm o (Free d) (Begun s) is row = absurd row
  frame_calm o (Free d) (Word a) is row = absurd row
  frame_calm o (Free d) (Checked s) is row = absurd row
  frame_calm o (Free d) (Upgraded s) is row = absurd row
  frame_calm o (Free d) Done is row = calm_same m v w (ap (λ (u : View). u.failures) row.is) (ap (λ (u : View). u.held) row.is) (ap (λ (u : View). u.stamps) row.is)
  frame_calm o ReadEpoch (Begun s) is row = absurd row
  frame_calm o ReadEpoch (Word a) is row = calm_same m v w (ap (λ (u : View). u.failures) row.is) (ap (λ (u : View). u.held) row.is) (ap (λ (u : View). u.stamps) row.is)
  frame_calm o ReadEpoch (Checked s) is row = absurd row
  frame_calm o ReadEpoch (Upgraded s) is row = absurd row
  frame_calm o ReadEpoch Done is row = absurd row
  frame_calm o (StorePin y) (Begun s) is row = absurd row
  frame_calm o (StorePin y) (Word a) is row = absurd row
  frame_calm o (StorePin y) (Checked s) is row = absurd row
  frame_calm o (StorePin y) (Upgraded s) is row = absurd row
  frame_calm o (StorePin y) Done is row = pinned_calm y row
  frame_calm o RaiseEpoch (Begun s) is row = absurd row
  frame_calm o RaiseEpoch (Word a) is row = calm_same m v w (ap (λ (u : View). u.failures) row) (ap (λ (u : View). u.held) row) (ap (λ (u : View). u.stamps) row)
  frame_calm o RaiseEpoch (Checked s) is row = absurd row
  frame_calm o RaiseEpoch (Upgraded s) is row = absurd row
  frame_calm o RaiseEpoch Done is row = absurd row
  frame_calm o (ReadPin q) (Begun s) is row = absurd row
  frame_calm o (ReadPin q) (Word a) is row = calm_same m v w (ap (λ (u : View). u.failures) row) (ap (λ (u : View). u.held) row) (ap (λ (u : View). u.stamps) row)
  frame_calm o (ReadPin q) (Checked s) is row = absurd row
  frame_calm o (ReadPin q) (Upgraded s) is row = absurd row
  frame_calm o (ReadPin q) Done is row = absurd row
