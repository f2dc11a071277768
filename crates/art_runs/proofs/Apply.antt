-- A step of a pass that is alone does not fail, and stamps stay current as long as it unlocks nothing and makes no event.
use Rattle.std.proofs.Common.{◌≡◌, ◌≢◌, ◌∷◌, ℕ, List, [], length, inl, inr, refl, sym, ap, ◌∙◌, subst, arith, ⊎_elim, Option, Some, None}
use Rattle.std.proofs.lemmas.List.{length-append}
use Rattle.std.specs.Prelude.{Ok, Err, ⊤, ◌++◌}
use Rattle.art_step.specs.Acting.{Answers, IsAllowed}
use Rattle.art_step.specs.declared.actions.Action.{Action}
use Rattle.art_step.specs.declared.actions.Action.TheVariants.{Begin, Read, ReadLeaf, Check, Settle, Upgrade, Claim, Write, WriteLeaf, Commit, Release}
use Rattle.art_step.specs.declared.actions.Action.TheVariants.{ClearBit, GiveBack, Free, ReadEpoch, StorePin, RaiseEpoch, ReadPin}
use Rattle.art_step.specs.declared.actions.Answer.{Answer}
use Rattle.art_step.specs.declared.actions.Answer.TheVariants.{Begun, Word, Checked, Upgraded, Done}
use Rattle.art_step.specs.declared.actions.Effects.{Effects}
use Rattle.art_runs.proofs.Calm.{IsFounded, IsMoment, calm_current, calm_same, cell_calm, clear_calm, frame_calm, unchanged}
use Rattle.art_runs.proofs.Versions.{SameCells, versions_but}
use Rattle.art_runs.specs.OthersIdle.{AreCurrent}
use Rattle.art_tree.proofs.Places.{same_cell}
use Rattle.art_step.specs.Events.{MakesEvent}
use Rattle.art_step.specs.Views.{Member, Memory, Views}
use Rattle.art_step.specs.Steps.Write as write
use Rattle.art_step.specs.declared.deeds.Deed.{Deed}
use Rattle.art_step.specs.declared.faults.UpgradeFault.TheVariants as fault
use Rattle.art_step.specs.declared.views.Holding.{Holding}
use Rattle.art_step.specs.declared.views.Sizes.{Sizes}
use Rattle.art_step.specs.declared.views.View.{View}

-- it looks at a version word, or locks it: its stamp has to be that of its cell
abbrev pub NeedsCurrent : Action → Type 0
NeedsCurrent (Begin c) = ⊤
NeedsCurrent (Read x i) = ⊤
NeedsCurrent (ReadLeaf x l i) = ⊤
NeedsCurrent (Check x) = ⊤
NeedsCurrent (Settle x) = ⊤
NeedsCurrent (Upgrade x) = ⊤
NeedsCurrent a = ⊥

-- it locks a cell
abbrev pub IsUpgrade : Action → Type 0
IsUpgrade (Upgrade x) = ⊤
IsUpgrade a = ⊥

-- it releases a cell, and commits nothing
abbrev pub IsRelease : Action → Type 0
IsRelease (Release c b) = ⊤
IsRelease a = ⊥

-- ---- a step

-- a word is written: the same cells are held
puts_same : (hs hs' : List Holding) (h : Holding) (i x : ℕ) → Member h hs → write.Puts hs h (write.with_word h i x) hs' → SameCells hs hs'
puts_same hs hs' h i x there puts = record {
  stays = λ a at. ⊎_elim
      (λ (same : a.cell ≡ h.cell). (write.with_word h i x, puts.has, sym same))
      (λ (other : a.cell ≢ h.cell). (a, puts.stays a at (λ e. other (ap (λ (k : Holding). k.cell) e)), refl))
      (same_cell a.cell h.cell);
  was = λ a at. ⊎_elim
      (λ (same : a ≡ write.with_word h i x). (h, there, sym (ap (λ (k : Holding). k.cell) same)))
      (λ (old : Member a hs × (a ≢ h)). (a, old.0, refl))
      (puts.was a at);
}

module _ (z : Sizes) (p : ℕ) (m : Memory) (f : Views) (m' : Memory) (f' : Views) (v w : View) (at : IsMoment z p m f m' f' v w) where
  -- a cell that came to be held is the only one whose word changed
  locks_current : AreCurrent m v → w.own ≡ v.own → (h : Holding) → w.held ≡ h ∷ v.held → w.stamps ≡ v.stamps → AreCurrent m' w
  locks_current current own h held stamps x there free =
      let none : (k : Holding) → Member k (h ∷ v.held) → k.cell ≢ x.cell = λ k is. free k (subst (Member k) (sym held) is) in
      versions_but z p v w m f m' f' at.step at.before at.after own h held x.cell (λ same. none h (inl refl) (sym same))
      ∙ current x (subst (Member x) stamps there) (λ k is. none k (inr is))

  -- what an event adds to a view's own
  event_longer : (what : Deed) → MakesEvent v w what → w.own ≡ v.own → ⊥
  event_longer what made own =
      let long = ap (λ (o : List ℕ). length o) made.own ∙ length-append v.own (length (v.seen ++ made.between) ∷ []) in
      let same = ap (λ (o : List ℕ). length o) own in
      absurd (omega (arith, long, same))

  -- it does not fail
  pub step_calm : (o : Option Effects) (a : Action) (r : Answer) → IsFounded z m v a → (NeedsCurrent a → AreCurrent m v) → IsAllowed z o v a → Answers z o a r v w → w.failures ≡ v.failures
  step_calm o (Begin c) r founded needs may row = (cell_calm z p m f m' f' v w at (needs tt) o (Begin c) r tt founded row).failures
  step_calm o (Read x i) r founded needs may row = (cell_calm z p m f m' f' v w at (needs tt) o (Read x i) r tt founded row).failures
  step_calm o (ReadLeaf x l i) r founded needs may row = (cell_calm z p m f m' f' v w at (needs tt) o (ReadLeaf x l i) r tt founded row).failures
  step_calm o (Check x) r founded needs may row = (cell_calm z p m f m' f' v w at (needs tt) o (Check x) r tt founded row).failures
  step_calm o (Settle x) r founded needs may row = (cell_calm z p m f m' f' v w at (needs tt) o (Settle x) r tt founded row).failures
  step_calm o (Upgrade x) (Upgraded (Ok done)) founded needs may row = ap (λ (u : View). u.failures) row.is
  step_calm o (Upgrade x) (Upgraded (Err (fault.Changed e))) founded needs may row = absurd (unchanged z p m f m' f' v w at x (needs tt) founded e.found e.seen row.1 row.2 row.3)
  step_calm o (Upgrade x) (Upgraded (Err (fault.Exhausted e))) founded needs may row = ap (λ (u : View). u.failures) row.2
  step_calm o (Upgrade x) (Begun s) founded needs may row = absurd row
  step_calm o (Upgrade x) (Word a) founded needs may row = absurd row
  step_calm o (Upgrade x) (Checked s) founded needs may row = absurd row
  step_calm o (Upgrade x) Done founded needs may row = absurd row
  step_calm o (Claim n) (Begun s) founded needs may row = absurd row
  step_calm o (Claim n) (Word a) founded needs may row = absurd row
  step_calm o (Claim n) (Checked s) founded needs may row = absurd row
  step_calm o (Claim n) (Upgraded s) founded needs may row = absurd row
  step_calm o (Claim n) Done founded needs may row = ap (λ (u : View). u.failures) row.is
  step_calm o (Write c i word) (Begun s) founded needs may row = absurd row
  step_calm o (Write c i word) (Word a) founded needs may row = absurd row
  step_calm o (Write c i word) (Checked s) founded needs may row = absurd row
  step_calm o (Write c i word) (Upgraded s) founded needs may row = absurd row
  step_calm o (Write c i word) Done founded needs may row = let q = row may.holding (may.may.held, may.cell) in ap (λ (u : View). u.failures) q.is
  step_calm o (WriteLeaf l i word) (Begun s) founded needs may row = absurd row
  step_calm o (WriteLeaf l i word) (Word a) founded needs may row = absurd row
  step_calm o (WriteLeaf l i word) (Checked s) founded needs may row = absurd row
  step_calm o (WriteLeaf l i word) (Upgraded s) founded needs may row = absurd row
  step_calm o (WriteLeaf l i word) Done founded needs may row = let q = row may.0.hand may.0.has in ap (λ (u : View). u.failures) q.is
  step_calm None (Commit c b) r founded needs may row = absurd may
  step_calm (Some e) (Commit c b) (Begun s) founded needs may row = absurd row
  step_calm (Some e) (Commit c b) (Word a) founded needs may row = absurd row
  step_calm (Some e) (Commit c b) (Checked s) founded needs may row = absurd row
  step_calm (Some e) (Commit c b) (Upgraded s) founded needs may row = absurd row
  step_calm (Some e) (Commit c b) Done founded needs may row = ap (λ (u : View). u.failures) (row.outcome may.holding (may.first.held, may.cell)).is
  step_calm o (Release c b) (Begun s) founded needs may row = absurd row
  step_calm o (Release c b) (Word a) founded needs may row = absurd row
  step_calm o (Release c b) (Checked s) founded needs may row = absurd row
  step_calm o (Release c b) (Upgraded s) founded needs may row = absurd row
  step_calm o (Release c b) Done founded needs may row = let q = row may.holding (may.may.0, may.cell) in ap (λ (u : View). u.failures) q.is
  step_calm o (ClearBit pool i bit) r founded needs may row = (clear_calm z p m f m' f' v w at o pool i bit r founded row).failures
  step_calm o (GiveBack d) r founded needs may row = (frame_calm z p m f m' f' v w at o (GiveBack d) r tt row).failures
  step_calm o (Free d) r founded needs may row = (frame_calm z p m f m' f' v w at o (Free d) r tt row).failures
  step_calm o ReadEpoch r founded needs may row = (frame_calm z p m f m' f' v w at o ReadEpoch r tt row).failures
  step_calm o (StorePin y) r founded needs may row = (frame_calm z p m f m' f' v w at o (StorePin y) r tt row).failures
  step_calm o RaiseEpoch r founded needs may row = (frame_calm z p m f m' f' v w at o RaiseEpoch r tt row).failures
  step_calm o (ReadPin q) r founded needs may row = (frame_calm z p m f m' f' v w at o (ReadPin q) r tt row).failures

  -- and where it is no release and makes no event, stamps stay current
  pub step_keeps : (o : Option Effects) (a : Action) (r : Answer) → IsFounded z m v a → AreCurrent m v → w.own ≡ v.own → (IsRelease a → ⊥) → IsAllowed z o v a → Answers z o a r v w → AreCurrent m' w
  step_keeps o (Begin c) r founded current own stays may row = calm_current z p m f m' f' v w at (cell_calm z p m f m' f' v w at current o (Begin c) r tt founded row) own current
  step_keeps o (Read x i) r founded current own stays may row = calm_current z p m f m' f' v w at (cell_calm z p m f m' f' v w at current o (Read x i) r tt founded row) own current
  step_keeps o (ReadLeaf x l i) r founded current own stays may row = calm_current z p m f m' f' v w at (cell_calm z p m f m' f' v w at current o (ReadLeaf x l i) r tt founded row) own current
  step_keeps o (Check x) r founded current own stays may row = calm_current z p m f m' f' v w at (cell_calm z p m f m' f' v w at current o (Check x) r tt founded row) own current
  step_keeps o (Settle x) r founded current own stays may row = calm_current z p m f m' f' v w at (cell_calm z p m f m' f' v w at current o (Settle x) r tt founded row) own current
  step_keeps o (Upgrade x) (Upgraded (Ok done)) founded current own stays may row = locks_current current own _ (ap (λ (u : View). u.held) row.is) (ap (λ (u : View). u.stamps) row.is)
  step_keeps o (Upgrade x) (Upgraded (Err (fault.Changed e))) founded current own stays may row = absurd (unchanged z p m f m' f' v w at x current founded e.found e.seen row.1 row.2 row.3)
  step_keeps o (Upgrade x) (Upgraded (Err (fault.Exhausted e))) founded current own stays may row =
      calm_current z p m f m' f' v w at (calm_same m v w (ap (λ (u : View). u.failures) row.2) (ap (λ (u : View). u.held) row.2) (ap (λ (u : View). u.stamps) row.2)) own current
  step_keeps o (Upgrade x) (Begun s) founded current own stays may row = absurd row
  step_keeps o (Upgrade x) (Word a) founded current own stays may row = absurd row
  step_keeps o (Upgrade x) (Checked s) founded current own stays may row = absurd row
  step_keeps o (Upgrade x) Done founded current own stays may row = absurd row
  step_keeps o (Claim n) (Begun s) founded current own stays may row = absurd row
  step_keeps o (Claim n) (Word a) founded current own stays may row = absurd row
  step_keeps o (Claim n) (Checked s) founded current own stays may row = absurd row
  step_keeps o (Claim n) (Upgraded s) founded current own stays may row = absurd row
  step_keeps o (Claim n) Done founded current own stays may row = locks_current current own _ (ap (λ (u : View). u.held) row.is) (ap (λ (u : View). u.stamps) row.is)
  step_keeps o (Write c i word) (Begun s) founded current own stays may row = absurd row
  step_keeps o (Write c i word) (Word a) founded current own stays may row = absurd row
  step_keeps o (Write c i word) (Checked s) founded current own stays may row = absurd row
  step_keeps o (Write c i word) (Upgraded s) founded current own stays may row = absurd row
  step_keeps o (Write c i word) Done founded current own stays may row =
      let q = row may.holding (may.may.held, may.cell) in
      calm_current z p m f m' f' v w at (record {
        failures = ap (λ (u : View). u.failures) q.is;
        held = subst (SameCells v.held) (sym (ap (λ (u : View). u.held) q.is)) (puts_same v.held q.held may.holding i word may.may.held q.puts);
        stamps = λ y there. inl (subst (Member y) (ap (λ (u : View). u.stamps) q.is) there);
      }) own current
  step_keeps o (WriteLeaf l i word) (Begun s) founded current own stays may row = absurd row
  step_keeps o (WriteLeaf l i word) (Word a) founded current own stays may row = absurd row
  step_keeps o (WriteLeaf l i word) (Checked s) founded current own stays may row = absurd row
  step_keeps o (WriteLeaf l i word) (Upgraded s) founded current own stays may row = absurd row
  step_keeps o (WriteLeaf l i word) Done founded current own stays may row =
      let q = row may.0.hand may.0.has in
      calm_current z p m f m' f' v w at (calm_same m v w (ap (λ (u : View). u.failures) q.is) (ap (λ (u : View). u.held) q.is) (ap (λ (u : View). u.stamps) q.is)) own current
  step_keeps None (Commit c b) r founded current own stays may row = absurd may
  step_keeps (Some e) (Commit c b) (Begun s) founded current own stays may row = absurd row
  step_keeps (Some e) (Commit c b) (Word a) founded current own stays may row = absurd row
  step_keeps (Some e) (Commit c b) (Checked s) founded current own stays may row = absurd row
  step_keeps (Some e) (Commit c b) (Upgraded s) founded current own stays may row = absurd row
  step_keeps (Some e) (Commit c b) Done founded current own stays may row = absurd (event_longer e.deed (row.outcome may.holding (may.first.held, may.cell)).made own)
  step_keeps o (Release c b) r founded current own stays may row = absurd (stays tt)
  step_keeps o (ClearBit pool i bit) r founded current own stays may row = calm_current z p m f m' f' v w at (clear_calm z p m f m' f' v w at o pool i bit r founded row) own current
  step_keeps o (GiveBack d) r founded current own stays may row = calm_current z p m f m' f' v w at (frame_calm z p m f m' f' v w at o (GiveBack d) r tt row) own current
  step_keeps o (Free d) r founded current own stays may row = calm_current z p m f m' f' v w at (frame_calm z p m f m' f' v w at o (Free d) r tt row) own current
  step_keeps o ReadEpoch r founded current own stays may row = calm_current z p m f m' f' v w at (frame_calm z p m f m' f' v w at o ReadEpoch r tt row) own current
  step_keeps o (StorePin y) r founded current own stays may row = calm_current z p m f m' f' v w at (frame_calm z p m f m' f' v w at o (StorePin y) r tt row) own current
  step_keeps o RaiseEpoch r founded current own stays may row = calm_current z p m f m' f' v w at (frame_calm z p m f m' f' v w at o RaiseEpoch r tt row) own current
  step_keeps o (ReadPin q) r founded current own stays may row = calm_current z p m f m' f' v w at (frame_calm z p m f m' f' v w at o (ReadPin q) r tt row) own current
