-- An action is one step, and one that fails counts as a failure.
use Rattle.std.proofs.Common.{◌≡◌, ℕ, ◌+◌, ◌≤◌, ◌%◌, ◌==◌, Bool, true, false, if◌then◌else◌, ⊎_elim, refl, ap, ◌∙◌, arith, List}
use Rattle.std.proofs.lemmas.Bool.{cases_Bool, eq-eqb, ne_eqb}
use Rattle.std.specs.Prelude.{Option, Some, None, Result, Ok, Err}
use Rattle.art_cell.specs.declared.cells.Cell.{Cell}
use Rattle.art_cell.specs.declared.cells.Pool.{Pool}
use Rattle.art_step.specs.Acting.{Answers, IsAllowed, IsLook, goes_on, steps_in, telling}
use Rattle.art_step.specs.declared.actions.Action.{Action}
use Rattle.art_step.specs.declared.actions.Action.TheVariants.{Begin, Read, ReadLeaf, Check, Settle, Upgrade, Claim, Write, WriteLeaf, Commit, Release, ClearBit, GiveBack, Free, ReadEpoch, StorePin, RaiseEpoch, ReadPin}
use Rattle.art_step.specs.declared.actions.Answer.{Answer}
use Rattle.art_step.specs.declared.actions.Answer.TheVariants.{Begun, Word, Checked, Upgraded, Done}
use Rattle.art_step.specs.Steps.Begin as begin
use Rattle.art_step.specs.Steps.Check as check
use Rattle.art_step.specs.Steps.Pin as pin
use Rattle.art_step.specs.Steps.Take as take_free
use Rattle.art_step.specs.Views.{bit_of}
use Rattle.art_step.specs.declared.deeds.Deed.{Deed}
use Rattle.art_step.specs.declared.actions.Effects.{Effects}
use Rattle.art_step.specs.declared.faults.Changed.{Changed}
use Rattle.art_step.specs.declared.faults.UpgradeFault.TheVariants as fault
use Rattle.art_step.specs.declared.views.Sizes.{Sizes}
use Rattle.art_step.specs.declared.views.Stamp.{Stamp}
use Rattle.art_step.specs.declared.views.View.{View}

pub taking_counts : (v : View) (pool : Pool) (i : ℕ) (bit : Option ℕ) (x : ℕ) (ws : List ℕ) → (take_free.view_after v pool i bit x ws).steps ≡ v.steps + 1
taking_counts v pool i None x ws = refl
taking_counts v pool i (Some k) x ws = ⊎_elim
    (λ (e : (bit_of x k == 1) ≡ true). rw e refl)
    (λ (e : (bit_of x k == 1) ≡ false). rw e refl)
    (cases_Bool (bit_of x k == 1))

pub pinning_counts : (v : View) (x : ℕ) → (pin.view_after v x).steps ≡ v.steps + 1
pinning_counts v x = ⊎_elim (λ (e : (x == 0) ≡ true). rw e refl) (λ (e : (x == 0) ≡ false). rw e refl) (cases_Bool (x == 0))

-- after a step, which failed or not
pub record Counted (v w : View) (on : Bool) : Type 0 where
  pub steps : w.steps ≡ v.steps + 1
  pub failures : w.failures ≡ (if on then v.failures else v.failures + 1)

begun_counts : (z : Sizes) (v w : View) (c : Cell) (x : ℕ) (on : Bool) → (x % 4 == 0) ≡ on → w ≡ begin.view_after z v c x → Counted v w on
begun_counts z v w c x true clear is = record {
  steps = ap (λ (u : View). u.steps) is ∙ rw clear refl;
  failures = ap (λ (u : View). u.failures) is ∙ rw clear refl;
}
begun_counts z v w c x false clear is = record {
  steps = ap (λ (u : View). u.steps) is ∙ rw clear refl;
  failures = ap (λ (u : View). u.failures) is ∙ rw clear refl;
}

checked_counts : (z : Sizes) (v w : View) (x : Stamp) (o : Option Deed) (r : Result (Unit {0}) Changed) → check.Outcome z v w x o r → Counted v w (goes_on (Checked r))
checked_counts z v w x o (Ok done) row = record { steps = ap (λ (u : View). u.steps) row.is; failures = ap (λ (u : View). u.failures) row.is }
checked_counts z v w x o (Err c) row = record { steps = ap (λ (u : View). u.steps) row.3.is; failures = ap (λ (u : View). u.failures) row.3.is }

-- a look is one step, which failed or not
pub look_counts : (z : Sizes) (d : Deed) (a : Action) (r : Answer) (v w : View) → IsLook a → Answers z (telling d) a r v w → Counted v w (goes_on r)
look_counts z d (Begin c) (Begun (Ok x)) v w is row = begun_counts z v w c x.version true (eq-eqb (x.version % 4) 0 row.1) row.2
look_counts z d (Begin c) (Begun (Err l)) v w is row = begun_counts z v w c l.found false (ne_eqb (l.found % 4) 0 row.1) row.2
look_counts z d (Read x i) (Word a) v w is row = record { steps = ap (λ (u : View). u.steps) row.is; failures = ap (λ (u : View). u.failures) row.is }
look_counts z d (ReadLeaf x l i) (Word a) v w is row = record { steps = ap (λ (u : View). u.steps) row; failures = ap (λ (u : View). u.failures) row }
look_counts z d (Check x) (Checked r) v w is row = checked_counts z v w x None r row
look_counts z d (Settle x) (Checked r) v w is row = checked_counts z v w x (Some d) r row
look_counts z d (Begin c) (Word y) v w is row = absurd row
look_counts z d (Begin c) (Checked r) v w is row = absurd row
look_counts z d (Begin c) (Upgraded r) v w is row = absurd row
look_counts z d (Begin c) Done v w is row = absurd row
look_counts z d (Read x i) (Begun r) v w is row = absurd row
look_counts z d (Read x i) (Checked r) v w is row = absurd row
look_counts z d (Read x i) (Upgraded r) v w is row = absurd row
look_counts z d (Read x i) Done v w is row = absurd row
look_counts z d (ReadLeaf x l i) (Begun r) v w is row = absurd row
look_counts z d (ReadLeaf x l i) (Checked r) v w is row = absurd row
look_counts z d (ReadLeaf x l i) (Upgraded r) v w is row = absurd row
look_counts z d (ReadLeaf x l i) Done v w is row = absurd row
look_counts z d (Check x) (Begun r) v w is row = absurd row
look_counts z d (Check x) (Word y) v w is row = absurd row
look_counts z d (Check x) (Upgraded r) v w is row = absurd row
look_counts z d (Check x) Done v w is row = absurd row
look_counts z d (Settle x) (Begun r) v w is row = absurd row
look_counts z d (Settle x) (Word y) v w is row = absurd row
look_counts z d (Settle x) (Upgraded r) v w is row = absurd row
look_counts z d (Settle x) Done v w is row = absurd row
look_counts z d a r v w is row = absurd is

-- an action is one step, but for an upgrade whose counter is at its end, which is none
pub steps_made : (z : Sizes) (o : Option Effects) (a : Action) (r : Answer) (v w : View) → IsAllowed z o v a → Answers z o a r v w → w.steps ≡ v.steps + steps_in r
steps_made z o (Begin c) (Begun (Ok x)) v w may row = (begun_counts z v w c x.version true (eq-eqb (x.version % 4) 0 row.1) row.2).steps
steps_made z o (Begin c) (Begun (Err l)) v w may row = (begun_counts z v w c l.found false (ne_eqb (l.found % 4) 0 row.1) row.2).steps
steps_made z o (Begin c) (Word y) v w may row = absurd row
steps_made z o (Begin c) (Checked r) v w may row = absurd row
steps_made z o (Begin c) (Upgraded r) v w may row = absurd row
steps_made z o (Begin c) Done v w may row = absurd row
steps_made z o (Read x i) (Word y) v w may row = ap (λ (u : View). u.steps) row.is
steps_made z o (Read x i) (Begun r) v w may row = absurd row
steps_made z o (Read x i) (Checked r) v w may row = absurd row
steps_made z o (Read x i) (Upgraded r) v w may row = absurd row
steps_made z o (Read x i) Done v w may row = absurd row
steps_made z o (ReadLeaf x l i) (Word y) v w may row = ap (λ (u : View). u.steps) row
steps_made z o (ReadLeaf x l i) (Begun r) v w may row = absurd row
steps_made z o (ReadLeaf x l i) (Checked r) v w may row = absurd row
steps_made z o (ReadLeaf x l i) (Upgraded r) v w may row = absurd row
steps_made z o (ReadLeaf x l i) Done v w may row = absurd row
steps_made z o (Check x) (Checked r) v w may row = (checked_counts z v w x None r row).steps
steps_made z o (Check x) (Begun r) v w may row = absurd row
steps_made z o (Check x) (Word y) v w may row = absurd row
steps_made z o (Check x) (Upgraded r) v w may row = absurd row
steps_made z o (Check x) Done v w may row = absurd row
steps_made z None (Settle x) r v w may row = absurd may
steps_made z (Some e) (Settle x) (Checked r) v w may row = (checked_counts z v w x (Some e.deed) r row).steps
steps_made z (Some e) (Settle x) (Begun r) v w may row = absurd row
steps_made z (Some e) (Settle x) (Word y) v w may row = absurd row
steps_made z (Some e) (Settle x) (Upgraded r) v w may row = absurd row
steps_made z (Some e) (Settle x) Done v w may row = absurd row
steps_made z o (Upgrade x) (Upgraded (Ok done)) v w may row = ap (λ (u : View). u.steps) row.is
steps_made z o (Upgrade x) (Upgraded (Err (fault.Changed e))) v w may row = ap (λ (u : View). u.steps) row.3.is
steps_made z o (Upgrade x) (Upgraded (Err (fault.Exhausted e))) v w may row = let same = ap (λ (u : View). u.steps) row.2 in omega (arith, same)
steps_made z o (Upgrade x) (Begun r) v w may row = absurd row
steps_made z o (Upgrade x) (Word y) v w may row = absurd row
steps_made z o (Upgrade x) (Checked r) v w may row = absurd row
steps_made z o (Upgrade x) Done v w may row = absurd row
steps_made z o (Claim n) Done v w may row = ap (λ (u : View). u.steps) row.is
steps_made z o (Claim n) (Begun r) v w may row = absurd row
steps_made z o (Claim n) (Word y) v w may row = absurd row
steps_made z o (Claim n) (Checked r) v w may row = absurd row
steps_made z o (Claim n) (Upgraded r) v w may row = absurd row
steps_made z o (Write c i word) Done v w may row = ap (λ (u : View). u.steps) (row may.holding (may.may.held, may.cell)).is
steps_made z o (Write c i word) (Begun r) v w may row = absurd row
steps_made z o (Write c i word) (Word y) v w may row = absurd row
steps_made z o (Write c i word) (Checked r) v w may row = absurd row
steps_made z o (Write c i word) (Upgraded r) v w may row = absurd row
steps_made z o (WriteLeaf l i word) Done v w may row = ap (λ (u : View). u.steps) (row may.0.hand may.0.has).is
steps_made z o (WriteLeaf l i word) (Begun r) v w may row = absurd row
steps_made z o (WriteLeaf l i word) (Word y) v w may row = absurd row
steps_made z o (WriteLeaf l i word) (Checked r) v w may row = absurd row
steps_made z o (WriteLeaf l i word) (Upgraded r) v w may row = absurd row
steps_made z None (Commit c b) r v w may row = absurd may
steps_made z (Some e) (Commit c b) Done v w may row = ap (λ (u : View). u.steps) (row.outcome may.holding (may.first.held, may.cell)).is
steps_made z (Some e) (Commit c b) (Begun r) v w may row = absurd row
steps_made z (Some e) (Commit c b) (Word y) v w may row = absurd row
steps_made z (Some e) (Commit c b) (Checked r) v w may row = absurd row
steps_made z (Some e) (Commit c b) (Upgraded r) v w may row = absurd row
steps_made z o (Release c b) Done v w may row = ap (λ (u : View). u.steps) (row may.holding (may.may.0, may.cell)).is
steps_made z o (Release c b) (Begun r) v w may row = absurd row
steps_made z o (Release c b) (Word y) v w may row = absurd row
steps_made z o (Release c b) (Checked r) v w may row = absurd row
steps_made z o (Release c b) (Upgraded r) v w may row = absurd row
steps_made z o (ClearBit p i b) (Word y) v w may row = ap (λ (u : View). u.steps) row.is ∙ taking_counts v p i b y row.words
steps_made z o (ClearBit p i b) (Begun r) v w may row = absurd row
steps_made z o (ClearBit p i b) (Checked r) v w may row = absurd row
steps_made z o (ClearBit p i b) (Upgraded r) v w may row = absurd row
steps_made z o (ClearBit p i b) Done v w may row = absurd row
steps_made z o (GiveBack d) Done v w may row = ap (λ (u : View). u.steps) row.is
steps_made z o (GiveBack d) (Begun r) v w may row = absurd row
steps_made z o (GiveBack d) (Word y) v w may row = absurd row
steps_made z o (GiveBack d) (Checked r) v w may row = absurd row
steps_made z o (GiveBack d) (Upgraded r) v w may row = absurd row
steps_made z o (Free d) Done v w may row = ap (λ (u : View). u.steps) row.is
steps_made z o (Free d) (Begun r) v w may row = absurd row
steps_made z o (Free d) (Word y) v w may row = absurd row
steps_made z o (Free d) (Checked r) v w may row = absurd row
steps_made z o (Free d) (Upgraded r) v w may row = absurd row
steps_made z o ReadEpoch (Word y) v w may row = ap (λ (u : View). u.steps) row.is
steps_made z o ReadEpoch (Begun r) v w may row = absurd row
steps_made z o ReadEpoch (Checked r) v w may row = absurd row
steps_made z o ReadEpoch (Upgraded r) v w may row = absurd row
steps_made z o ReadEpoch Done v w may row = absurd row
steps_made z o (StorePin word) Done v w may row = ap (λ (u : View). u.steps) row ∙ pinning_counts v word
steps_made z o (StorePin word) (Begun r) v w may row = absurd row
steps_made z o (StorePin word) (Word y) v w may row = absurd row
steps_made z o (StorePin word) (Checked r) v w may row = absurd row
steps_made z o (StorePin word) (Upgraded r) v w may row = absurd row
steps_made z o RaiseEpoch (Word y) v w may row = ap (λ (u : View). u.steps) row
steps_made z o RaiseEpoch (Begun r) v w may row = absurd row
steps_made z o RaiseEpoch (Checked r) v w may row = absurd row
steps_made z o RaiseEpoch (Upgraded r) v w may row = absurd row
steps_made z o RaiseEpoch Done v w may row = absurd row
steps_made z o (ReadPin q) (Word y) v w may row = ap (λ (u : View). u.steps) row
steps_made z o (ReadPin q) (Begun r) v w may row = absurd row
steps_made z o (ReadPin q) (Checked r) v w may row = absurd row
steps_made z o (ReadPin q) (Upgraded r) v w may row = absurd row
steps_made z o (ReadPin q) Done v w may row = absurd row

pub steps_few : (r : Answer) → steps_in r ≤ 1
steps_few (Begun r) = omega arith
steps_few (Word x) = omega arith
steps_few (Checked r) = omega arith
steps_few (Upgraded (Ok done)) = omega arith
steps_few (Upgraded (Err (fault.Changed e))) = omega arith
steps_few (Upgraded (Err (fault.Exhausted e))) = omega arith
steps_few Done = omega arith
