-- An action makes no event, but for a check that settles an answer, and a commit.
use Rattle.std.proofs.Common.{◌≡◌, ℕ, ◌==◌, true, false, List, refl, ap, ◌∙◌, ⊎_elim}
use Rattle.std.proofs.lemmas.Bool.{cases_Bool}
use Rattle.std.specs.Prelude.{Option, Some, None, Ok, Err}
use Rattle.art_cell.specs.declared.cells.Pool.{Pool}
use Rattle.art_step.specs.Acting.{Answers, IsAllowed, IsPlain}
use Rattle.art_step.specs.declared.actions.Action.{Action}
use Rattle.art_step.specs.declared.actions.Action.TheVariants.{Begin, Read, ReadLeaf, Check, Settle, Upgrade, Claim, Write, WriteLeaf, Commit, Release, ClearBit, GiveBack, Free, ReadEpoch, StorePin, RaiseEpoch, ReadPin}
use Rattle.art_step.specs.declared.actions.Answer.{Answer}
use Rattle.art_step.specs.declared.actions.Answer.TheVariants.{Begun, Word, Checked, Upgraded, Done}
use Rattle.art_step.specs.declared.actions.Effects.{Effects}
use Rattle.art_step.proofs.Shows.{begun_rest}
use Rattle.art_step.specs.Events.{SeesEvent}
use Rattle.art_step.specs.Shows.{OnlyReads, Rest}
use Rattle.art_step.specs.Steps.Pin as pin
use Rattle.art_step.specs.Steps.Take as take_free
use Rattle.art_step.specs.Views.{bit_of}
use Rattle.art_step.specs.declared.faults.UpgradeFault.TheVariants as fault
use Rattle.art_step.specs.declared.views.Sizes.{Sizes}
use Rattle.art_step.specs.declared.views.View.{View}

read_silent : (v w : View) → OnlyReads v w → SeesEvent v w None
read_silent v w reads = (ap (λ (r : Rest). r.seen) reads, ap (λ (r : Rest). r.own) reads)

taken_silent : (v : View) (pool : Pool) (i : ℕ) (bit : Option ℕ) (x : ℕ) (ws : List ℕ) → SeesEvent v (take_free.view_after v pool i bit x ws) None
taken_silent v pool i None x ws = (refl, refl)
taken_silent v pool i (Some k) x ws = ⊎_elim
    (λ (e : (bit_of x k == 1) ≡ true). rw e (refl, refl))
    (λ (e : (bit_of x k == 1) ≡ false). rw e (refl, refl))
    (cases_Bool (bit_of x k == 1))

stored_silent : (v : View) (x : ℕ) → SeesEvent v (pin.view_after v x) None
stored_silent v x = ⊎_elim (λ (e : (x == 0) ≡ true). rw e (refl, refl)) (λ (e : (x == 0) ≡ false). rw e (refl, refl)) (cases_Bool (x == 0))

pub plain_silent : (z : Sizes) (o : Option Effects) (a : Action) (r : Answer) (v w : View) → IsPlain a → IsAllowed z o v a → Answers z o a r v w → SeesEvent v w None
plain_silent z o (Begin c) (Begun (Ok x)) v w plain may row = read_silent v w (begun_rest z v w c x.version row.2)
plain_silent z o (Begin c) (Begun (Err l)) v w plain may row = read_silent v w (begun_rest z v w c l.found row.2)
plain_silent z o (Begin c) (Word y) v w plain may row = absurd row
plain_silent z o (Begin c) (Checked r) v w plain may row = absurd row
plain_silent z o (Begin c) (Upgraded r) v w plain may row = absurd row
plain_silent z o (Begin c) Done v w plain may row = absurd row
plain_silent z o (Read x i) (Word y) v w plain may row = (ap (λ (a : View). a.seen) row.is, ap (λ (a : View). a.own) row.is)
plain_silent z o (Read x i) (Begun r) v w plain may row = absurd row
plain_silent z o (Read x i) (Checked r) v w plain may row = absurd row
plain_silent z o (Read x i) (Upgraded r) v w plain may row = absurd row
plain_silent z o (Read x i) Done v w plain may row = absurd row
plain_silent z o (ReadLeaf x l i) (Word y) v w plain may row = (ap (λ (a : View). a.seen) row, ap (λ (a : View). a.own) row)
plain_silent z o (ReadLeaf x l i) (Begun r) v w plain may row = absurd row
plain_silent z o (ReadLeaf x l i) (Checked r) v w plain may row = absurd row
plain_silent z o (ReadLeaf x l i) (Upgraded r) v w plain may row = absurd row
plain_silent z o (ReadLeaf x l i) Done v w plain may row = absurd row
plain_silent z o (Check x) (Checked (Ok done)) v w plain may row = row.told
plain_silent z o (Check x) (Checked (Err e)) v w plain may row = (ap (λ (a : View). a.seen) row.3.is, ap (λ (a : View). a.own) row.3.is)
plain_silent z o (Check x) (Begun r) v w plain may row = absurd row
plain_silent z o (Check x) (Word y) v w plain may row = absurd row
plain_silent z o (Check x) (Upgraded r) v w plain may row = absurd row
plain_silent z o (Check x) Done v w plain may row = absurd row
plain_silent z o (Settle x) r v w plain may row = absurd plain
plain_silent z o (Upgrade x) (Upgraded (Ok done)) v w plain may row = (ap (λ (a : View). a.seen) row.is, ap (λ (a : View). a.own) row.is)
plain_silent z o (Upgrade x) (Upgraded (Err (fault.Changed e))) v w plain may row = (ap (λ (a : View). a.seen) row.3.is, ap (λ (a : View). a.own) row.3.is)
plain_silent z o (Upgrade x) (Upgraded (Err (fault.Exhausted e))) v w plain may row = (ap (λ (a : View). a.seen) row.2, ap (λ (a : View). a.own) row.2)
plain_silent z o (Upgrade x) (Begun r) v w plain may row = absurd row
plain_silent z o (Upgrade x) (Word y) v w plain may row = absurd row
plain_silent z o (Upgrade x) (Checked r) v w plain may row = absurd row
plain_silent z o (Upgrade x) Done v w plain may row = absurd row
plain_silent z o (Claim n) Done v w plain may row = (ap (λ (a : View). a.seen) row.is, ap (λ (a : View). a.own) row.is)
plain_silent z o (Claim n) (Begun r) v w plain may row = absurd row
plain_silent z o (Claim n) (Word y) v w plain may row = absurd row
plain_silent z o (Claim n) (Checked r) v w plain may row = absurd row
plain_silent z o (Claim n) (Upgraded r) v w plain may row = absurd row
plain_silent z o (Write c i word) Done v w plain may row = let is = (row may.holding (may.may.held, may.cell)).is in (ap (λ (a : View). a.seen) is, ap (λ (a : View). a.own) is)
plain_silent z o (Write c i word) (Begun r) v w plain may row = absurd row
plain_silent z o (Write c i word) (Word y) v w plain may row = absurd row
plain_silent z o (Write c i word) (Checked r) v w plain may row = absurd row
plain_silent z o (Write c i word) (Upgraded r) v w plain may row = absurd row
plain_silent z o (WriteLeaf l i word) Done v w plain may row = let is = (row may.0.hand may.0.has).is in (ap (λ (a : View). a.seen) is, ap (λ (a : View). a.own) is)
plain_silent z o (WriteLeaf l i word) (Begun r) v w plain may row = absurd row
plain_silent z o (WriteLeaf l i word) (Word y) v w plain may row = absurd row
plain_silent z o (WriteLeaf l i word) (Checked r) v w plain may row = absurd row
plain_silent z o (WriteLeaf l i word) (Upgraded r) v w plain may row = absurd row
plain_silent z o (Commit c b) r v w plain may row = absurd plain
plain_silent z o (Release c b) Done v w plain may row = let is = (row may.holding (may.may.0, may.cell)).is in (ap (λ (a : View). a.seen) is, ap (λ (a : View). a.own) is)
plain_silent z o (Release c b) (Begun r) v w plain may row = absurd row
plain_silent z o (Release c b) (Word y) v w plain may row = absurd row
plain_silent z o (Release c b) (Checked r) v w plain may row = absurd row
plain_silent z o (Release c b) (Upgraded r) v w plain may row = absurd row
plain_silent z o (ClearBit p i b) (Word y) v w plain may row = let k = taken_silent v p i b y row.words in (ap (λ (a : View). a.seen) row.is ∙ k.0, ap (λ (a : View). a.own) row.is ∙ k.1)
plain_silent z o (ClearBit p i b) (Begun r) v w plain may row = absurd row
plain_silent z o (ClearBit p i b) (Checked r) v w plain may row = absurd row
plain_silent z o (ClearBit p i b) (Upgraded r) v w plain may row = absurd row
plain_silent z o (ClearBit p i b) Done v w plain may row = absurd row
plain_silent z o (GiveBack d) Done v w plain may row = (ap (λ (a : View). a.seen) row.is, ap (λ (a : View). a.own) row.is)
plain_silent z o (GiveBack d) (Begun r) v w plain may row = absurd row
plain_silent z o (GiveBack d) (Word y) v w plain may row = absurd row
plain_silent z o (GiveBack d) (Checked r) v w plain may row = absurd row
plain_silent z o (GiveBack d) (Upgraded r) v w plain may row = absurd row
plain_silent z o (Free d) Done v w plain may row = (ap (λ (a : View). a.seen) row.is, ap (λ (a : View). a.own) row.is)
plain_silent z o (Free d) (Begun r) v w plain may row = absurd row
plain_silent z o (Free d) (Word y) v w plain may row = absurd row
plain_silent z o (Free d) (Checked r) v w plain may row = absurd row
plain_silent z o (Free d) (Upgraded r) v w plain may row = absurd row
plain_silent z o ReadEpoch (Word y) v w plain may row = (ap (λ (a : View). a.seen) row.is, ap (λ (a : View). a.own) row.is)
plain_silent z o ReadEpoch (Begun r) v w plain may row = absurd row
plain_silent z o ReadEpoch (Checked r) v w plain may row = absurd row
plain_silent z o ReadEpoch (Upgraded r) v w plain may row = absurd row
plain_silent z o ReadEpoch Done v w plain may row = absurd row
plain_silent z o (StorePin word) Done v w plain may row = let k = stored_silent v word in (ap (λ (a : View). a.seen) row ∙ k.0, ap (λ (a : View). a.own) row ∙ k.1)
plain_silent z o (StorePin word) (Begun r) v w plain may row = absurd row
plain_silent z o (StorePin word) (Word y) v w plain may row = absurd row
plain_silent z o (StorePin word) (Checked r) v w plain may row = absurd row
plain_silent z o (StorePin word) (Upgraded r) v w plain may row = absurd row
plain_silent z o RaiseEpoch (Word y) v w plain may row = (ap (λ (a : View). a.seen) row, ap (λ (a : View). a.own) row)
plain_silent z o RaiseEpoch (Begun r) v w plain may row = absurd row
plain_silent z o RaiseEpoch (Checked r) v w plain may row = absurd row
plain_silent z o RaiseEpoch (Upgraded r) v w plain may row = absurd row
plain_silent z o RaiseEpoch Done v w plain may row = absurd row
plain_silent z o (ReadPin q) (Word y) v w plain may row = (ap (λ (a : View). a.seen) row, ap (λ (a : View). a.own) row)
plain_silent z o (ReadPin q) (Begun r) v w plain may row = absurd row
plain_silent z o (ReadPin q) (Checked r) v w plain may row = absurd row
plain_silent z o (ReadPin q) (Upgraded r) v w plain may row = absurd row
plain_silent z o (ReadPin q) Done v w plain may row = absurd row
