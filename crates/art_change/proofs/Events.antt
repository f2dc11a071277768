-- What a step of a call adds to the view: its event, if it makes one; and where it was none, nothing.
use Rattle.std.proofs.Common.{◌≡◌, ◌⊎◌, Option, Some, None, inl, inr, refl, ap}
use Rattle.std.specs.Prelude.{Ok, Err}
use Rattle.art_change.specs.Made.{MakesAny, tells}
use Rattle.art_step.proofs.Silence.{plain_silent}
use Rattle.art_step.specs.Acting.{Answers, IsAllowed, steps_in}
use Rattle.art_step.specs.declared.actions.Action.{Action}
use Rattle.art_step.specs.declared.actions.Action.TheVariants.{Begin, Read, ReadLeaf, Check, Settle, Upgrade, Claim, Write, WriteLeaf, Commit, Release}
use Rattle.art_step.specs.declared.actions.Action.TheVariants.{ClearBit, GiveBack, Free, ReadEpoch, StorePin, RaiseEpoch, ReadPin}
use Rattle.art_step.specs.declared.actions.Answer.{Answer}
use Rattle.art_step.specs.declared.actions.Answer.TheVariants.{Begun, Word, Checked, Upgraded, Done}
use Rattle.art_step.specs.declared.actions.Effects.{Effects}
use Rattle.art_step.specs.declared.faults.UpgradeFault.TheVariants as fault
use Rattle.art_step.specs.declared.views.Sizes.{Sizes}
use Rattle.art_step.specs.declared.views.View.{View}

pub makes_any : (z : Sizes) (o : Option Effects) (a : Action) (r : Answer) (v w : View) → IsAllowed z o v a → Answers z o a r v w → MakesAny (tells a r) v w
makes_any z o (Begin c) r v w may row = plain_silent z o (Begin c) r v w tt may row
makes_any z o (Read x i) r v w may row = plain_silent z o (Read x i) r v w tt may row
makes_any z o (ReadLeaf x l i) r v w may row = plain_silent z o (ReadLeaf x l i) r v w tt may row
makes_any z o (Check x) r v w may row = plain_silent z o (Check x) r v w tt may row
makes_any z o (Upgrade x) r v w may row = plain_silent z o (Upgrade x) r v w tt may row
makes_any z o (Claim n) r v w may row = plain_silent z o (Claim n) r v w tt may row
makes_any z o (Write c i word) r v w may row = plain_silent z o (Write c i word) r v w tt may row
makes_any z o (WriteLeaf l i word) r v w may row = plain_silent z o (WriteLeaf l i word) r v w tt may row
makes_any z o (Release c b) r v w may row = plain_silent z o (Release c b) r v w tt may row
makes_any z o (ClearBit p i bit) r v w may row = plain_silent z o (ClearBit p i bit) r v w tt may row
makes_any z o (GiveBack d) r v w may row = plain_silent z o (GiveBack d) r v w tt may row
makes_any z o (Free d) r v w may row = plain_silent z o (Free d) r v w tt may row
makes_any z o ReadEpoch r v w may row = plain_silent z o ReadEpoch r v w tt may row
makes_any z o (StorePin word) r v w may row = plain_silent z o (StorePin word) r v w tt may row
makes_any z o RaiseEpoch r v w may row = plain_silent z o RaiseEpoch r v w tt may row
makes_any z o (ReadPin q) r v w may row = plain_silent z o (ReadPin q) r v w tt may row
makes_any z None (Settle x) r v w may row = absurd may
makes_any z (Some e) (Settle x) (Checked (Ok done)) v w may row = (e.deed, row.told)
makes_any z (Some e) (Settle x) (Checked (Err c)) v w may row = (ap (λ (b : View). b.seen) row.3.is, ap (λ (b : View). b.own) row.3.is)
makes_any z (Some e) (Settle x) (Begun s) v w may row = absurd row
makes_any z (Some e) (Settle x) (Word y) v w may row = absurd row
makes_any z (Some e) (Settle x) (Upgraded s) v w may row = absurd row
makes_any z (Some e) (Settle x) Done v w may row = absurd row
makes_any z None (Commit c b) r v w may row = absurd may
makes_any z (Some e) (Commit c b) Done v w may row = (e.deed, (row.outcome may.holding (may.first.held, may.cell)).made)
makes_any z (Some e) (Commit c b) (Begun s) v w may row = absurd row
makes_any z (Some e) (Commit c b) (Word y) v w may row = absurd row
makes_any z (Some e) (Commit c b) (Checked s) v w may row = absurd row
makes_any z (Some e) (Commit c b) (Upgraded s) v w may row = absurd row

-- where no step was made, nothing changed
pub none_made : (z : Sizes) (o : Option Effects) (a : Action) (r : Answer) (v w : View) → steps_in r ≡ 0 → Answers z o a r v w → w ≡ v
none_made z o a (Begun s) v w none row = absurd (cc)
none_made z o a (Word y) v w none row = absurd (cc)
none_made z o a (Checked s) v w none row = absurd (cc)
none_made z o a Done v w none row = absurd (cc)
none_made z o a (Upgraded (Ok done)) v w none row = absurd (cc)
none_made z o a (Upgraded (Err (fault.Changed e))) v w none row = absurd (cc)
none_made z o (Begin c) (Upgraded (Err (fault.Exhausted e))) v w none row = absurd row
none_made z o (Read x i) (Upgraded (Err (fault.Exhausted e))) v w none row = absurd row
none_made z o (ReadLeaf x l i) (Upgraded (Err (fault.Exhausted e))) v w none row = absurd row
none_made z o (Check x) (Upgraded (Err (fault.Exhausted e))) v w none row = absurd row
none_made z None (Settle x) (Upgraded (Err (fault.Exhausted e))) v w none row = absurd row
none_made z (Some f) (Settle x) (Upgraded (Err (fault.Exhausted e))) v w none row = absurd row
none_made z o (Upgrade x) (Upgraded (Err (fault.Exhausted e))) v w none row = row.2
none_made z o (Claim n) (Upgraded (Err (fault.Exhausted e))) v w none row = absurd row
none_made z o (Write c i word) (Upgraded (Err (fault.Exhausted e))) v w none row = absurd row
none_made z o (WriteLeaf l i word) (Upgraded (Err (fault.Exhausted e))) v w none row = absurd row
none_made z None (Commit c b) (Upgraded (Err (fault.Exhausted e))) v w none row = absurd row
none_made z (Some f) (Commit c b) (Upgraded (Err (fault.Exhausted e))) v w none row = absurd row
none_made z o (Release c b) (Upgraded (Err (fault.Exhausted e))) v w none row = absurd row
none_made z o (ClearBit p i bit) (Upgraded (Err (fault.Exhausted e))) v w none row = absurd row
none_made z o (GiveBack d) (Upgraded (Err (fault.Exhausted e))) v w none row = absurd row
none_made z o (Free d) (Upgraded (Err (fault.Exhausted e))) v w none row = absurd row
none_made z o ReadEpoch (Upgraded (Err (fault.Exhausted e))) v w none row = absurd row
none_made z o (StorePin word) (Upgraded (Err (fault.Exhausted e))) v w none row = absurd row
none_made z o RaiseEpoch (Upgraded (Err (fault.Exhausted e))) v w none row = absurd row
none_made z o (ReadPin q) (Upgraded (Err (fault.Exhausted e))) v w none row = absurd row

-- it is one, or none
pub one_or_none : (r : Answer) → (steps_in r ≡ 0) ⊎ (steps_in r ≡ 1)
one_or_none (Begun s) = inr refl
one_or_none (Word y) = inr refl
one_or_none (Checked s) = inr refl
one_or_none Done = inr refl
one_or_none (Upgraded (Ok done)) = inr refl
one_or_none (Upgraded (Err (fault.Changed e))) = inr refl
one_or_none (Upgraded (Err (fault.Exhausted e))) = inl refl
