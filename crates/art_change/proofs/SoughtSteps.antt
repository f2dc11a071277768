-- What a step of a seek was, and whether it made its event.
use Rattle.std.proofs.Common.{◌≡◌, Bool, true, false, None, refl, inl, inr, sym, subst}
use Rattle.art_change.proofs.StepKinds.{is_step, look_step}
use Rattle.art_change.specs.Kinds.{IsStep}
use Rattle.art_change.specs.Made.{MakesAny, is_told}
use Rattle.art_change.specs.ArtFind.Asking.{MayLook}
use Rattle.art_step.proofs.AnswerKinds.{allowed_any}
use Rattle.art_step.proofs.Silence.{plain_silent}
use Rattle.art_step.specs.Acting.{Answers, IsAllowed, IsLook, IsPlain, goes_on, is_look, kind_of, telling}
use Rattle.art_step.specs.declared.actions.Action.{Action}
use Rattle.art_step.specs.declared.actions.Action.TheVariants.{Begin, Read, ReadLeaf, Check, Settle, Upgrade, Claim, Write, WriteLeaf, Commit, Release}
use Rattle.art_step.specs.declared.actions.Action.TheVariants.{ClearBit, GiveBack, Free, ReadEpoch, StorePin, RaiseEpoch, ReadPin}
use Rattle.art_step.specs.declared.actions.Answer.{Answer}
use Rattle.art_look.proofs.Told.{look_sees}
use Rattle.art_look.specs.Asking.{MaySeek, stepped_by, told_by, walked}
use Rattle.art_look.specs.declared.driver.Stepped.{Stepped}
use Rattle.art_look.specs.declared.driver.Stepped.TheVariants as stepped
use Rattle.art_step.specs.Events.{SeesEvent}
use Rattle.art_step.specs.declared.deeds.Deed.{Deed}
use Rattle.art_step.specs.declared.views.Sizes.{Sizes}
use Rattle.art_step.specs.declared.views.View.{View}
use Rattle.art_tree.specs.Heaps.{Cells}

may_looks : (z : Sizes) (so : Cells → Type 0) (v : View) (a : Action) → MayLook z so v a → IsLook a
may_looks z so v (Begin c) may = tt
may_looks z so v (Read x i) may = tt
may_looks z so v (ReadLeaf x l i) may = tt
may_looks z so v (Check x) may = tt
may_looks z so v (Settle x) may = tt
may_looks z so v (Upgrade x) may = absurd may
may_looks z so v (Claim n) may = absurd may
may_looks z so v (Write c i word) may = absurd may
may_looks z so v (WriteLeaf l i word) may = absurd may
may_looks z so v (Commit c b) may = absurd may
may_looks z so v (Release c b) may = absurd may
may_looks z so v (ClearBit p i bit) may = absurd may
may_looks z so v (GiveBack d) may = absurd may
may_looks z so v (Free d) may = absurd may
may_looks z so v ReadEpoch may = absurd may
may_looks z so v (StorePin word) may = absurd may
may_looks z so v RaiseEpoch may = absurd may
may_looks z so v (ReadPin q) may = absurd may

-- what needs no effects is plain
none_plain : (z : Sizes) (v : View) (a : Action) → IsAllowed z None v a → IsPlain a
none_plain z v (Begin c) may = tt
none_plain z v (Read x i) may = tt
none_plain z v (ReadLeaf x l i) may = tt
none_plain z v (Check x) may = tt
none_plain z v (Settle x) may = absurd may
none_plain z v (Upgrade x) may = tt
none_plain z v (Claim n) may = tt
none_plain z v (Write c i word) may = tt
none_plain z v (WriteLeaf l i word) may = tt
none_plain z v (Commit c b) may = absurd may
none_plain z v (Release c b) may = tt
none_plain z v (ClearBit p i bit) may = tt
none_plain z v (GiveBack d) may = tt
none_plain z v (Free d) may = tt
none_plain z v ReadEpoch may = tt
none_plain z v (StorePin word) may = tt
none_plain z v RaiseEpoch may = tt
none_plain z v (ReadPin q) may = tt

-- and tells nothing
walked_none : (d : Deed) (look on : Bool) → told_by (walked look on) d ≡ None
walked_none d true true = refl
walked_none d true false = refl
walked_none d false on = refl

plain_none : (d : Deed) (a : Action) (r : Answer) → IsPlain a → told_by (stepped_by a r) d ≡ None
plain_none d (Begin c) r plain = walked_none d (is_look (Begin c)) (goes_on r)
plain_none d (Read x i) r plain = walked_none d (is_look (Read x i)) (goes_on r)
plain_none d (ReadLeaf x l i) r plain = walked_none d (is_look (ReadLeaf x l i)) (goes_on r)
plain_none d (Check x) r plain = walked_none d (is_look (Check x)) (goes_on r)
plain_none d (Settle x) r plain = absurd plain
plain_none d (Upgrade x) r plain = walked_none d (is_look (Upgrade x)) (goes_on r)
plain_none d (Claim n) r plain = walked_none d (is_look (Claim n)) (goes_on r)
plain_none d (Write c i word) r plain = walked_none d (is_look (Write c i word)) (goes_on r)
plain_none d (WriteLeaf l i word) r plain = walked_none d (is_look (WriteLeaf l i word)) (goes_on r)
plain_none d (Commit c b) r plain = absurd plain
plain_none d (Release c b) r plain = walked_none d (is_look (Release c b)) (goes_on r)
plain_none d (ClearBit p i bit) r plain = walked_none d (is_look (ClearBit p i bit)) (goes_on r)
plain_none d (GiveBack x) r plain = walked_none d (is_look (GiveBack x)) (goes_on r)
plain_none d (Free x) r plain = walked_none d (is_look (Free x)) (goes_on r)
plain_none d ReadEpoch r plain = walked_none d (is_look ReadEpoch) (goes_on r)
plain_none d (StorePin word) r plain = walked_none d (is_look (StorePin word)) (goes_on r)
plain_none d RaiseEpoch r plain = walked_none d (is_look RaiseEpoch) (goes_on r)
plain_none d (ReadPin q) r plain = walked_none d (is_look (ReadPin q)) (goes_on r)

module _ (z : Sizes) (so : Cells → Type 0) (d : Deed) (a : Action) (r : Answer) (v w : View) (may : MaySeek z so v a) (row : Answers z (telling d) a r v w) where
  pub sought_step : IsStep (kind_of a) z v w
  sought_step = elim may [
    | inl look ↦ look_step z d a r v w (may_looks z so v a look) row
    | inr all ↦ is_step z (telling d) a r v w (allowed_any z (telling d) v a all.1) row
  ]

  sought_sees : SeesEvent v w (told_by (stepped_by a r) d)
  sought_sees = elim may [
    | inl look ↦ look_sees z d a r v w (may_looks z so v a look) row
    | inr all ↦
        let plain = none_plain z v a all.1 in
        subst (SeesEvent v w) (sym (plain_none d a r plain)) (plain_silent z (telling d) a r v w plain (allowed_any z (telling d) v a all.1) row)
  ]

any_of : (d : Deed) (v w : View) (s : Stepped) → SeesEvent v w (told_by s d) → MakesAny (is_told s) v w
any_of d v w stepped.Frame sees = sees
any_of d v w stepped.Walked sees = sees
any_of d v w stepped.Restart sees = sees
any_of d v w stepped.Told sees = (d, sees)

pub sought_any : (z : Sizes) (so : Cells → Type 0) (d : Deed) (a : Action) (r : Answer) (v w : View) (s : Stepped) → s ≡ stepped_by a r → MaySeek z so v a → Answers z (telling d) a r v w → MakesAny (is_told s) v w
sought_any z so d a r v w s is may row = any_of d v w s (subst (λ (t : Stepped). SeesEvent v w (told_by t d)) (sym is) (sought_sees z so d a r v w may row))
