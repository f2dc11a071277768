-- What the parts of an attempt ask for, and what each of them is told of the effects.
use Rattle.std.proofs.Common.{◌≡◌, Option, Some, None, refl, subst}
use Rattle.art_attempt.specs.Asking.{Answers, IsAllowed, MayAsk, given}
use Rattle.art_attempt.proofs.Asked.{IsSupply}
use Rattle.art_step.proofs.AnswerKinds.{answers_any}
use Rattle.art_step.specs.Acting as acting
use Rattle.art_step.specs.Acting.{IsLook, IsPlain, steps_in, telling}
use Rattle.art_step.specs.declared.actions.Action.{Action}
use Rattle.art_step.specs.declared.actions.Action.TheVariants.{Begin, Read, ReadLeaf, Check, Settle, Upgrade, Claim, Write, WriteLeaf, Commit, Release, ClearBit, GiveBack, Free, ReadEpoch, StorePin, RaiseEpoch, ReadPin}
use Rattle.art_step.specs.declared.actions.Answer.{Answer}
use Rattle.art_step.specs.declared.actions.Answer.TheVariants.{Begun, Word, Checked, Upgraded, Done}
use Rattle.art_step.specs.declared.actions.Effects.{Effects}
use Rattle.art_plan.proofs.Keeping.{IsMade}
use Rattle.art_plan.specs.Apply as apply
use Rattle.art_plan.specs.declared.changes.Change.{Change as ChangeOf}
use Rattle.art_step.specs.declared.deeds.Deed.{Deed}
use Rattle.art_step.specs.declared.views.Sizes.{Sizes}
use Rattle.art_step.specs.declared.views.Stamp.{Stamp}
use Rattle.art_step.specs.declared.views.View.{View}

-- ---- what is asked for

pub ask_looks : (z : Sizes) (d : Deed) (v : View) (a : Action) → MayAsk z d v a → IsLook a
ask_looks z d v (Begin x) may = tt
ask_looks z d v (Read x i) may = tt
ask_looks z d v (ReadLeaf x l i) may = tt
ask_looks z d v (Check x) may = tt
ask_looks z d v (Settle x) may = tt
ask_looks z d v (Upgrade x) may = absurd may
ask_looks z d v (Claim n) may = absurd may
ask_looks z d v (Write b i word) may = absurd may
ask_looks z d v (WriteLeaf l i word) may = absurd may
ask_looks z d v (Commit b o) may = absurd may
ask_looks z d v (Release b o) may = absurd may
ask_looks z d v (ClearBit p i o) may = absurd may
ask_looks z d v (GiveBack e) may = absurd may
ask_looks z d v (Free e) may = absurd may
ask_looks z d v ReadEpoch may = absurd may
ask_looks z d v (StorePin word) may = absurd may
ask_looks z d v RaiseEpoch may = absurd may
ask_looks z d v (ReadPin q) may = absurd may

pub supply_plain : (a : Action) → IsSupply a → IsPlain a
supply_plain (Begin x) is = absurd is
supply_plain (Read x i) is = absurd is
supply_plain (ReadLeaf x l i) is = absurd is
supply_plain (Check x) is = absurd is
supply_plain (Settle x) is = absurd is
supply_plain (Upgrade x) is = absurd is
supply_plain (Claim n) is = absurd is
supply_plain (Write b i word) is = absurd is
supply_plain (WriteLeaf l i word) is = tt
supply_plain (Commit b o) is = absurd is
supply_plain (Release b o) is = absurd is
supply_plain (ClearBit p i o) is = tt
supply_plain (GiveBack e) is = absurd is
supply_plain (Free e) is = absurd is
supply_plain ReadEpoch is = absurd is
supply_plain (StorePin word) is = absurd is
supply_plain RaiseEpoch is = absurd is
supply_plain (ReadPin q) is = absurd is

-- ---- what may be made

pub look_may : (z : Sizes) (d : Deed) (c : ChangeOf) (v : View) (a : Action) → MayAsk z d v a → IsAllowed z d c v a
look_may z d c v (Begin x) may = may
look_may z d c v (Read x i) may = may
look_may z d c v (ReadLeaf x l i) may = may
look_may z d c v (Check x) may = may
look_may z d c v (Settle x) may = may
look_may z d c v (Upgrade x) may = absurd may
look_may z d c v (Claim n) may = absurd may
look_may z d c v (Write b i word) may = absurd may
look_may z d c v (WriteLeaf l i word) may = absurd may
look_may z d c v (Commit b o) may = absurd may
look_may z d c v (Release b o) may = absurd may
look_may z d c v (ClearBit p i o) may = absurd may
look_may z d c v (GiveBack e) may = absurd may
look_may z d c v (Free e) may = absurd may
look_may z d c v ReadEpoch may = absurd may
look_may z d c v (StorePin word) may = absurd may
look_may z d c v RaiseEpoch may = absurd may
look_may z d c v (ReadPin q) may = absurd may

pub plain_may : (z : Sizes) (d : Deed) (c : ChangeOf) (v : View) (a : Action) → IsPlain a → acting.IsAllowed z None v a → IsAllowed z d c v a
plain_may z d c v (Begin x) plain may = may
plain_may z d c v (Read x i) plain may = may
plain_may z d c v (ReadLeaf x l i) plain may = may
plain_may z d c v (Check x) plain may = may
plain_may z d c v (Settle x) plain may = absurd plain
plain_may z d c v (Upgrade x) plain may = may
plain_may z d c v (Claim n) plain may = may
plain_may z d c v (Write b i word) plain may = may
plain_may z d c v (WriteLeaf l i word) plain may = may
plain_may z d c v (Commit b o) plain may = absurd plain
plain_may z d c v (Release b o) plain may = may
plain_may z d c v (ClearBit p i o) plain may = may
plain_may z d c v (GiveBack e) plain may = may
plain_may z d c v (Free e) plain may = may
plain_may z d c v ReadEpoch plain may = may
plain_may z d c v (StorePin word) plain may = may
plain_may z d c v RaiseEpoch plain may = may
plain_may z d c v (ReadPin q) plain may = may

pub made_may : (z : Sizes) (d : Deed) (c : ChangeOf) (v : View) (a : Action) → IsMade a → acting.IsAllowed z (apply.brings c) v a → IsAllowed z d c v a
made_may z d c v (Begin x) made may = absurd made
made_may z d c v (Read x i) made may = absurd made
made_may z d c v (ReadLeaf x l i) made may = absurd made
made_may z d c v (Check x) made may = absurd made
made_may z d c v (Settle x) made may = absurd made
made_may z d c v (Upgrade x) made may = may
made_may z d c v (Claim n) made may = may
made_may z d c v (Write b i word) made may = may
made_may z d c v (WriteLeaf l i word) made may = absurd made
made_may z d c v (Commit b o) made may = may
made_may z d c v (Release b o) made may = may
made_may z d c v (ClearBit p i o) made may = absurd made
made_may z d c v (GiveBack e) made may = absurd made
made_may z d c v (Free e) made may = absurd made
made_may z d c v ReadEpoch made may = absurd made
made_may z d c v (StorePin word) made may = absurd made
made_may z d c v RaiseEpoch made may = absurd made
made_may z d c v (ReadPin q) made may = absurd made

-- ---- what a part is told

pub plain_given : (d : Deed) (c : ChangeOf) (a : Action) → IsPlain a → given d c a ≡ None
plain_given d c (Begin x) plain = refl
plain_given d c (Read x i) plain = refl
plain_given d c (ReadLeaf x l i) plain = refl
plain_given d c (Check x) plain = refl
plain_given d c (Settle x) plain = absurd plain
plain_given d c (Upgrade x) plain = refl
plain_given d c (Claim n) plain = refl
plain_given d c (Write b i word) plain = refl
plain_given d c (WriteLeaf l i word) plain = refl
plain_given d c (Commit b o) plain = absurd plain
plain_given d c (Release b o) plain = refl
plain_given d c (ClearBit p i o) plain = refl
plain_given d c (GiveBack e) plain = refl
plain_given d c (Free e) plain = refl
plain_given d c ReadEpoch plain = refl
plain_given d c (StorePin word) plain = refl
plain_given d c RaiseEpoch plain = refl
plain_given d c (ReadPin q) plain = refl

pub plain_row : (z : Sizes) (d : Deed) (c : ChangeOf) (a : Action) (r : Answer) (v w : View) → IsPlain a → Answers z d c a r v w → acting.Answers z None a r v w
plain_row z d c a r v w plain row = subst (λ (o : Option Effects). acting.Answers z o a r v w) (plain_given d c a plain) row

pub look_row : (z : Sizes) (d : Deed) (c : ChangeOf) (a : Action) (r : Answer) (v w : View) → IsLook a → Answers z d c a r v w → acting.Answers z (telling d) a r v w
look_row z d c (Begin x) r v w is row = answers_any z (telling d) (Begin x) r v w row
look_row z d c (Read x i) r v w is row = answers_any z (telling d) (Read x i) r v w row
look_row z d c (ReadLeaf x l i) r v w is row = answers_any z (telling d) (ReadLeaf x l i) r v w row
look_row z d c (Check x) r v w is row = answers_any z (telling d) (Check x) r v w row
look_row z d c (Settle x) r v w is row = row
look_row z d c (Upgrade x) r v w is row = absurd is
look_row z d c (Claim n) r v w is row = absurd is
look_row z d c (Write b i word) r v w is row = absurd is
look_row z d c (WriteLeaf l i word) r v w is row = absurd is
look_row z d c (Commit b o) r v w is row = absurd is
look_row z d c (Release b o) r v w is row = absurd is
look_row z d c (ClearBit p i o) r v w is row = absurd is
look_row z d c (GiveBack e) r v w is row = absurd is
look_row z d c (Free e) r v w is row = absurd is
look_row z d c ReadEpoch r v w is row = absurd is
look_row z d c (StorePin word) r v w is row = absurd is
look_row z d c RaiseEpoch r v w is row = absurd is
look_row z d c (ReadPin q) r v w is row = absurd is

pub made_row : (z : Sizes) (d : Deed) (c : ChangeOf) (a : Action) (r : Answer) (v w : View) → IsMade a → Answers z d c a r v w → acting.Answers z (apply.brings c) a r v w
made_row z d c (Begin x) r v w is row = absurd is
made_row z d c (Read x i) r v w is row = absurd is
made_row z d c (ReadLeaf x l i) r v w is row = absurd is
made_row z d c (Check x) r v w is row = absurd is
made_row z d c (Settle x) r v w is row = absurd is
made_row z d c (Upgrade x) r v w is row = answers_any z (apply.brings c) (Upgrade x) r v w row
made_row z d c (Claim n) r v w is row = answers_any z (apply.brings c) (Claim n) r v w row
made_row z d c (Write b i word) r v w is row = answers_any z (apply.brings c) (Write b i word) r v w row
made_row z d c (WriteLeaf l i word) r v w is row = absurd is
made_row z d c (Commit b o) r v w is row = row
made_row z d c (Release b o) r v w is row = answers_any z (apply.brings c) (Release b o) r v w row
made_row z d c (ClearBit p i o) r v w is row = absurd is
made_row z d c (GiveBack e) r v w is row = absurd is
made_row z d c (Free e) r v w is row = absurd is
made_row z d c ReadEpoch r v w is row = absurd is
made_row z d c (StorePin word) r v w is row = absurd is
made_row z d c RaiseEpoch r v w is row = absurd is
made_row z d c (ReadPin q) r v w is row = absurd is

-- ---- each of these but an upgrade is one step

settle_once : (z : Sizes) (f : Option Effects) (x : Stamp) (r : Answer) (v w : View) → acting.Answers z f (Settle x) r v w → steps_in r ≡ 1
settle_once z None x r v w row = absurd row
settle_once z (Some e) x (Begun s) v w row = absurd row
settle_once z (Some e) x (Word y) v w row = absurd row
settle_once z (Some e) x (Checked s) v w row = refl
settle_once z (Some e) x (Upgraded s) v w row = absurd row
settle_once z (Some e) x Done v w row = absurd row

pub look_once : (z : Sizes) (f : Option Effects) (a : Action) (r : Answer) (v w : View) → IsLook a → acting.Answers z f a r v w → steps_in r ≡ 1
look_once z f (Begin x) (Begun s) v w is row = refl
look_once z f (Begin x) (Word y) v w is row = absurd row
look_once z f (Begin x) (Checked s) v w is row = absurd row
look_once z f (Begin x) (Upgraded s) v w is row = absurd row
look_once z f (Begin x) Done v w is row = absurd row
look_once z f (Read x i) (Begun s) v w is row = absurd row
look_once z f (Read x i) (Word y) v w is row = refl
look_once z f (Read x i) (Checked s) v w is row = absurd row
look_once z f (Read x i) (Upgraded s) v w is row = absurd row
look_once z f (Read x i) Done v w is row = absurd row
look_once z f (ReadLeaf x l i) (Begun s) v w is row = absurd row
look_once z f (ReadLeaf x l i) (Word y) v w is row = refl
look_once z f (ReadLeaf x l i) (Checked s) v w is row = absurd row
look_once z f (ReadLeaf x l i) (Upgraded s) v w is row = absurd row
look_once z f (ReadLeaf x l i) Done v w is row = absurd row
look_once z f (Check x) (Begun s) v w is row = absurd row
look_once z f (Check x) (Word y) v w is row = absurd row
look_once z f (Check x) (Checked s) v w is row = refl
look_once z f (Check x) (Upgraded s) v w is row = absurd row
look_once z f (Check x) Done v w is row = absurd row
look_once z f (Settle x) r v w is row = settle_once z f x r v w row
look_once z f (Upgrade x) r v w is row = absurd is
look_once z f (Claim n) r v w is row = absurd is
look_once z f (Write b i word) r v w is row = absurd is
look_once z f (WriteLeaf l i word) r v w is row = absurd is
look_once z f (Commit b o) r v w is row = absurd is
look_once z f (Release b o) r v w is row = absurd is
look_once z f (ClearBit p i o) r v w is row = absurd is
look_once z f (GiveBack e) r v w is row = absurd is
look_once z f (Free e) r v w is row = absurd is
look_once z f ReadEpoch r v w is row = absurd is
look_once z f (StorePin word) r v w is row = absurd is
look_once z f RaiseEpoch r v w is row = absurd is
look_once z f (ReadPin q) r v w is row = absurd is

pub supply_once : (z : Sizes) (f : Option Effects) (a : Action) (r : Answer) (v w : View) → IsSupply a → acting.Answers z f a r v w → steps_in r ≡ 1
supply_once z f (Begin x) r v w is row = absurd is
supply_once z f (Read x i) r v w is row = absurd is
supply_once z f (ReadLeaf x l i) r v w is row = absurd is
supply_once z f (Check x) r v w is row = absurd is
supply_once z f (Settle x) r v w is row = absurd is
supply_once z f (Upgrade x) r v w is row = absurd is
supply_once z f (Claim n) r v w is row = absurd is
supply_once z f (Write b i word) r v w is row = absurd is
supply_once z f (WriteLeaf l i word) (Begun s) v w is row = absurd row
supply_once z f (WriteLeaf l i word) (Word y) v w is row = absurd row
supply_once z f (WriteLeaf l i word) (Checked s) v w is row = absurd row
supply_once z f (WriteLeaf l i word) (Upgraded s) v w is row = absurd row
supply_once z f (WriteLeaf l i word) Done v w is row = refl
supply_once z f (Commit b o) r v w is row = absurd is
supply_once z f (Release b o) r v w is row = absurd is
supply_once z f (ClearBit p i o) (Begun s) v w is row = absurd row
supply_once z f (ClearBit p i o) (Word y) v w is row = refl
supply_once z f (ClearBit p i o) (Checked s) v w is row = absurd row
supply_once z f (ClearBit p i o) (Upgraded s) v w is row = absurd row
supply_once z f (ClearBit p i o) Done v w is row = absurd row
supply_once z f (GiveBack e) r v w is row = absurd is
supply_once z f (Free e) r v w is row = absurd is
supply_once z f ReadEpoch r v w is row = absurd is
supply_once z f (StorePin word) r v w is row = absurd is
supply_once z f RaiseEpoch r v w is row = absurd is
supply_once z f (ReadPin q) r v w is row = absurd is
