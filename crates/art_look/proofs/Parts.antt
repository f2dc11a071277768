-- Which part of a seek asked, and which kind of step that was.
use Rattle.std.proofs.Common.{◌≡◌, ℕ, Bool, true, false, Some, refl, subst}
use Rattle.std.proofs.lemmas.Option.{same_Some}
use Rattle.std.specs.Prelude.{Ok, Err}
use Rattle.art_epoch.specs.Pins as pins
use Rattle.art_epoch.specs.declared.enter.Pinning.{Pinning}
use Rattle.art_epoch.specs.declared.enter.Pinning.TheVariants.{Noting, Storing, Ended}
use Rattle.art_find.proofs.Counting.{asks_look as descent_looks}
use Rattle.art_look.proofs.Going.{asks_look as look_looks}
use Rattle.art_step.specs.Acting.{IsLook, IsPlain, goes_on, is_look}
use Rattle.art_step.specs.declared.actions.Action.{Action}
use Rattle.art_step.specs.declared.actions.Action.TheVariants.{Begin, Read, ReadLeaf, Check, Settle, ReadEpoch, StorePin}
use Rattle.art_step.specs.declared.actions.Answer.{Answer}
use Rattle.art_step.specs.declared.actions.Answer.TheVariants.{Begun, Word, Checked, Upgraded, Done}
use Rattle.art_look.specs.Asking.{is_counted, stepped_by, walked}
use Rattle.art_look.specs.Seeks.{asks_at, is_walking}
use Rattle.art_look.specs.Walks.{asks}
use Rattle.art_look.specs.declared.seeks.Seek.{Seek}
use Rattle.art_look.specs.declared.seeks.SeekStage.{SeekStage}
use Rattle.art_look.specs.declared.seeks.SeekStage.TheVariants as stage
use Rattle.art_look.specs.declared.walks.Walk.{Walk}
use Rattle.art_look.specs.declared.walks.Walk.TheVariants.{Key, Range}

-- a walk asks for looks alone
pub walk_looks : (w : Walk) (a : Action) → asks w ≡ Some a → IsLook a
walk_looks (Key m) a is = descent_looks m.stage a is
walk_looks (Range m) a is = look_looks m.stage a is

-- what a pin asks for
pub record IsPinStep (a : Action) : Type 0 where
  pub plain : IsPlain a
  pub no_look : is_look a ≡ false
  pub counted : (r : Answer) → is_counted (stepped_by a r) ≡ false

reads_epoch : IsPinStep ReadEpoch
reads_epoch = record { plain = tt; no_look = refl; counted = λ r. refl }

stores_pin : (x : ℕ) → IsPinStep (StorePin x)
stores_pin x = record { plain = tt; no_look = refl; counted = λ r. refl }

pub pin_step : (p : Pinning) (a : Action) → pins.asks p ≡ Some a → IsPinStep a
pin_step Noting a is = subst IsPinStep (same_Some ReadEpoch a is) reads_epoch
pin_step (Storing x) a is = subst IsPinStep (same_Some (StorePin x) a is) (stores_pin x)
pin_step Ended a is = absurd (cc)

-- ---- it is counted where it is one of the walk

walk_counts : (on : Bool) → is_counted (walked true on) ≡ true
walk_counts true = refl
walk_counts false = refl

counts_look : (a : Action) (r : Answer) → IsLook a → is_counted (stepped_by a r) ≡ true
counts_look (Begin c) r is = walk_counts (goes_on r)
counts_look (Read x i) r is = walk_counts (goes_on r)
counts_look (ReadLeaf x l i) r is = walk_counts (goes_on r)
counts_look (Check x) r is = walk_counts (goes_on r)
counts_look (Settle x) (Checked (Ok done)) is = refl
counts_look (Settle x) (Checked (Err e)) is = refl
counts_look (Settle x) (Begun r) is = walk_counts (goes_on (Begun r))
counts_look (Settle x) (Word y) is = refl
counts_look (Settle x) (Upgraded r) is = refl
counts_look (Settle x) Done is = refl
counts_look a r is = absurd is

pub counts_at : (s : SeekStage) (m : Seek) (a : Action) (r : Answer) → asks_at s m ≡ Some a → is_counted (stepped_by a r) ≡ is_walking s
counts_at stage.Walking m a r is = counts_look a r (walk_looks m.walk a is)
counts_at stage.Pinning m a r is = (pin_step m.pinning a is).counted r
counts_at stage.Closing m a r is = subst (λ (b : Action). is_counted (stepped_by b r) ≡ false) (same_Some (StorePin 0) a is) refl
counts_at stage.Ended m a r is = absurd (cc)
