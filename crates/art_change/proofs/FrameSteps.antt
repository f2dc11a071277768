-- A step of an opening or of a close is one step, and brings nothing about.
use Rattle.std.proofs.Common.{◌≡◌, ◌∙◌, ◌+◌, nat_lt, Bool, true, false, if◌then◌else◌, List, length, Option, Some, None, ap, refl, subst}
use Rattle.std.proofs.lemmas.Option.{same_Some}
use Rattle.std.specs.Prelude.{⊤}
use Rattle.art_cell.specs.declared.cells.Link.{Link}
use Rattle.art_epoch.specs.Limbo.{open_index}
use Rattle.art_epoch.specs.Pins as pins
use Rattle.art_epoch.specs.Reclaiming as reclaims
use Rattle.art_epoch.specs.declared.limbo.Place.{Place}
use Rattle.art_epoch.specs.declared.enter.Pinning.{Pinning}
use Rattle.art_epoch.specs.declared.enter.Pinning.TheVariants as pinning
use Rattle.art_epoch.specs.declared.limbo.ReclaimStage.{ReclaimStage}
use Rattle.art_epoch.specs.declared.limbo.ReclaimStage.TheVariants as reclaiming
use Rattle.art_epoch.specs.Exit as exits
use Rattle.art_epoch.specs.Enter as enters
use Rattle.art_epoch.specs.Stocks.{first_in}
use Rattle.art_epoch.specs.declared.exit.Exit.{Exit}
use Rattle.art_epoch.specs.declared.exit.Exit.TheVariants as exit
use Rattle.art_epoch.specs.declared.enter.Enter.{Enter}
use Rattle.art_epoch.specs.declared.enter.Enter.TheVariants as enter
use Rattle.art_epoch.specs.declared.stocks.Stock.{Stock}
use Rattle.art_step.proofs.Counting.{pinning_counts}
use Rattle.art_step.specs.Acting.{Answers}
use Rattle.art_step.specs.declared.actions.Action.{Action}
use Rattle.art_step.specs.declared.actions.Action.TheVariants.{Begin, Read, ReadLeaf, Check, Settle, Upgrade, Claim, Write, WriteLeaf, Commit, Release}
use Rattle.art_step.specs.declared.actions.Action.TheVariants.{ClearBit, GiveBack, Free, ReadEpoch, StorePin, RaiseEpoch, ReadPin}
use Rattle.art_step.specs.declared.actions.Answer.{Answer}
use Rattle.art_step.specs.declared.actions.Answer.TheVariants.{Begun, Word, Checked, Upgraded, Done}
use Rattle.art_step.specs.declared.views.Sizes.{Sizes}
use Rattle.art_step.specs.declared.views.View.{View}

-- a step of the epochs, or by which a number goes back
abbrev pub IsFrame : Action → Type 0
IsFrame (GiveBack d) = ⊤
IsFrame (Free d) = ⊤
IsFrame ReadEpoch = ⊤
IsFrame (StorePin x) = ⊤
IsFrame RaiseEpoch = ⊤
IsFrame (ReadPin q) = ⊤
IsFrame a = ⊥

if_some : {A : Type 0} (b : Bool) (x y : A) → (if b then Some x else None) ≡ Some y → x ≡ y
if_some true x y e = same_Some x y e
if_some false x y e = absurd (cc)

-- ---- what is asked for

pub pinning_frame : (p : Pinning) (a : Action) → pins.asks p ≡ Some a → IsFrame a
pinning_frame pinning.Noting a is = subst IsFrame (same_Some ReadEpoch a is) tt
pinning_frame (pinning.Storing x) a is = subst IsFrame (same_Some (StorePin x) a is) tt
pinning_frame pinning.Ended a is = absurd (cc)

reclaiming_frame : (s : ReclaimStage) (qs : List Place) (a : Action) → reclaims.asks_at s qs ≡ Some a → IsFrame a
reclaiming_frame reclaiming.Noting qs a is = subst IsFrame (same_Some ReadEpoch a is) tt
reclaiming_frame reclaiming.Raising qs a is = subst IsFrame (same_Some RaiseEpoch a is) tt
reclaiming_frame (reclaiming.Watching q least) qs a is = subst IsFrame (same_Some (ReadPin q) a is) tt
reclaiming_frame (reclaiming.Freeing least n) qs a is = subst IsFrame (if_some (nat_lt (open_index least qs) (length qs)) _ a is) tt

pub enter_frame : (m : Enter) (qs : List Place) (a : Action) → enters.asks m qs ≡ Some a → IsFrame a
enter_frame (enter.Reclaiming r b) qs a is = reclaiming_frame r.stage qs a is
enter_frame (enter.Pinning p) qs a is = pinning_frame p a is
enter_frame (enter.Ended o) qs a is = absurd (cc)

gives_frame : (o : Option Link) → IsFrame (exits.gives_link o)
gives_frame (Some d) = tt
gives_frame None = tt

pub exit_frame : (m : Exit) (s : Stock) (a : Action) → exits.asks m s ≡ Some a → IsFrame a
exit_frame exit.Labelling s a is = subst IsFrame (same_Some ReadEpoch a is) tt
exit_frame exit.Giving s a is = subst IsFrame (same_Some (exits.gives s) a is) (gives_frame (first_in s))
exit_frame exit.Ended s a is = absurd (cc)

-- a close that has not ended asks for a step
pub exit_going : (m : Exit) (s : Stock) → exits.is_ended m ≡ false → (a : Action) × (exits.asks m s ≡ Some a)
exit_going exit.Labelling s going = (ReadEpoch, refl)
exit_going exit.Giving s going = (exits.gives s, refl)
exit_going exit.Ended s going = absurd (cc)

-- and one that asks for none has
pub exit_over : (m : Exit) (s : Stock) → exits.asks m s ≡ None → m ≡ exit.Ended
exit_over exit.Labelling s none = absurd (cc)
exit_over exit.Giving s none = absurd (cc)
exit_over exit.Ended s none = refl

-- ---- what such a step is

pub frame_one : (z : Sizes) (a : Action) (r : Answer) (v w : View) → IsFrame a → Answers z None a r v w → w.steps ≡ v.steps + 1
frame_one z (Begin x) r v w is row = absurd is
frame_one z (Read x i) r v w is row = absurd is
frame_one z (ReadLeaf x l i) r v w is row = absurd is
frame_one z (Check x) r v w is row = absurd is
frame_one z (Settle x) r v w is row = absurd is
frame_one z (Upgrade x) r v w is row = absurd is
frame_one z (Claim n) r v w is row = absurd is
frame_one z (Write b i word) r v w is row = absurd is
frame_one z (WriteLeaf l i word) r v w is row = absurd is
frame_one z (Commit b o) r v w is row = absurd is
frame_one z (Release b o) r v w is row = absurd is
frame_one z (ClearBit p i o) r v w is row = absurd is
frame_one z (GiveBack d) (Begun s) v w is row = absurd row
frame_one z (GiveBack d) (Word y) v w is row = absurd row
frame_one z (GiveBack d) (Checked s) v w is row = absurd row
frame_one z (GiveBack d) (Upgraded s) v w is row = absurd row
frame_one z (GiveBack d) Done v w is row = ap (λ (t : View). t.steps) row.is
frame_one z (Free d) (Begun s) v w is row = absurd row
frame_one z (Free d) (Word y) v w is row = absurd row
frame_one z (Free d) (Checked s) v w is row = absurd row
frame_one z (Free d) (Upgraded s) v w is row = absurd row
frame_one z (Free d) Done v w is row = ap (λ (t : View). t.steps) row.is
frame_one z ReadEpoch (Begun s) v w is row = absurd row
frame_one z ReadEpoch (Word y) v w is row = ap (λ (t : View). t.steps) row.is
frame_one z ReadEpoch (Checked s) v w is row = absurd row
frame_one z ReadEpoch (Upgraded s) v w is row = absurd row
frame_one z ReadEpoch Done v w is row = absurd row
frame_one z (StorePin word) (Begun s) v w is row = absurd row
frame_one z (StorePin word) (Word y) v w is row = absurd row
frame_one z (StorePin word) (Checked s) v w is row = absurd row
frame_one z (StorePin word) (Upgraded s) v w is row = absurd row
frame_one z (StorePin word) Done v w is row = ap (λ (t : View). t.steps) row ∙ pinning_counts v word
frame_one z RaiseEpoch (Begun s) v w is row = absurd row
frame_one z RaiseEpoch (Word y) v w is row = ap (λ (t : View). t.steps) row
frame_one z RaiseEpoch (Checked s) v w is row = absurd row
frame_one z RaiseEpoch (Upgraded s) v w is row = absurd row
frame_one z RaiseEpoch Done v w is row = absurd row
frame_one z (ReadPin q) (Begun s) v w is row = absurd row
frame_one z (ReadPin q) (Word y) v w is row = ap (λ (t : View). t.steps) row
frame_one z (ReadPin q) (Checked s) v w is row = absurd row
frame_one z (ReadPin q) (Upgraded s) v w is row = absurd row
frame_one z (ReadPin q) Done v w is row = absurd row
