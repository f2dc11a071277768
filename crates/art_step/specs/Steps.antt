-- Steps: one of any kind, and one at an instant. Each kind has a page: where it may be made, the view after it, the step, what the
-- caller is shown, and its law.
use Rattle.std.specs.Prelude.{◌≡◌, ℕ, List, Some, ⊤}
use Rattle.art_step.specs.declared.faults.UpgradeFault.{UpgradeFault}
use Rattle.art_step.specs.declared.faults.UpgradeFault.TheVariants as fault
use Rattle.art_step.specs.declared.views.Event.{Event}
use Rattle.art_step.specs.declared.views.Sizes.{Sizes}
use Rattle.art_step.specs.declared.views.Stamp.{Stamp}
use Rattle.art_step.specs.declared.views.View.{View}
use Rattle.art_tree.specs.Heaps.{Cells}
use Rattle.art_step.specs.Effects.{FindsVersion, Instant}
use Rattle.art_step.specs.Sound.{IsSound}
use Rattle.art_step.specs.Steps.Advance as advance
use Rattle.art_step.specs.Steps.Anchor as anchor
use Rattle.art_step.specs.Steps.Begin as begin
use Rattle.art_step.specs.Steps.Check as check
use Rattle.art_step.specs.Steps.Claim as claim
use Rattle.art_step.specs.Steps.Commit as commit
use Rattle.art_step.specs.Steps.Epoch as epoch
use Rattle.art_step.specs.Steps.Give as give
use Rattle.art_step.specs.Steps.Pin as pin
use Rattle.art_step.specs.Steps.Read as read
use Rattle.art_step.specs.Steps.Release as release
use Rattle.art_step.specs.Steps.Take as take_free
use Rattle.art_step.specs.Steps.Upgrade as upgrade
use Rattle.art_step.specs.Steps.Watch as watch
use Rattle.art_step.specs.Steps.Write as write
use Rattle.art_step.specs.Views.{Memory, Views}
pub mod Advance
pub mod Anchor
pub mod Begin
pub mod Check
pub mod Claim
pub mod Commit
pub mod Epoch
pub mod Give
pub mod Pin
pub mod Read
pub mod Release
pub mod Take
pub mod Upgrade
pub mod Watch
pub mod Write

-- a step of one of these kinds, where log is the history before it and s the tree
pub data OfAKind (z : Sizes) (p : ℕ) (v : View) (m : Memory) (f : Views) (m' : Memory) (f' : Views) (log : List Event)
    (s : Cells) : Type 0 where
  IsBegin : begin.Step z p v m f m' f' → OfAKind z p v m f m' f' log s
  IsRead : read.Step z p v m f m' f' → OfAKind z p v m f m' f' log s
  IsReadLeaf : read.LeafStep z p v m f m' f' → OfAKind z p v m f m' f' log s
  IsUnchanged : check.UnchangedStep z p v m f m' f' log s → OfAKind z p v m f m' f' log s
  IsChanged : check.ChangedStep z p v m f m' f' → OfAKind z p v m f m' f' log s
  IsUpgrade : upgrade.Step z p v m f m' f' → OfAKind z p v m f m' f' log s
  IsClaim : claim.Step z p v m f m' f' → OfAKind z p v m f m' f' log s
  IsCommit : commit.Step z p v m f m' f' log → OfAKind z p v m f m' f' log s
  IsRelease : release.Step z p v m f m' f' → OfAKind z p v m f m' f' log s
  IsWrite : write.Step z p v m f m' f' → OfAKind z p v m f m' f' log s
  IsWriteLeaf : write.LeafStep z p v m f m' f' → OfAKind z p v m f m' f' log s
  IsTake : take_free.Step z p v m f m' f' → OfAKind z p v m f m' f' log s
  IsGive : give.Step z p v m f m' f' → OfAKind z p v m f m' f' log s
  IsFreed : give.FreeStep z p v m f m' f' → OfAKind z p v m f m' f' log s
  IsEpoch : epoch.Step z p v m f m' f' → OfAKind z p v m f m' f' log s
  IsPin : pin.Step z p v m f m' f' → OfAKind z p v m f m' f' log s
  IsAdvance : advance.Step z p v m f m' f' → OfAKind z p v m f m' f' log s
  IsWatch : watch.Step z p v m f m' f' → OfAKind z p v m f m' f' log s
  IsAnchor : anchor.Step z p v m f m' f' log → OfAKind z p v m f m' f' log s

-- one step of the pass p, before which all was sound
pub record OneStep (z : Sizes) (p : ℕ) (m : Memory) (f : Views) (m' : Memory) (f' : Views) : Type 0 where
  pub view : View
  pub before : f p ≡ Some view
  pub sound : IsSound z m f
  pub kind : OfAKind z p view m f m' f' sound.log sound.logical

abbrev pub StepLaw : Type 0
StepLaw = (z : Sizes) (p : ℕ) (m : Memory) (f : Views) (m' : Memory) (f' : Views) → OneStep z p m f m' f' → IsSound z m' f'

-- at one of these instants the pass made one step, which took its view from v to w, and it was so
pub record AtStep (z : Sizes) (v w : View) (instants so : Instant) : Type 0 where
  pub words : Memory
  pub views : Views
  pub words_after : Memory
  pub views_after : Views
  pub instant : instants words views words_after views_after
  pub pass : ℕ
  pub before : views pass ≡ Some v
  pub after : views_after pass ≡ Some w
  pub step : OneStep z pass words views words_after views_after
  pub was : so words views words_after views_after

-- an upgrade that locks nothing: another version word is found, or the stamped one is at its counter's end and no step is made
abbrev pub LocksNothing : Sizes → View → View → Instant → Stamp → UpgradeFault → Type 0
LocksNothing z v w instants x (fault.Changed c) = AtStep z v w instants (FindsVersion x.cell c.found)
LocksNothing z v w instants x (fault.Exhausted c) = ⊤
