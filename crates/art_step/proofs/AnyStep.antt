-- A step of any kind leaves all sound.
use Rattle.std.proofs.Common.{◌≡◌, ℕ}
use Rattle.std.specs.Prelude.{Some}
use Rattle.art_step.specs.declared.views.Sizes.{Sizes}
use Rattle.art_step.specs.declared.views.View.{View}
use Rattle.art_step.specs.Sound.{IsSound}
use Rattle.art_step.specs.Steps.{OfAKind, StepLaw, IsBegin, IsRead, IsReadLeaf, IsUnchanged, IsChanged, IsUpgrade, IsClaim, IsCommit, IsRelease, IsWrite, IsWriteLeaf, IsTake, IsGive, IsFreed, IsEpoch, IsPin, IsAdvance, IsWatch, IsAnchor}
use Rattle.art_step.specs.Views.{Memory, Views}
use Rattle.art_step.proofs.StepCommits.{commit_law}
use Rattle.art_step.proofs.StepEpochs.{advance_law, epoch_law, pin_law, watch_law}
use Rattle.art_step.proofs.StepLocks.{claim_law, release_law, upgrade_law}
use Rattle.art_step.proofs.StepNotes.{anchor_law, begin_law, fail_law, pass_law, read_law, read_leaf_law}
use Rattle.art_step.proofs.StepNumbers.{free_law, give_law, take_law}
use Rattle.art_step.proofs.StepWrites.{write_law, write_leaf_law}

module _ (z : Sizes) (p : ℕ) (v : View) (m : Memory) (f : Views) (n : Memory) (g : Views) (at : f p ≡ Some v) (r : IsSound z m f) where
  pub kind_sound : OfAKind z p v m f n g r.log r.logical → IsSound z n g
  kind_sound (IsBegin k) = begin_law z p v m f n g at r k
  kind_sound (IsRead k) = read_law z p v m f n g at r k
  kind_sound (IsReadLeaf k) = read_leaf_law z p v m f n g at r k
  kind_sound (IsUnchanged k) = pass_law z p v m f n g at r k
  kind_sound (IsChanged k) = fail_law z p v m f n g at r k
  kind_sound (IsUpgrade k) = upgrade_law z p v m f n g at r k
  kind_sound (IsClaim k) = claim_law z p v m f n g at r k
  kind_sound (IsCommit k) = commit_law z p v m f n g at r k
  kind_sound (IsRelease k) = release_law z p v m f n g at r k
  kind_sound (IsWrite k) = write_law z p v m f n g at r k
  kind_sound (IsWriteLeaf k) = write_leaf_law z p v m f n g at r k
  kind_sound (IsTake k) = take_law z p v m f n g at r k
  kind_sound (IsGive k) = give_law z p v m f n g at r k
  kind_sound (IsFreed k) = free_law z p v m f n g at r k
  kind_sound (IsEpoch k) = epoch_law z p v m f n g at r k
  kind_sound (IsPin k) = pin_law z p v m f n g at r k
  kind_sound (IsAdvance k) = advance_law z p v m f n g at r k
  kind_sound (IsWatch k) = watch_law z p v m f n g at r k
  kind_sound (IsAnchor k) = anchor_law z p v m f n g at r k

pub step_law : StepLaw
step_law z p m f n g step = kind_sound z p step.view m f n g step.before step.sound step.kind
