-- Advance: the epoch goes up by 1. The note of the epoch is spent, so that it stays below its bound whatever the passes do.
use Rattle.std.specs.Prelude.{ℕ, ◌≡◌, ◌+◌, ◌^◌, ◌<◌, Some, None}
use Rattle.art_step.specs.Effects.{SetsEpoch}
use Rattle.art_step.specs.Sound.{KeepsSound}
use Rattle.art_step.specs.Views.{Memory, Views, SetsView}
use Rattle.art_step.specs.declared.views.EpochSeen.{EpochSeen}
use Rattle.art_step.specs.declared.views.Sizes.{Sizes}
use Rattle.art_step.specs.declared.views.View.{View}

-- an epoch is noted from which it may go on
pub record May (v : View) : Type 0 where
  pub note : EpochSeen
  pub noted : v.noted ≡ Some note
  pub early : note.epoch < 2 ^ 62

abbrev pub view_after : View → View
view_after v = record v { steps = v.steps + 1; noted = None }

pub record Step (z : Sizes) (p : ℕ) (v : View) (m : Memory) (f : Views) (m' : Memory) (f' : Views) : Type 0 where
  pub may : May v
  pub sets : SetsEpoch m (m.epoch + 1) m'
  pub view : SetsView f p (view_after v) f'

abbrev pub Outcome : View → View → Type 0
Outcome v w = w ≡ view_after v

abbrev pub Law : Type 0
Law = KeepsSound Step
