-- Pinning a pass, and raising the epoch.
use Rattle.std.specs.Prelude.{◌≡◌, ℕ, ◌+◌, ◌^◌, ◌<◌, [], nat_lt, if◌then◌else◌, Option, Some, None}
use Rattle.art_step.specs.declared.actions.Action.{Action}
use Rattle.art_step.specs.declared.actions.Action.TheVariants.{ReadEpoch, StorePin}
use Rattle.art_epoch.specs.declared.enter.Pinning.{Pinning}
use Rattle.art_epoch.specs.declared.enter.Pinning.TheVariants.{Noting, Storing, Ended}
use Rattle.art_step.specs.declared.views.Sizes.{Sizes}
use Rattle.art_step.specs.declared.views.View.{View}
use Rattle.art_step.specs.Steps.Advance as advance
use Rattle.art_step.specs.Steps.Epoch as epoch
use Rattle.art_step.specs.Steps.Pin as pin

-- the pass is idle and holds nothing
pub record MayPin (v : View) : Type 0 where
  pub idle : v.pin ≡ 0
  pub free : v.held ≡ []

-- in two steps the pass found the epoch x, and is pinned to it
pub record Pins (z : Sizes) (v w : View) : Type 0 where
  pub found : ℕ
  pub some : 0 < found
  pub low : found < 2 ^ 62 + z.passes
  pub is : w ≡ pin.view_after (epoch.view_after v found) found

-- in two steps the pass found the epoch x and raised it; where it was at its top, in one step found it alone
abbrev pub view_advanced : View → ℕ → View
view_advanced v x = if nat_lt x (2 ^ 62) then advance.view_after (epoch.view_after v x) else epoch.view_after v x

pub record Advances (z : Sizes) (v w : View) : Type 0 where
  pub found : ℕ
  pub some : 0 < found
  pub low : found < 2 ^ 62 + z.passes
  pub is : w ≡ view_advanced v found

-- ---- the machine that pins

abbrev pub asks : Pinning → Option Action
asks Noting = Some ReadEpoch
asks (Storing x) = Some (StorePin x)
asks Ended = None

-- how many steps it makes from here on
abbrev pub steps_left : Pinning → ℕ
steps_left Noting = 2
steps_left (Storing x) = 1
steps_left Ended = 0

-- the epoch was noted
pub record IsNoting (z : Sizes) (v0 v : View) (x : ℕ) : Type 0 where
  pub may : MayPin v0
  pub some : 0 < x
  pub low : x < 2 ^ 62 + z.passes
  pub is : v ≡ epoch.view_after v0 x

-- of a pass whose view was v0 when the machine began, and is v
abbrev pub Fits : Sizes → View → Pinning → View → Type 0
Fits z v0 Noting v = MayPin v0 × (v ≡ v0)
Fits z v0 (Storing x) v = IsNoting z v0 v x
Fits z v0 Ended v = Pins z v0 v
