-- Pin: the pass stores its own word, an epoch that it has noted or 0. From idle it is pinned; at 0 it is idle, and all stamps go.
use Rattle.std.specs.Prelude.{ℕ, [], ◌≡◌, ◌⊎◌, ◌+◌, ◌==◌, if◌then◌else◌, Some}
use Rattle.art_step.specs.Effects.{SetsPassWord}
use Rattle.art_step.specs.Sound.{KeepsSound}
use Rattle.art_step.specs.Views.{Memory, Views, SetsView}
use Rattle.art_step.specs.declared.views.EpochSeen.{EpochSeen}
use Rattle.art_step.specs.declared.views.Sizes.{Sizes}
use Rattle.art_step.specs.declared.views.View.{View}

-- the word is the epoch that the pass noted
abbrev pub IsNoted : View → ℕ → Type 0
IsNoted v x = (t : EpochSeen) × (v.noted ≡ Some t) × (t.epoch ≡ x)

-- nothing is held; from idle to the epoch that is noted, or to idle
pub record May (v : View) (x : ℕ) : Type 0 where
  pub free : v.held ≡ []
  pub word : (x ≡ 0) ⊎ ((v.pin ≡ 0) × IsNoted v x)

-- one more pin, or all stamps and notes gone; the note of the epoch stays
abbrev pub view_after : View → ℕ → View
view_after v x =
    if x == 0
    then record v { steps = v.steps + 1; pin = 0; stamps = []; notes = [] }
    else record v { steps = v.steps + 1; pins = v.pins + 1; pin = x }

pub record Step (z : Sizes) (p : ℕ) (v : View) (m : Memory) (f : Views) (m' : Memory) (f' : Views) : Type 0 where
  pub word : ℕ
  pub may : May v word
  pub sets : SetsPassWord m p word m'
  pub view : SetsView f p (view_after v word) f'

abbrev pub Outcome : View → View → ℕ → Type 0
Outcome v w x = w ≡ view_after v x

abbrev pub Law : Type 0
Law = KeepsSound Step
