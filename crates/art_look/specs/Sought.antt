-- What a client sees of a get or a look, from its pin to its close.
use Rattle.std.specs.Prelude.{◌≡◌, ℕ, ◌+◌, ◌*◌, ◌<◌, ◌≤◌, List, [], map}
use Rattle.art_epoch.specs.Limbo.{IsLimbo}
use Rattle.art_epoch.specs.Pins.{MayPin}
use Rattle.art_epoch.specs.declared.limbo.Place.{Place}
use Rattle.art_step.specs.Steps.Epoch.{labelled}
use Rattle.art_step.specs.declared.views.View.{View}

-- the pass is idle and holds nothing, so it may begin again: what it has in hand is as it was, and so is what waits, but that each
-- number has a label, as after any note of the epoch
pub record IsIdleAgain (u v : View) : Type 0 where
  pub may : MayPin v
  pub pass : v.pass ≡ u.pass
  pub hand : v.hand ≡ u.hand
  pub limbo : (epoch : ℕ) × (v.limbo ≡ map (labelled epoch) u.limbo)
  pub waits : (ps : List Place) → IsLimbo ps [] u.limbo → IsLimbo ps [] v.limbo

-- each restart was a failure, and there were no others; three steps are of the pin and of the close
pub record HasCounted (u : View) (turns restarts : ℕ) (v : View) : Type 0 where
  pub failed : v.failures ≡ u.failures + restarts
  pub steps : v.steps ≤ u.steps + turns + 3

-- all turns were used, and these are few beside the failures
pub record UsedTurns (u : View) (turns restarts : ℕ) (v : View) : Type 0 where
  pub all : v.steps ≡ u.steps + turns + 3
  pub few : turns < 30000 * (restarts + 1)

-- of its turns so many are left: the others were used, and are few beside the failures that it met; three steps are of the pin and of
-- the close
pub record HasSpent (u : View) (turns left : ℕ) (v : View) : Type 0 where
  pub all : v.steps + left ≡ u.steps + turns + 3
  pub few : turns + 30000 * u.failures < left + 30000 * (v.failures + 1)
