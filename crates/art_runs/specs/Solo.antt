-- A call that alone makes steps, while every other pass is idle: no step of it fails.
use Rattle.std.specs.Prelude.{◌≡◌, ◌≢◌, ◌<◌, ℕ, Some}
use Rattle.art_change.specs.ArtAttempt.Trying.{IsLimited}
use Rattle.art_change.specs.AsAsked.{GoesAsAsked}
use Rattle.art_change.specs.Calls.{HasCalled, IsCalling, Wish, restarts_in}
use Rattle.art_change.specs.declared.callers.Call.{Call}
use Rattle.art_change.specs.declared.callers.Call.TheVariants as call
use Rattle.art_change.specs.declared.callers.Caller.{Caller}
use Rattle.art_change.specs.declared.outcomes.Outcome.{Outcome}
use Rattle.art_change.specs.declared.outcomes.Outcome.TheVariants as outcome
use Rattle.art_change.specs.Writes as writes
use Rattle.art_epoch.specs.Limbo.{places_of}
use Rattle.art_change.specs.ArtEpoch.declared.enter.Blocker.{Blocker}
use Rattle.art_runs.specs.OthersIdle.{AreCurrent, HasFound, IsAlone}
use Rattle.art_step.specs.Sound.{IsSound}
use Rattle.art_step.specs.Steps.{OneStep}
use Rattle.art_step.specs.Views.{Memory, Views}
use Rattle.art_step.specs.declared.views.Sizes.{Sizes}
use Rattle.art_step.specs.declared.views.View.{View}
use Rattle.art_world.specs.Lasting.{IsLasting, IsTimely}

-- as long as it has told nothing, stamps are current; of a write only while more than 582 steps are left, since a change that is given up
-- for a counter at its end has no more
abbrev pub IsCurrentBy : Memory → View → View → Caller → Call → Type 0
IsCurrentBy m u v c (call.Write n) = v.own ≡ u.own → 582 < writes.steps_left n c.room (places_of c.limbo) → AreCurrent m v
IsCurrentBy m u v c (call.Seek n) = v.own ≡ u.own → AreCurrent m v

-- the call was begun at the view u and has come to the view v: the pass p is alone, and no step failed since
pub record IsSolo (z : Sizes) (p : ℕ) (m : Memory) (f : Views) (u v : View) (c : Caller) : Type 0 where
  pub alone : IsAlone p f
  pub lasting : IsLasting z m f
  pub timely : IsTimely u
  pub found : HasFound m u v
  pub failures : v.failures ≡ u.failures
  pub current : IsCurrentBy m u v c c.call

-- each pass has a view
abbrev pub HasViews : Sizes → Views → Type 0
HasViews z f = (q : ℕ) → q < z.passes → (x : View) × (f q ≡ Some x)

-- so it is at the beginning of a call of an idle pass
abbrev pub BeginLaw : Type 0
BeginLaw = (z : Sizes) (p : ℕ) (m : Memory) (f : Views) (u : View) (c : Caller) → IsSound z m f → IsLasting z m f → IsAlone p f →
    f p ≡ Some u → u.pin ≡ 0 → IsSolo z p m f u u c

-- and so it stays, at each step that the call makes
abbrev pub StepLaw : Type 0
StepLaw = (z : Sizes) (p : ℕ) (m : Memory) (f : Views) (m' : Memory) (f' : Views) (u v w : View) (wish : Wish) (given turns : ℕ)
    (c d : Caller) → IsCalling z wish given turns u c v → IsSolo z p m f u v c → GoesAsAsked z v c w d → HasViews z f →
    OneStep z p m f m' f' → IsSound z m' f' → f p ≡ Some v → f' p ≡ Some w → IsSolo z p m' f' u w d

-- a call of which no step failed never began anew
abbrev pub RestartLaw : Type 0
RestartLaw = (z : Sizes) (wish : Wish) (given turns : ℕ) (u : View) (c : Caller) (v : View) → IsCalling z wish given turns u c v →
    v.failures ≡ u.failures → restarts_in c ≡ 0

-- a call that ended so did not find limbo crowded, and where it is busy it had few turns, in a table within its limits
pub record EndsAlone (z : Sizes) (turns : ℕ) (o : Outcome) : Type 0 where
  pub room : (b : Blocker) → o ≢ outcome.Crowded b
  pub busy : o ≡ outcome.Busy → IsLimited z → turns < 30000

abbrev pub EndLaw : Type 0
EndLaw = (z : Sizes) (p : ℕ) (m : Memory) (f : Views) (u v : View) (wish : Wish) (given turns restarts : ℕ) (c d : Caller)
    (o : Outcome) → IsSolo z p m f u v c → HasCalled z wish given turns restarts u d o v → EndsAlone z turns o
