-- What a seek asks, and what it knows between two of its steps: its pin, its walk, its close.
use Rattle.std.specs.Prelude.{◌≡◌, ℕ, ◌+◌, ◌-◌, ◌<◌, ◌≤◌, List, Bool, true, false, Option, Some, None}
use Rattle.art_epoch.specs.Pins as pins
use Rattle.art_epoch.specs.Pins.{MayPin, Pins}
use Rattle.art_find.specs.Driven.{restarts_after}
use Rattle.art_step.specs.declared.actions.Action.{Action}
use Rattle.art_step.specs.declared.actions.Action.TheVariants.{StorePin}
use Rattle.art_key.specs.declared.bounds.Bound.{Bound as KeyBound}
use Rattle.art_look.specs.declared.looks.Reached.{Reached}
use Rattle.art_look.specs.declared.looks.Seen.{Seen as SeenOf}
use Rattle.art_look.specs.declared.path_buffers.PathBuffer.{PathBuffer}
use Rattle.art_look.specs.Sought.{HasCounted, HasSpent, IsIdleAgain, UsedTurns}
use Rattle.art_look.specs.Walks as walks
use Rattle.art_look.specs.Walks.{IsAtStart, IsEnd, aim_of, told_of}
use Rattle.art_look.specs.declared.seeks.Seek.{Seek}
use Rattle.art_look.specs.declared.seeks.SeekStage.{SeekStage}
use Rattle.art_look.specs.declared.seeks.SeekStage.TheVariants as stage
use Rattle.art_look.specs.declared.walks.Aim.TheVariants as aim
use Rattle.art_look.specs.declared.walks.Outcome.{Outcome}
use Rattle.art_look.specs.declared.walks.Outcome.TheVariants.{Seen, Busy}
use Rattle.art_look.specs.declared.walks.Walk.{Walk}
use Rattle.art_step.specs.Events.{SeesEvent}
use Rattle.art_step.specs.Steps.Pin as pin
use Rattle.art_step.specs.declared.views.Sizes.{Sizes}
use Rattle.art_step.specs.declared.views.View.{View}

-- ---- what it asks

abbrev pub asks_at : SeekStage → Seek → Option Action
asks_at stage.Pinning m = pins.asks m.pinning
asks_at stage.Walking m = walks.asks m.walk
asks_at stage.Closing m = Some (StorePin 0)
asks_at stage.Ended m = None

-- the next step
abbrev pub asks : Seek → Option Action
asks m = asks_at m.stage m

-- it is one of the walk
abbrev pub is_walking : SeekStage → Bool
is_walking stage.Walking = true
is_walking s = false

abbrev pub outcome_at : SeekStage → Outcome → Option Outcome
outcome_at stage.Ended o = Some o
outcome_at s o = None

-- how it ended, if it has
abbrev pub ended_at : Seek → Option Outcome
ended_at m = outcome_at m.stage m.outcome

-- how far a look has seen, once it has ended so
abbrev pub reached_by : Option Outcome → Walk → Option Reached
reached_by (Some Seen) w = walks.reached_at w
reached_by o w = None

-- what a look has seen, once it has ended so
abbrev pub seen_by : Option Outcome → Walk → List ℕ → KeyBound → PathBuffer → Option SeenOf
seen_by (Some Seen) w k hi t = walks.seen_at w k hi t
seen_by o w k hi t = None

abbrev pub seen_at : Seek → List ℕ → KeyBound → PathBuffer → Option SeenOf
seen_at m k hi t = seen_by (ended_at m) m.walk k hi t

-- at most so many steps come
abbrev pub left_at : SeekStage → Seek → ℕ
left_at stage.Pinning m = pins.steps_left m.pinning + m.left + 1
left_at stage.Walking m = m.left + 1
left_at stage.Closing m = 1
left_at stage.Ended m = 0

abbrev pub steps_left : Seek → ℕ
steps_left m = left_at m.stage m

-- ---- what it knows, of a pass that had the view u when it began

pub record IsPinning (z : Sizes) (k : List ℕ) (hi : KeyBound) (u : View) (m : Seek) (t : PathBuffer) (v : View) : Type 0 where
  pub may : MayPin u
  pub pinning : pins.Fits z u m.pinning v
  pub going : (a : Action) × (pins.asks m.pinning ≡ Some a)
  pub fresh : IsAtStart z k hi m.walk t
  pub full : m.left ≡ m.turns
  pub none : m.restarts ≡ 0
  pub few : m.turns ≤ 4294967295

-- the pass was pinned, and the walk has come to the view v; so many turns are left
pub record IsWalking (z : Sizes) (k : List ℕ) (hi : KeyBound) (u : View) (m : Seek) (t : PathBuffer) (v : View) : Type 0 where
  pub opened : View
  pub may : MayPin u
  pub pins_to : Pins z u opened
  pub walk : walks.Fits z k hi opened m.walk t m.restarts v
  pub counted : v.steps + m.left ≡ opened.steps + m.turns
  pub within : m.left ≤ m.turns
  pub few : m.restarts + m.left ≤ 4294967295

-- its walk heard one step more
abbrev pub heard : Bool → Seek → Seek
heard on m = record m { left = m.left - 1; restarts = restarts_after m.restarts on }

-- and the walk goes on, with a turn
pub record GoesOn (z : Sizes) (k : List ℕ) (hi : KeyBound) (u : View) (m : Seek) (t : PathBuffer) (v : View) : Type 0 where
  pub walking : IsWalking z k hi u m t v
  pub going : walks.ended_at m.walk ≡ None
  pub turn : 0 < m.left

-- or is over, and the pass is still pinned
pub record IsOver (z : Sizes) (k : List ℕ) (hi : KeyBound) (u : View) (m : Seek) (t : PathBuffer) (v : View) : Type 0 where
  pub walking : IsWalking z k hi u m t v
  pub ends : IsEnd m.walk m.left m.outcome

-- or the pass went idle after that
pub record WentIdle (z : Sizes) (k : List ℕ) (hi : KeyBound) (u : View) (m : Seek) (t : PathBuffer) (v : View) : Type 0 where
  pub before : View
  pub over : IsOver z k hi u m t before
  pub is : v ≡ pin.view_after before 0

abbrev pub StageFits : Sizes → List ℕ → KeyBound → View → SeekStage → Seek → PathBuffer → View → Type 0
StageFits z k hi u stage.Pinning m t v = IsPinning z k hi u m t v
StageFits z k hi u stage.Walking m t v = GoesOn z k hi u m t v
StageFits z k hi u stage.Closing m t v = IsOver z k hi u m t v
StageFits z k hi u stage.Ended m t v = WentIdle z k hi u m t v

abbrev pub Fits : Sizes → List ℕ → KeyBound → View → Seek → PathBuffer → View → Type 0
Fits z k hi u m t v = StageFits z k hi u m.stage m t v

-- some seek has come to this
abbrev pub IsUnderWay : Sizes → List ℕ → KeyBound → Seek → PathBuffer → View → Type 0
IsUnderWay z k hi m t v = (u : View) × Fits z k hi u m t v

-- ---- a seek that is given up

-- it will end as busy: it has come to that, or has no turns
abbrev pub busy_at : SeekStage → Seek → Type 0
busy_at stage.Pinning m = m.left ≡ 0
busy_at stage.Walking m = ⊥
busy_at stage.Closing m = m.outcome ≡ Busy
busy_at stage.Ended m = m.outcome ≡ Busy

abbrev pub WillBeBusy : Seek → Type 0
WillBeBusy m = busy_at m.stage m

-- by steps of its own a seek m, of a pass with the view v, has come to m', with the view w; it may have made none
pub record GoesTo (z : Sizes) (k : List ℕ) (hi : KeyBound) (m : Seek) (t : PathBuffer) (v : View) (m' : Seek) (t' : PathBuffer) (w : View) : Type 0 where
  pub aim : aim_of m'.walk ≡ aim_of m.walk
  pub turns : m'.turns ≡ m.turns
  pub refuses : WillBeBusy m → WillBeBusy m'
  pub less : steps_left m' ≤ steps_left m
  pub left : w.steps + steps_left m' ≤ v.steps + steps_left m
  pub fits : (u : View) → Fits z k hi u m t v → Fits z k hi u m' t' w

-- the turns that it has used where it is given up
abbrev pub turns_used_at : SeekStage → Seek → ℕ
turns_used_at stage.Pinning m = 0
turns_used_at stage.Walking m = m.turns - m.left
turns_used_at s m = m.turns

abbrev pub turns_used : Seek → ℕ
turns_used m = turns_used_at m.stage m

-- ---- how it ends

-- the pass is idle again, and made the event of the outcome, or none; its steps and its failures are counted; a look that has seen
-- something used three turns at least
pub record HasSought (k : List ℕ) (hi : KeyBound) (u : View) (m : Seek) (t : PathBuffer) (o : Outcome) (v : View) : Type 0 where
  pub idle : IsIdleAgain u v
  pub tells : SeesEvent u v (told_of o k hi t m.walk)
  pub counted : HasCounted u m.turns m.restarts v
  pub spent : aim_of m.walk ≡ aim.Range → HasSpent u m.turns m.left v
  pub some : o ≡ Seen → m.left + 3 ≤ m.turns
  pub none : o ≡ Busy → m.left ≡ 0
  pub busy : o ≡ Busy → UsedTurns u m.turns m.restarts v
