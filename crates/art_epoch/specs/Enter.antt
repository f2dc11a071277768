-- The opening of an attempt: what waits in limbo goes back as far as it may, and where four places are free then, the pass is
-- pinned.
use Rattle.std.specs.Prelude.{◌≡◌, ◌≢◌, ◌⊎◌, ℕ, ◌+◌, ◌<◌, ◌≤◌, List, [], ◌∷◌, map, length, nat_lt, if◌then◌else◌, Option, Some, None}
use Rattle.art_epoch.specs.Limbo.{IsLimbo, lets_go}
use Rattle.art_epoch.specs.Pins as pins
use Rattle.art_epoch.specs.Pins.{MayPin, Pins}
use Rattle.art_epoch.specs.Reclaiming as reclaims
use Rattle.art_epoch.specs.Reclaiming.{Look, OnlyReclaims, Reclaims, least_at, places_after, stage_after}
use Rattle.art_step.specs.declared.actions.Action.{Action}
use Rattle.art_step.specs.declared.actions.Action.TheVariants.{ReadPin}
use Rattle.art_epoch.specs.declared.limbo.Place.{Place}
use Rattle.art_epoch.specs.declared.enter.Pinning.{Pinning}
use Rattle.art_epoch.specs.declared.enter.Pinning.TheVariants.{Noting}
use Rattle.art_epoch.specs.declared.limbo.Reclaiming.{Reclaiming}
use Rattle.art_epoch.specs.declared.enter.Blocker.{Blocker}
use Rattle.art_epoch.specs.declared.enter.Entered.{Entered}
use Rattle.art_epoch.specs.declared.enter.Entered.TheVariants.{Pinned, Crowded}
use Rattle.art_epoch.specs.declared.enter.Enter.{Enter}
use Rattle.art_epoch.specs.declared.enter.Enter.TheVariants as at
use Rattle.art_step.specs.Views.{Member}
use Rattle.art_step.specs.declared.views.Found.{Found}
use Rattle.art_step.specs.declared.views.Sizes.{Sizes}
use Rattle.art_step.specs.declared.views.View.{View}
use Rattle.art_step.specs.declared.views.Word.{Word}
use Rattle.art_step.specs.declared.views.Word.TheVariants.{Pass}
use Rattle.std.specs.Option.{option_and_then}

-- ---- who keeps the first place waiting

-- the label of the first place that is not below the least word, if there is one
abbrev pub first_label : Option ℕ → List Place → Option ℕ
first_label least [] = None
first_label least (x ∷ xs) = if lets_go least x.label then first_label least xs else Some x.label

-- of these looks the first, by its pass, whose word is not 0 and not above the label
pub record IsBlocker (looks : List Look) (label : ℕ) (b : Blocker) : Type 0 where
  pub look : Member (b.pass, b.epoch) looks
  pub some : b.epoch ≢ 0
  pub low : b.epoch ≤ label
  pub first : (l : Look) → Member l looks → l.0 < b.pass → l.1 ≢ 0 → label < l.1

-- the pass whose word a step found, and that word, if it was a pass's
abbrev pub watched : ℕ → Action → Option Blocker
watched x (ReadPin q) = Some (record { pass = q; epoch = x })
watched x a = None

-- it blocks the first place that stays, whose label is this, if that could have gone before
abbrev pub blocked_by : Option Blocker → Option ℕ → Option ℕ → Blocker → Blocker
blocked_by None least label b = b
blocked_by (Some c) least None b = b
blocked_by (Some c) least (Some label) b = if lets_go least label then c else b

-- ---- how it goes on

-- more goes back; or nothing more may, and the pass is pinned, unless limbo is crowded
abbrev pub going_on : Option Action → Reclaiming → Blocker → List Place → Enter
going_on (Some a) r b qs = at.Reclaiming r b
going_on None r b qs = if nat_lt 60 (length qs) then at.Ended (Crowded b) else at.Pinning Noting

abbrev pub reclaiming_after : Reclaiming → ℕ → Reclaiming
reclaiming_after r x = record r { stage = stage_after r.own r.passes x r.stage }

-- the blocker once this word was found
abbrev pub blocker_after : Reclaiming → Blocker → ℕ → List Place → Blocker
blocker_after r b x qs =
    blocked_by (option_and_then (watched x) (reclaims.asks_at r.stage qs)) (least_at r.stage)
    (first_label (least_at (reclaiming_after r x).stage) (places_after r.stage qs)) b

-- a step by which what waits goes back found this word
abbrev pub reclaimed : Reclaiming → Blocker → ℕ → List Place → Enter
reclaimed r b x qs =
    going_on (reclaims.asks_at (reclaiming_after r x).stage (places_after r.stage qs)) (reclaiming_after r x) (blocker_after r b x qs)
    (places_after r.stage qs)

-- the next step
abbrev pub asks : Enter → List Place → Option Action
asks (at.Reclaiming r b) qs = reclaims.asks_at r.stage qs
asks (at.Pinning p) qs = pins.asks p
asks (at.Ended o) qs = None

abbrev pub ended_at : Enter → Option Entered
ended_at (at.Ended o) = Some o
ended_at m = None

-- how many steps it makes at most from here on
abbrev pub steps_left : Enter → List Place → ℕ
steps_left (at.Reclaiming r b) qs = 2 + reclaims.steps_left r.passes r.stage qs
steps_left (at.Pinning p) qs = pins.steps_left p
steps_left (at.Ended o) qs = 0

-- ---- how it ends, of a pass that had the view u at the beginning, where ps waited

-- nothing waited; or what waited went back once, as far as it might
abbrev pub HasReclaimed : Sizes → View → View → List Place → List Place → Type 0
HasReclaimed z u v ps qs =
    ((ps ≡ []) × (qs ≡ []) × (v ≡ u)) ⊎ ((0 < length ps) × ((count : ℕ) × Reclaims z u v ps qs count))

pub record IsReclaimed (z : Sizes) (u v : View) (ps qs : List Place) : Type 0 where
  pub only : OnlyReclaims u v
  pub limbo : IsLimbo qs [] v.limbo
  pub reclaimed : HasReclaimed z u v ps qs
  pub steps : v.steps ≤ u.steps + 1 + z.passes + length ps

-- then the pass was pinned, with four places free
pub record IsOpened (z : Sizes) (u v : View) (ps qs : List Place) : Type 0 where
  pub early : View
  pub reclaimed : IsReclaimed z u early ps qs
  pub room : length qs + 4 ≤ 64
  pub pins_to : Pins z early v
  pub is : v ≡ record u { steps = v.steps; pins = v.pins; pin = v.pin; noted = v.noted; found = v.found; limbo = v.limbo }
  pub pinned : 0 < v.pin
  pub once : v.pins ≡ u.pins + 1
  pub limbo : IsLimbo qs [] v.limbo
  pub steps : v.steps ≤ u.steps + 3 + z.passes + length ps

-- or it stays idle, as fewer than four places are free: the blocker is a pass that kept the first of them waiting
pub record IsCrowded (z : Sizes) (u v : View) (ps qs : List Place) (b : Blocker) : Type 0 where
  pub count : ℕ
  pub reclaims_once : Reclaims z u v ps qs count
  pub only : OnlyReclaims u v
  pub idle : v.pin ≡ 0
  pub full : 60 < length qs
  pub first : Place
  pub rest : List Place
  pub places : qs ≡ first ∷ rest
  pub blocker : IsBlocker reclaims_once.looks first.label b
  pub limbo : IsLimbo qs [] v.limbo
  pub steps : v.steps ≤ u.steps + 1 + z.passes + length ps

abbrev pub HasEnded : Sizes → View → View → List Place → List Place → Entered → Type 0
HasEnded z u v ps qs Pinned = IsOpened z u v ps qs
HasEnded z u v ps qs (Crowded b) = IsCrowded z u v ps qs b

-- ---- what it knows between two steps

-- an idle pass that holds nothing, of so many passes
pub record MayOpen (z : Sizes) (u : View) (own passes : ℕ) (ps : List Place) : Type 0 where
  pub own_is : own ≡ u.pass
  pub inside : own < passes
  pub passes_are : passes ≡ z.passes
  pub may : MayPin u
  pub limbo : IsLimbo ps [] u.limbo

-- the words that were found, once those of these looks are
abbrev pub looked : List Look → List Word → List Word
looked [] ws = ws
looked (l ∷ ls) ws = looked ls (Pass l.0 l.1 ∷ ws)

abbrev pub words_found : View → List Word
words_found v = map (λ (f : Found). f.word) v.found

-- what was found since the view u are these looks, and of them the blocker is one of the first place that stays
pub record IsBlocked (u v : View) (least : Option ℕ) (qs : List Place) (b : Blocker) : Type 0 where
  pub looks : List Look
  pub found : words_found v ≡ looked looks (words_found u)
  pub blocker : (label : ℕ) → first_label least qs ≡ Some label → IsBlocker looks label b

-- what waits goes back
pub record IsReclaiming (z : Sizes) (u v : View) (ps qs : List Place) (r : Reclaiming) (b : Blocker) : Type 0 where
  pub may : MayPin u
  pub some : 0 < length ps
  pub fits : reclaims.Fits z u ps r qs v
  pub going : (a : Action) × (reclaims.asks_at r.stage qs ≡ Some a)
  pub blocked : IsBlocked u v (least_at r.stage) qs b

-- the pass is being pinned
pub record IsPinning (z : Sizes) (u v : View) (ps qs : List Place) (p : Pinning) : Type 0 where
  pub early : View
  pub reclaimed : IsReclaimed z u early ps qs
  pub room : length qs + 4 ≤ 64
  pub fits : pins.Fits z early p v
  pub going : (a : Action) × (pins.asks p ≡ Some a)

-- of a pass whose view was u when it began, where ps waited, and is v, where qs wait
abbrev pub EnterFits : Sizes → View → List Place → Enter → List Place → View → Type 0
EnterFits z u ps (at.Reclaiming r b) qs v = IsReclaiming z u v ps qs r b
EnterFits z u ps (at.Pinning p) qs v = IsPinning z u v ps qs p
EnterFits z u ps (at.Ended o) qs v = HasEnded z u v ps qs o

-- once a step of the pinning was made, it goes on, or the pass is pinned
abbrev pub IsPinnedOn : Sizes → View → View → Enter → Type 0
IsPinnedOn z early v (at.Reclaiming r b) = ⊥
IsPinnedOn z early v (at.Pinning p) = pins.Fits z early p v × ((a : Action) × (pins.asks p ≡ Some a))
IsPinnedOn z early v (at.Ended Pinned) = Pins z early v
IsPinnedOn z early v (at.Ended (Crowded b)) = ⊥
