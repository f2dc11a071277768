-- What each step of a seek needs of the pass's view, and which kind of step it was.
use Rattle.std.specs.Prelude.{◌≡◌, ℕ, ◌+◌, ◌⊎◌, Bool, true, false, Option, Some, None, Ok}
use Rattle.art_find.specs.Asking.{MayLook}
use Rattle.art_find.specs.Driven.{restarts_after}
use Rattle.art_step.specs.Acting.{IsAllowed, goes_on, is_look}
use Rattle.art_step.specs.declared.actions.Action.{Action}
use Rattle.art_step.specs.declared.actions.Action.TheVariants.{Settle}
use Rattle.art_step.specs.declared.actions.Answer.{Answer}
use Rattle.art_step.specs.declared.actions.Answer.TheVariants.{Checked}
use Rattle.art_look.specs.declared.driver.Stepped.{Stepped}
use Rattle.art_look.specs.declared.driver.Stepped.TheVariants as stepped
use Rattle.art_step.specs.declared.deeds.Deed.{Deed}
use Rattle.art_step.specs.declared.views.Sizes.{Sizes}
use Rattle.art_step.specs.declared.views.View.{View}
use Rattle.art_tree.specs.Heaps.{Cells}

-- it may be made: a look of a walk that settles that this is so, or what is no look and needs no effects
abbrev pub MaySeek : Sizes → (Cells → Type 0) → View → Action → Type 0
MaySeek z so v a = MayLook z so v a ⊎ ((is_look a ≡ false) × IsAllowed z None v a)

-- how often it restarted, after this answer
abbrev pub restarts_told : Answer → ℕ → ℕ
restarts_told answer n = restarts_after n (goes_on answer)

-- ---- which kind of step it was

-- one of the pin or of the close; one of the walk, which goes on; or one after which the walk restarts
abbrev pub walked : Bool → Bool → Stepped
walked true true = stepped.Walked
walked true false = stepped.Restart
walked false on = stepped.Frame

-- a check that settles the answer made the event, if the version word was unchanged
abbrev pub stepped_by : Action → Answer → Stepped
stepped_by (Settle x) (Checked (Ok done)) = stepped.Told
stepped_by a answer = walked (is_look a) (goes_on answer)

-- it is counted
abbrev pub is_counted : Stepped → Bool
is_counted stepped.Frame = false
is_counted s = true

-- its event, if it made one
abbrev pub told_by : Stepped → Deed → Option Deed
told_by stepped.Told d = Some d
told_by s d = None

abbrev pub restarts_by : Stepped → ℕ → ℕ
restarts_by stepped.Restart n = n + 1
restarts_by s n = n
