-- A step that a call made.
use Rattle.std.specs.Prelude.{◌≡◌, ◌+◌, Bool, true, false, Ok, None}
use Rattle.art_change.specs.Kinds.{IsStep}
use Rattle.art_change.specs.declared.driver.Made.{Made}
use Rattle.art_step.specs.declared.actions.Action.{Action}
use Rattle.art_step.specs.declared.actions.Action.TheVariants.{Settle, Commit}
use Rattle.art_step.specs.declared.actions.Answer.{Answer}
use Rattle.art_step.specs.declared.actions.Answer.TheVariants.{Checked}
use Rattle.art_look.specs.declared.driver.Stepped.{Stepped}
use Rattle.art_look.specs.declared.driver.Stepped.TheVariants as stepped
use Rattle.art_step.specs.Events.{MakesEvent, SeesEvent}
use Rattle.art_step.specs.declared.deeds.Deed.{Deed}
use Rattle.art_step.specs.declared.views.Sizes.{Sizes}
use Rattle.art_step.specs.declared.views.View.{View}

-- an event was made from the view v to w, or none
abbrev pub MakesAny : Bool → View → View → Type 0
MakesAny true v w = (what : Deed) × MakesEvent v w what
MakesAny false v w = SeesEvent v w None

-- one step was made, of the kind that it says, with an event where it says so
pub record MakesStep (z : Sizes) (v w : View) (made : Made) : Type 0 where
  pub kind : IsStep made.kind z v w
  pub event : MakesAny made.event v w
  pub one : w.steps ≡ v.steps + 1

-- a step makes the event where a check settles the answer, and where it commits a change
abbrev pub tells : Action → Answer → Bool
tells (Settle x) (Checked (Ok done)) = true
tells (Commit c obsolete) answer = true
tells action answer = false

-- and one of a seek where the seek says so
abbrev pub is_told : Stepped → Bool
is_told stepped.Told = true
is_told s = false
