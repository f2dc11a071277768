-- What a pass is shown where a step makes an event: one more of its own, at the end of a legal history.
use Rattle.std.specs.Prelude.{List, ◌≡◌, ◌++◌, ◌∷◌, [], length, Option, None, Some}
use Rattle.art_step.specs.Histories.{event, IsLegal, places}
use Rattle.art_step.specs.declared.views.Event.{Event}
use Rattle.art_step.specs.declared.views.View.{View}
use Rattle.art_step.specs.declared.deeds.Deed.{Deed}

-- the pass makes an event: after all that it had seen, and one more of its own
pub record MakesEvent (v w : View) (what : Deed) : Type 0 where
  pub between : List Event
  pub seen : w.seen ≡ (v.seen ++ between) ++ event v.pass what ∷ []
  pub own : w.own ≡ v.own ++ length (v.seen ++ between) ∷ []
  pub legal : IsLegal w.seen
  pub all : places v.pass w.seen ≡ w.own

-- it makes this event, or none
abbrev pub SeesEvent : View → View → Option Deed → Type 0
SeesEvent v w None = (w.seen ≡ v.seen) × (w.own ≡ v.own)
SeesEvent v w (Some what) = MakesEvent v w what
