-- Anchor: the anchor's version word is found, and the pass has seen all of the history. No word changes, and no stamp or note comes.
use Rattle.std.specs.Prelude.{◌≡◌, ℕ, ◌+◌, List, Some}
use Rattle.art_step.specs.Histories.{IsLegal, places, StartsWith}
use Rattle.art_step.specs.Sound.{IsSound}
use Rattle.art_step.specs.Views.{Memory, Views, SetsView}
use Rattle.art_step.specs.declared.views.Event.{Event}
use Rattle.art_step.specs.declared.views.Sizes.{Sizes}
use Rattle.art_step.specs.declared.views.View.{View}

-- what the pass has seen is this history now
abbrev pub view_after : View → List Event → View
view_after v log = record v { steps = v.steps + 1; seen = log }

-- log is the history before the step
pub record Step (z : Sizes) (p : ℕ) (v : View) (m : Memory) (f : Views) (m' : Memory) (f' : Views) (log : List Event) : Type 0 where
  pub words : m' ≡ m
  pub view : SetsView f p (view_after v log) f'

-- what it had seen stands at the front of what it sees, which is legal and has its own events at their places, and no others of it
pub record Outcome (v w : View) : Type 0 where
  pub grows : StartsWith w.seen v.seen
  pub legal : IsLegal w.seen
  pub own : places v.pass w.seen ≡ v.own
  pub is : w ≡ view_after v w.seen

-- the history is the one of all views
abbrev pub Law : Type 0
Law = (z : Sizes) (p : ℕ) (v : View) (m : Memory) (f : Views) (m' : Memory) (f' : Views) → f p ≡ Some v → (r : IsSound z m f) →
    Step z p v m f m' f' r.log → IsSound z m' f'
