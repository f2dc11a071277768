-- Where a get stands that may make so many steps.
use Rattle.std.specs.Prelude.{◌≡◌, ℕ, ◌+◌, ◌≤◌, List, length, None}
use Rattle.art_find.specs.Descents.{ended_at}
use Rattle.art_find.specs.Driven.{GetFits}
use Rattle.art_find.specs.declared.descents.Descent.{Descent}
use Rattle.art_find.specs.declared.straight.Tally.{Tally}
use Rattle.art_step.specs.declared.views.Sizes.{Sizes}
use Rattle.art_step.specs.declared.views.View.{View}

-- a get of the key that began with the view u has come to a descent that has not ended, and so many of its steps are left
pub record GetGoes (z : Sizes) (k : List ℕ) (turns : ℕ) (u v : View) (m : Descent) (t : Tally) : Type 0 where
  pub going : ended_at m.stage ≡ None
  pub get : GetFits z k u v m t.restarts
  pub made : v.steps + t.left ≡ u.steps + turns
  pub few : t.restarts + t.left ≤ 4294967295
  pub short : length k ≤ 64

-- some get of the key has
abbrev pub IsGoing : List ℕ → Sizes → View → Descent → Tally → Type 0
IsGoing k z v m t = (turns : ℕ) × (u : View) × GetGoes z k turns u v m t

-- whatever get of the key had come to the one has come to the other
abbrev pub GoesOn : List ℕ → Sizes → View → Descent → Tally → Sizes → View → Descent → Tally → Type 0
GoesOn k z v m t z' v' m' t' = (turns : ℕ) (u : View) → GetGoes z k turns u v m t → GetGoes z' k turns u v' m' t'
