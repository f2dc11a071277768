-- How a machine's steps are counted in the turns that a call has.
use Rattle.std.specs.Prelude.{◌≡◌, ℕ, ◌+◌, ◌<◌, ◌≤◌}
use Rattle.art_step.specs.declared.views.View.{View}

-- each step took one turn, and at least one turn is left
pub record Spends (v w : View) (left left' : ℕ) : Type 0 where
  pub some : 0 < left'
  pub less : left' ≤ left
  pub made : w.steps + left' ≡ v.steps + left
