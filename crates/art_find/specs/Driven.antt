-- How a get ends that is driven to its end.
use Rattle.std.specs.Prelude.{◌≡◌, ℕ, ◌+◌, ◌*◌, ◌≤◌, Bool, if◌then◌else◌, List, Option}
use Rattle.art_find.specs.Descents.{Fits, most_steps}
use Rattle.art_find.specs.declared.descents.Descent.{Descent}
use Rattle.art_model.specs.declared.commands.Answer.TheVariants as reply
use Rattle.art_step.specs.Deeds.{key_of}
use Rattle.art_step.specs.Histories.{by_value}
use Rattle.art_step.specs.declared.deeds.Act.TheVariants.{Get}
use Rattle.art_step.specs.declared.deeds.Deed.{Deed}
use Rattle.art_step.specs.declared.deeds.Deed.TheVariants.{Done}
use Rattle.art_step.specs.declared.views.Sizes.{Sizes}
use Rattle.art_step.specs.declared.views.View.{View}

-- what a get of the key does where it finds this value, or none
abbrev pub get_done : List ℕ → Option ℕ → Deed
get_done k o = Done (Get (key_of k)) (by_value o reply.Found reply.Absent)

-- how often it restarted, after a step that went on or did not
abbrev pub restarts_after : ℕ → Bool → ℕ
restarts_after n went_on = if went_on then n else n + 1

-- a failure begins a descent anew, which makes few steps between two of them, and made so many since the last
pub record Counts (u v : View) (made restarts : ℕ) : Type 0 where
  pub failures : v.failures ≡ u.failures + restarts
  pub steps : v.steps ≤ u.steps + 30000 * restarts + made

pub record GetFits (z : Sizes) (k : List ℕ) (u v : View) (m : Descent) (restarts : ℕ) : Type 0 where
  pub fits : Fits z k (get_done k) m u v
  pub counts : Counts u v (most_steps m.depth m.stage) restarts
