-- What contracts see of a world that is lent to one pass.
use Rattle.std.specs.Prelude.{◌≡◌, ℕ, refl}
use Rattle.std.proofs.Common.{◌∙◌}
use Rattle.art_world.specs.declared.world.Stepper.{Stepper}
use Rattle.art_step.specs.declared.views.Sizes.{Sizes}
use Rattle.art_step.specs.declared.views.View.{View}
use Rattle.art_world.specs.Contents.{Contents, OnlyStepsOf, only_no_steps, only_steps_then}
use Rattle.art_step.specs.WordRows.{view_at}

-- the borrow of the world
abbrev pub lender : Stepper → ℕ
lender a = a.world.ghost_name

-- the world, as it is now
abbrev pub world_of : Stepper → Contents
world_of a = a.world.now

abbrev pub pass_of : Stepper → ℕ
pass_of a = a.pass

-- how many cells there are
abbrev pub sizes_of : Stepper → Sizes
sizes_of a = (world_of a).sizes

-- what the pass knows
abbrev pub view_of : Stepper → View
view_of a = view_at (world_of a).views (pass_of a)

-- it is the same borrow and the same pass, and nothing happened but steps of that pass
pub record OnlyStepped (a b : Stepper) : Type 0 where
  pub lender : lender b ≡ lender a
  pub pass : pass_of b ≡ pass_of a
  pub steps : OnlyStepsOf (world_of a) (world_of b) (pass_of a)

pub only_same : (a : Stepper) → OnlyStepped a a
only_same a = record { lender = refl; pass = refl; steps = only_no_steps (world_of a) (pass_of a) }

pub only_then : (a b c : Stepper) → OnlyStepped a b → OnlyStepped b c → OnlyStepped a c
only_then a b c x y = record {
  lender = y.lender ∙ x.lender;
  pass = y.pass ∙ x.pass;
  steps = only_steps_then (world_of a) (world_of b) (world_of c) (pass_of a) (pass_of b) x.pass x.steps y.steps;
}

pub only_sizes : (a b : Stepper) → OnlyStepped a b → sizes_of b ≡ sizes_of a
only_sizes a b x = x.steps.sizes
