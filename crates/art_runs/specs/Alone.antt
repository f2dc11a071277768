-- Turns of one op alone, while every other pass is idle.
use Rattle.std.specs.List.{slice_get}
use Rattle.std.specs.Prelude.{◌≡◌, ◌⊎◌, ℕ, true, List, Some, None}
use Rattle.art_change.specs.Calls.{restarts_in}
use Rattle.art_change.specs.declared.outcomes.Outcome.{Outcome}
use Rattle.art_runs.specs.Ops.{caller_in, has_ended, outcome_in}
use Rattle.art_runs.specs.declared.ops.Op.{Op}
use Rattle.art_runs.specs.Solo.{EndsAlone}
use Rattle.art_step.specs.Views.{Member}
use Rattle.art_step.specs.WordRows.{view_at}
use Rattle.art_world.specs.Contents.{Contents}

-- the turn names no op, or one that has ended
abbrev pub NamesNoOp : ℕ → List Op → Type 0
NamesNoOp t xs = (slice_get xs t ≡ None) ⊎ ((x : Op) × (slice_get xs t ≡ Some x) × (has_ended x ≡ true))

-- each turn is one of the pass p, or lets nobody make a step
abbrev pub AreTurnsOf : ℕ → List ℕ → List Op → Type 0
AreTurnsOf p turns xs = (t : ℕ) → Member t turns → (t ≡ p) ⊎ NamesNoOp t xs

-- from the world k to the world l no step of the op a failed: each begin found a clear word, each check and each upgrade an unchanged
-- one, and each take the bit that it looked for; and it never began anew. If it ended meanwhile, limbo was not crowded, and it is busy
-- only where it had few turns
pub record GoesAlone (k l : Contents) (ys : List Op) (p : ℕ) (a : Op) (most : ℕ) : Type 0 where
  pub now : Op
  pub is : slice_get ys p ≡ Some now
  pub none_failed : (view_at l.views p).failures ≡ (view_at k.views p).failures
  pub never_anew : restarts_in (caller_in now) ≡ 0
  pub ends : outcome_in a ≡ None → (o : Outcome) → outcome_in now ≡ Some o → EndsAlone l.sizes most o
