-- Ops of the passes of a world.
use Rattle.std.specs.List.{slice_get}
use Rattle.std.specs.Prelude.{◌≡◌, ◌≤◌, ℕ, List, length, Some}
use Rattle.art_runs.specs.ArtChange.Calls.{IsCaller}
use Rattle.art_runs.specs.ArtChange.declared.callers.Caller.{Caller}
use Rattle.art_runs.specs.Ops.{IsUnderWay}
use Rattle.art_runs.specs.declared.ops.Op.{Op}
use Rattle.art_step.specs.WordRows.{view_at}
use Rattle.art_step.specs.declared.views.Sizes.{Sizes}
use Rattle.art_step.specs.declared.views.View.{View}
use Rattle.art_world.specs.Contents.{Contents}

-- there are at most as many ops as passes, and each goes on for what it was begun for, or has ended
pub record IsBench (w : Contents) (ops : List Op) : Type 0 where
  pub few : length ops ≤ length w.views
  pub each : (p : ℕ) (op : Op) → slice_get ops p ≡ Some op → IsUnderWay w.sizes op (view_at w.views p)

-- the op was begun of a pass that keeps this
abbrev pub IsBegun : Caller → Op → Type 0
IsBegun c op = (z : Sizes) (u : View) → IsCaller z u c → IsUnderWay z op u
