-- Ops and passes of which all keys spell tuples.
use Rattle.std.specs.List.{slice_get}
use Rattle.std.specs.Prelude.{◌≡◌, ◌<◌, ℕ, List, length, Some}
use Rattle.art_change.specs.Calls.{IsAdmitted, IsCalling, Wish}
use Rattle.art_key.specs.Spelling.{IsKeyOf}
use Rattle.art_key.specs.declared.columns.Column.{Column}
use Rattle.art_runs.specs.Ops.{caller_in}
use Rattle.art_runs.specs.declared.ops.Op.{Op}
use Rattle.art_step.specs.Histories.{AreAdmitted}
use Rattle.art_step.specs.WordRows.{view_at}
use Rattle.art_step.specs.declared.views.Sizes.{Sizes}
use Rattle.art_step.specs.declared.views.View.{View}
use Rattle.art_world.specs.Contents.{Contents}

-- the op was begun for a wish whose key spells a tuple of the schema
pub record IsTypedOp (schema : List Column) (z : Sizes) (a : Op) (v : View) : Type 0 where
  pub wish : Wish
  pub given : ℕ
  pub turns : ℕ
  pub began : View
  pub calling : IsCalling z wish given turns began (caller_in a) v
  pub typed : IsAdmitted (IsKeyOf schema) wish

-- so was each op, and all that the passes have seen has keys that spell tuples
pub record AreTyped (schema : List Column) (k : Contents) (xs : List Op) : Type 0 where
  pub seen : (p : ℕ) → p < length k.views → AreAdmitted (IsKeyOf schema) (view_at k.views p).seen
  pub ops : (p : ℕ) (a : Op) → slice_get xs p ≡ Some a → IsTypedOp schema k.sizes a (view_at k.views p)
