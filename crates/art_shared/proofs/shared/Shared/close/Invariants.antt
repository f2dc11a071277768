-- One seat has the views of the passes that are used up.
use Rattle.std.proofs.Common.{◌≡◌, ◌+◌, ◌++◌, ◌↔◌, ℕ, length, Some}
use Rattle.std.specs.List.{slice_get}
use Rattle.art_step.specs.declared.views.View.{View}
use Rattle.art_step.specs.Views.{Member}
use Rattle.art_shared.specs.declared.pass.Pass.{Pass}
use Rattle.art_shared.specs.Tables.{IsPassOf}
use Rattle.art_shared.proofs.Closed.{pass_views}
use Rattle.art_shared.proofs.shared.Shared.close.Given as goal

abbrev pub invariant-loop-pass : goal.invariant-loop-pass
invariant-loop-pass l = record {
  table : l.seat.table_id ≡ l.self.table.shared.table_id;
  others : (p : ℕ) (a : Pass) → slice_get l.passes.items p ≡ Some a → IsPassOf l.self a;
  keeps : (v : View) → Member v (pass_views l.fn.passes.items) ↔ Member v (l.seat.me.0.views ++ pass_views l.passes.items);
  count : length l.seat.me.0.views + length l.passes.items ≡ length l.fn.passes.items;
}

abbrev pub decreases-loop-pass : goal.decreases-loop-pass
decreases-loop-pass l = goal.left-loop-pass l
