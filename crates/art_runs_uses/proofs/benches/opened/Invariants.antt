use Rattle.std.proofs.Common.{◌≡◌, ℕ, Some, length, slice_get}
use Rattle.art_runs.specs.Ops.{IsUnderWay}
use Rattle.art_runs.specs.declared.ops.Op.{Op}
use Rattle.art_runs_uses.proofs.benches.opened.Given as goal
use Rattle.art_step.specs.Opening.{newcomer}

abbrev pub invariant-loop-pass : goal.invariant-loop-pass
invariant-loop-pass g l = record {
  count : length l.ops.items ≡ l.pass;
  each : (p : ℕ) (op : Op) → slice_get l.ops.items p ≡ Some op → IsUnderWay l.sizes op (newcomer p);
}
