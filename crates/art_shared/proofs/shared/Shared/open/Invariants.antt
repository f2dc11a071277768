-- So many passes have seats of their own, and the others stand in the one that is left.
use Rattle.std.proofs.Common.{◌≡◌, ◌-◌, ℕ, [], ◌∷◌, length, Some}
use Rattle.std.specs.List.{slice_get}
use Rattle.art_step.specs.Opening.{newcomer}
use Rattle.art_step.specs.WordRows.{newcomers}
use Rattle.art_shared.proofs.shared.Shared.open.Given as goal

abbrev pub invariant-loop-number : goal.invariant-loop-number
invariant-loop-number l = record {
  table : l.rest.table_id ≡ l.table.shared.table_id;
  me : l.rest.me ≡ (record { basis = l.basis; views = newcomers l.number (l.sizes.passes - l.number); told = [] }, []);
  count : length l.passes.items ≡ l.number;
  each : (p : ℕ) (a : _) → slice_get l.passes.items p ≡ Some a → (a.seat.table_id ≡ l.table.shared.table_id) × (a.seat.me.0 ≡ record { basis = l.basis; views = newcomer p ∷ []; told = [] });
}
