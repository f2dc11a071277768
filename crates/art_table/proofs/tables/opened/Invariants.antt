-- The seats that are left, and those of the passes, are all; and each pass has what its calls need.
use Rattle.std.proofs.Common.{◌≡◌, ◌++◌, length}
use Rattle.art_step.specs.Views.{Member}
use Rattle.art_table.proofs.Opened.{HasCaller}
use Rattle.art_table.proofs.tables.opened.Given as goal
use Rattle.art_table.specs.Closing.{seats_of}
use Rattle.art_table.specs.declared.passes.Pass.{Pass}

abbrev pub invariant-loop-seat : goal.invariant-loop-seat
invariant-loop-seat l = record {
  all : l.seats.items ++ seats_of l.passes.items ≡ l.initial.seats.items;
  has : (p : Pass) → Member p l.passes.items → HasCaller l.sizes p;
}

abbrev pub decreases-loop-seat : goal.decreases-loop-seat
decreases-loop-seat l = length l.seats.items
