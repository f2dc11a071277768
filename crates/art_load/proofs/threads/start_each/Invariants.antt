use Rattle.std.proofs.Common.{◌≡◌, ◌+◌, ◌≤◌, ◌++◌, List, length, true, vec_capacity}
use Rattle.art_table.specs.Tables.{AreOf}
use Rattle.art_load.specs.Threads.{AreOfTable, AreStarts, promises_of}
use Rattle.art_table.specs.declared.passes.Pass.{Pass}
use Rattle.art_load.proofs.threads.start_each.Given as goal

abbrev pub invariant-loop-pass : goal.invariant-loop-pass
invariant-loop-pass g l = record {
  of : AreOf l.table l.passes.items;
  room : length l.passes.items + length l.handles.items ≤ vec_capacity l.handles;
  few : length l.passes.items + length l.handles.items ≤ length l.initial.passes.items;
  table : AreOfTable l.table (promises_of l.handles.items);
  starts : (done : List Pass) × (l.passes.items ++ done ≡ l.initial.passes.items)
      × (l.all ≡ true → AreStarts l.table l.plan.seed l.plan.keys l.plan.ops (length l.passes.items) done (promises_of l.handles.items));
}

abbrev pub decreases-loop-pass : goal.decreases-loop-pass
decreases-loop-pass g l = length l.passes.items
