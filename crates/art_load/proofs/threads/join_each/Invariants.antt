use Rattle.std.proofs.Common.{◌+◌, ◌*◌, ◌^◌, ◌≤◌, ℕ, List, length, vec_capacity}
use Rattle.art_load.specs.Counts.{total_of}
use Rattle.art_table.specs.Tables.{AreOf}
use Rattle.art_load.specs.Threads.{AreOfTable, AreStarts, promises_of}
use Rattle.art_table.specs.declared.passes.Pass.{Pass}
use Rattle.art_table.specs.declared.tables.Table.{Table}
use Rattle.art_load.proofs.Starts.{IsJoining}
use Rattle.art_load.proofs.threads.join_each.Given as goal

abbrev pub invariant-loop-handle : goal.invariant-loop-handle
invariant-loop-handle g l = record {
  room : length l.handles.items + length l.passes.items ≤ vec_capacity l.passes;
  few : total_of l.counts + length l.handles.items * 2 ^ 32 ≤ length l.initial.handles.items * 2 ^ 32;
  of : (t : Table) → AreOfTable t (promises_of l.initial.handles.items)
      → AreOfTable t (promises_of l.handles.items) × AreOf t l.passes.items;
  loads : (t : Table) (seed keys ops : ℕ) (ps : List Pass) → AreStarts t seed keys ops 0 ps (promises_of l.initial.handles.items)
      → IsJoining t seed keys ops ps (promises_of l.handles.items) l.counts l.passes.items;
}

abbrev pub decreases-loop-handle : goal.decreases-loop-handle
decreases-loop-handle g l = length l.handles.items
