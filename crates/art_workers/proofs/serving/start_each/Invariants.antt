use Rattle.std.proofs.Common.{◌+◌, ◌≤◌, length, vec_capacity}
use Rattle.art_sessions.specs.ArtServer.ArtTable.Tables.{AreOf}
use Rattle.art_workers.proofs.Starts.{IsStarting}
use Rattle.art_workers.proofs.serving.start_each.Given as goal

abbrev pub invariant-loop-pass : goal.invariant-loop-pass
invariant-loop-pass g l = record {
  of : AreOf l.table l.passes.items;
  room : length l.passes.items + length l.running.items ≤ vec_capacity l.running;
  few : length l.passes.items + length l.running.items ≤ length l.initial.passes.items;
  starts : IsStarting l.table l.initial.passes.items l.passes.items l.running.items l.all;
}

abbrev pub decreases-loop-pass : goal.decreases-loop-pass
decreases-loop-pass g l = length l.passes.items
