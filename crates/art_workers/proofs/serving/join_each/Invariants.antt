use Rattle.std.proofs.Common.{◌+◌, ◌*◌, ◌^◌, ◌≤◌, List, length, vec_capacity}
use Rattle.std.specs.List.{AllZip}
use Rattle.art_sessions.specs.ArtServer.ArtTable.declared.passes.Pass.{Pass}
use Rattle.art_sessions.specs.ArtServer.ArtTable.declared.tables.Table.{Table}
use Rattle.art_workers.proofs.Joins.{IsJoining}
use Rattle.art_workers.specs.Serving.{IsTaskOf}
use Rattle.art_workers.proofs.serving.join_each.Given as goal

abbrev pub invariant-loop-worker : goal.invariant-loop-worker
invariant-loop-worker g l = record {
  room : length l.running.items + length l.passes.items ≤ vec_capacity l.passes;
  few : l.ended + length l.running.items * 2 ^ 32 ≤ 32 * 2 ^ 32;
  joins : (t : Table) (started : List Pass) → AllZip (IsTaskOf t) started l.initial.running.items
      → IsJoining t started l.running.items l.passes.items l.ended;
}

abbrev pub decreases-loop-worker : goal.decreases-loop-worker
decreases-loop-worker g l = length l.running.items
