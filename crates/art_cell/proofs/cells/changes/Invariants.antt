use Rattle.std.proofs.Common.{◌≡◌, ◌≤◌, ◌-◌, length, filter_map}
use Rattle.std.specs.List.{range_with_len}
use Rattle.art_cell.specs.Reads.{word_of, change_at}
use Rattle.art_cell.proofs.cells.changes.Given as goal

abbrev pub invariant-loop-place : goal.invariant-loop-place
invariant-loop-place l = record {
  room : length l.writes.items ≤ l.place - 1;
  items : l.writes.items ≡ filter_map (change_at (word_of l.body) (word_of l.after)) (range_with_len 1 (l.place - 1));
}
