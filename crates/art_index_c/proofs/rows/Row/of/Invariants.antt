use Rattle.std.proofs.Common.{◌≡◌, [], replicate, take, map}
use Rattle.art_index_c.specs.Columns.{column_of, column_with, over}
use Rattle.art_index_c.proofs.rows.Row.of.Given as goal

abbrev pub invariant-loop-place : goal.invariant-loop-place
invariant-loop-place l = l.columns ≡ over (map column_of (take l.place l.values)) (replicate 8 (column_with 0 0 0 []))
