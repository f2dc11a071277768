use Rattle.std.proofs.Common.{◌≡◌, take, map}
use Rattle.art_index_c.specs.Columns.{over, row_of}
use Rattle.art_index_c.proofs.rows.write_over.Given as goal

abbrev pub invariant-loop-place : goal.invariant-loop-place
invariant-loop-place l = l.rows ≡ over (map row_of (take l.place l.found)) l.initial.rows
