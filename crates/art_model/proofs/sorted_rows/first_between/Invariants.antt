use Rattle.std.proofs.Common.{◌≡◌, take}
use Rattle.art_model.specs.Rows.{rows_between}
use Rattle.art_model.proofs.sorted_rows.first_between.Given as goal

-- what is listed are the first of the rows so far
abbrev pub invariant-loop-row : goal.invariant-loop-row
invariant-loop-row l = l.listed.items ≡ take l.limit (rows_between l.order (take l.row-index l.rows) l.lo l.hi)
