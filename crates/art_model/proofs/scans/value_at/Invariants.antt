use Rattle.std.proofs.Common.{◌≡◌, drop}
use Rattle.art_model.specs.Rows.{value_at}
use Rattle.art_model.proofs.scans.value_at.Given as goal

-- the rows from here on have the value that all have
abbrev pub invariant-loop-row : goal.invariant-loop-row
invariant-loop-row l = value_at (drop l.row-index l.rows) l.tuple ≡ value_at l.rows l.tuple
