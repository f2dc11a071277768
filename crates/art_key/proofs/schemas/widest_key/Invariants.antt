use Rattle.std.proofs.Common.{◌≡◌, ◌+◌, drop}
use Rattle.art_key.specs.Columns.{total_width}
use Rattle.art_key.proofs.schemas.widest_key.Given as goal

abbrev pub invariant-loop-column : goal.invariant-loop-column
invariant-loop-column l = l.bytes + total_width (drop l.column-index l.columns) ≡ total_width l.columns
