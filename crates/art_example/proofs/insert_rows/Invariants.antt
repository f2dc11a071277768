-- The pass stays one of the table, and no more rows are new than were inserted.
use Rattle.std.proofs.Common.{◌≤◌}
use Rattle.art_table.specs.Tables.{IsPassOf}
use Rattle.art_example.proofs.insert_rows.Given as goal

abbrev pub invariant-loop-hour : goal.invariant-loop-hour
invariant-loop-hour l = IsPassOf l.table l.pass × (l.new ≤ l.hour)
