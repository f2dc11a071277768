use Rattle.art_table.specs.Tables.{IsPassOf}
use Rattle.art_table_uses.proofs.scans.a_scan_lists_at_most_a_hundred_rows.Given as goal

abbrev pub invariant-loop-range : goal.invariant-loop-range
invariant-loop-range g l = IsPassOf l.table l.pass
