use Rattle.art_table.specs.Tables.{IsPassOf}
use Rattle.art_table_uses.proofs.scans.a_scan_lists_the_rows_of_its_range.Given as goal

abbrev pub invariant-loop-range : goal.invariant-loop-range
invariant-loop-range g l = IsPassOf l.table l.pass
