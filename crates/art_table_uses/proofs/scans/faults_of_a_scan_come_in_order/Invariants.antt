use Rattle.art_table.specs.Tables.{IsPassOf}
use Rattle.art_table_uses.proofs.scans.faults_of_a_scan_come_in_order.Given as goal

abbrev pub invariant-loop-range : goal.invariant-loop-range
invariant-loop-range g l = IsPassOf l.table l.pass
