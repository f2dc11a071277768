use Rattle.art_table.specs.Tables.{IsPassOf}
use Rattle.art_table_uses.proofs.tables.fills.Given as goal

abbrev pub invariant-loop-number : goal.invariant-loop-number
invariant-loop-number g l = IsPassOf l.table l.pass
