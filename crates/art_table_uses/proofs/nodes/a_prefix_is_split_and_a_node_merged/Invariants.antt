use Rattle.art_table.specs.Tables.{IsPassOf}
use Rattle.art_table_uses.proofs.nodes.a_prefix_is_split_and_a_node_merged.Given as goal

abbrev pub invariant-loop-number : goal.invariant-loop-number
invariant-loop-number g l = IsPassOf l.table l.pass

abbrev pub invariant-loop-number-2 : goal.invariant-loop-number-2
invariant-loop-number-2 g l = IsPassOf l.table l.pass
