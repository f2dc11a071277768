use Rattle.art_table.specs.Tables.{IsPassOf}
use Rattle.art_table_uses.proofs.nodes.a_node_shrinks_only_where_a_smaller_one_is_free.Given as goal

abbrev pub invariant-loop-number : goal.invariant-loop-number
invariant-loop-number g l = IsPassOf l.table l.pass
