use Rattle.art_table_uses.specs.Turns.{AreGoing}
use Rattle.art_table_uses.proofs.turns.all_turn.Given as goal

abbrev pub invariant-loop : goal.invariant-loop
invariant-loop g l = AreGoing l.table l.four.zero.attempt l.four.one.attempt l.four.two.attempt l.four.three.attempt
