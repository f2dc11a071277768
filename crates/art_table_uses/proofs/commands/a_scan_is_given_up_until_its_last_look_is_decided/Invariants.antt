use Rattle.art_table.specs.Tables.{IsPassOf}
use Rattle.art_table_uses.proofs.commands.a_scan_is_given_up_until_its_last_look_is_decided.Given as goal

abbrev pub invariant-loop-events : goal.invariant-loop-events
invariant-loop-events g l = IsPassOf l.table l.one
