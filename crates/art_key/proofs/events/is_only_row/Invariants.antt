use Rattle.std.proofs.Common.{◌↔◌, drop}
use Rattle.std.specs.Option.{option_copied}
use Rattle.art_key.specs.Histories.{OnlyRow}
use Rattle.art_key.proofs.events.is_only_row.Given as goal

-- the rows of all are what was found where those from here on are what is left of it
abbrev pub invariant-loop-row : goal.invariant-loop-row
invariant-loop-row l = OnlyRow l.schema (drop l.row-index l.rows) l.lo l.hi (option_copied l.left) ↔ OnlyRow l.schema l.rows l.lo l.hi (option_copied l.found)
