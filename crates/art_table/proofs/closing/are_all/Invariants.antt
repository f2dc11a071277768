use Rattle.std.proofs.Common.{◌<◌, ℕ}
use Rattle.art_table.proofs.closing.are_all.Given as goal
use Rattle.art_table.specs.Closing.{IsHere}

-- the numbers so far are here
abbrev pub invariant-loop-number : goal.invariant-loop-number
invariant-loop-number l = (n : ℕ) → n < l.number → IsHere n l.passes
