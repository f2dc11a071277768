use Rattle.std.proofs.Common.{take}
use Rattle.art_table.proofs.closing.is_here.Given as goal
use Rattle.art_table.specs.Closing.{IsHere}

-- none of those so far has the number
abbrev pub invariant-loop-pass : goal.invariant-loop-pass
invariant-loop-pass l = IsHere l.number (take l.pass-index l.passes) → ⊥
