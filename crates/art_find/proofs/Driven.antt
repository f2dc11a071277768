-- A get that is driven, step by step.
use Rattle.std.proofs.Common.{ℕ, ◌+◌, ◌≤◌, Bool, true, false, arith}
use Rattle.art_find.specs.Driven.{restarts_after}

-- it restarted at most once more
pub restarts_few : (n : ℕ) (on : Bool) → restarts_after n on ≤ n + 1
restarts_few n true = omega arith
restarts_few n false = omega arith
