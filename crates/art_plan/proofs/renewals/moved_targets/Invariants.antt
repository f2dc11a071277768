-- So many targets are moved.
use Rattle.std.proofs.Common.{◌≡◌, ◌+◌, ◌≤◌, ◌∷◌, length, take}
use Rattle.art_plan.specs.Seen.{gone, kept}
use Rattle.art_plan.proofs.renewals.moved_targets.Given as goal

abbrev pub invariant-loop-target : goal.invariant-loop-target
invariant-loop-target l = record {
  items : l.moved.items ≡ kept l.fn.above ∷ gone l.fn.worn ∷ take l.target-index l.lower;
  few : length l.moved.items ≤ 2 + l.target-index;
}
