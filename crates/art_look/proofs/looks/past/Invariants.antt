use Rattle.std.proofs.Common.{◌≡◌, take}
use Rattle.art_tree.specs.Looks.{after}
use Rattle.art_look.proofs.looks.past.Given as goal

abbrev pub invariant-loop-at : goal.invariant-loop-at
invariant-loop-at l = after (take l.at l.path) ≡ after l.path
