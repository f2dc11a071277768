-- So far words are read.
use Rattle.std.proofs.Common.{◌≡◌, ◌-◌, ◌<◌, ◌≤◌}
use Rattle.art_find.specs.Runs.{HasReadOn}
use Rattle.art_find.proofs.read_sets.Rereading.read_on.Given as goal

abbrev pub invariant-loop-left : goal.invariant-loop-left
invariant-loop-left g l = record {
  only : g.S.Steps.only l.fn.steps l.steps;
  sizes : g.S.Steps.sizes l.steps ≡ g.S.Steps.sizes l.fn.steps;
  some : 0 < l.left;
  less : l.left ≤ l.fn.left;
  read : HasReadOn (g.S.Steps.sizes l.fn.steps) l.stamp (l.fn.left - l.left) (g.S.Steps.view l.fn.steps) l.fn.self l.fn.reads (g.S.Steps.view l.steps) l.self l.reads;
}

abbrev pub decreases-loop-left : goal.decreases-loop-left
decreases-loop-left g l = l.left
