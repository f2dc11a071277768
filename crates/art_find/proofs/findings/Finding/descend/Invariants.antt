-- So far no step failed.
use Rattle.std.proofs.Common.{◌≡◌, ◌+◌, ◌<◌, ◌≤◌}
use Rattle.art_find.specs.Findings.{WentOn}
use Rattle.art_find.proofs.findings.Finding.descend.Given as goal

abbrev pub invariant-loop-self : goal.invariant-loop-self
invariant-loop-self g l = record {
  only : g.S.Steps.only l.fn.steps l.steps;
  sizes : g.S.Steps.sizes l.steps ≡ g.S.Steps.sizes l.fn.steps;
  turn : 0 < l.left;
  less : l.left ≤ l.fn.left;
  made : (g.S.Steps.view l.steps).steps + l.left ≡ (g.S.Steps.view l.fn.steps).steps + l.fn.left;
  on : WentOn (g.S.Steps.sizes l.fn.steps) l.fn.key l.fn.self l.fn.read_set (g.S.Steps.view l.fn.steps) l.self l.read_set (g.S.Steps.view l.steps);
}

abbrev pub decreases-loop-self : goal.decreases-loop-self
decreases-loop-self g l = l.left
