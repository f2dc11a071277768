-- The finding has come to what is below.
use Rattle.std.proofs.Common.{◌<◌, ◌≤◌}
use Rattle.art_find.specs.Nodes.{Came, FitsAt, Moment, finding_below, moment}
use Rattle.art_find.specs.declared.findings.Finding.{Finding}
use Rattle.art_find.proofs.findings.Finding.pass_nodes.Given as goal

abbrev pub invariant-loop-left : goal.invariant-loop-left
invariant-loop-left g l = record {
  only : g.S.Steps.only l.fn.steps l.steps;
  left : 0 < l.left;
  less : l.left ≤ l.fn.left;
  found : FitsAt l.key (finding_below l.self.above l.below) (moment (g.S.Steps.sizes l.steps) (g.S.Steps.view l.steps) (g.K.Sink.kept l.sink) l.left);
  goes : (m : Finding) (a : Moment) → Came l.key m a l.fn.self (moment (g.S.Steps.sizes l.fn.steps) (g.S.Steps.view l.fn.steps) (g.K.Sink.kept l.fn.sink) l.fn.left)
      → Came l.key m a (finding_below l.self.above l.below) (moment (g.S.Steps.sizes l.steps) (g.S.Steps.view l.steps) (g.K.Sink.kept l.sink) l.left);
}

abbrev pub decreases-loop-left : goal.decreases-loop-left
decreases-loop-left g l = l.left
