-- The finding has come to where its descent stands.
use Rattle.std.proofs.Common.{◌<◌, ◌≤◌}
use Rattle.art_find.specs.Nodes.{Came, FitsAt, Moment, moment}
use Rattle.art_find.specs.declared.findings.Finding.{Finding}
use Rattle.art_find.proofs.findings.Finding.pass_prefix.Given as goal

abbrev pub invariant-loop-seen : goal.invariant-loop-seen
invariant-loop-seen g l = record {
  only : g.S.Steps.only l.initial.steps l.steps;
  left : 3 < l.left;
  less : l.left ≤ l.initial.left;
  found : FitsAt l.key l.self (moment (g.S.Steps.sizes l.steps) (g.S.Steps.view l.steps) (g.K.Sink.kept l.sink) l.left);
  goes : (m : Finding) (a : Moment) → Came l.key m a l.initial.self (moment (g.S.Steps.sizes l.initial.steps) (g.S.Steps.view l.initial.steps) (g.K.Sink.kept l.initial.sink) l.initial.left)
      → Came l.key m a l.self (moment (g.S.Steps.sizes l.steps) (g.S.Steps.view l.steps) (g.K.Sink.kept l.sink) l.left);
}

abbrev pub decreases-loop-seen : goal.decreases-loop-seen
decreases-loop-seen g l = l.left
