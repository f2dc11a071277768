-- The finding has come to what the search says.
use Rattle.std.proofs.Common.{◌<◌, ◌≤◌}
use Rattle.art_find.specs.Descents.{staged}
use Rattle.art_find.specs.Nodes.{Came, FitsAt, Moment, finding_at, moment}
use Rattle.art_find.specs.declared.findings.Finding.{Finding}
use Rattle.art_find.proofs.findings.Finding.search_on.Given as goal

abbrev pub invariant-loop-sought : goal.invariant-loop-sought
invariant-loop-sought g l = record {
  only : g.S.Steps.only l.initial.steps l.steps;
  left : 3 < l.left;
  less : l.left ≤ l.initial.left;
  found : FitsAt l.key (finding_at l.self.above l.depth (staged l.sought l.seen)) (moment (g.S.Steps.sizes l.steps) (g.S.Steps.view l.steps) (g.K.Sink.kept l.sink) l.left);
  goes : (m : Finding) (a : Moment) → Came l.key m a (finding_at l.initial.self.above l.depth (staged l.initial.sought l.seen)) (moment (g.S.Steps.sizes l.initial.steps) (g.S.Steps.view l.initial.steps) (g.K.Sink.kept l.initial.sink) l.initial.left)
      → Came l.key m a (finding_at l.self.above l.depth (staged l.sought l.seen)) (moment (g.S.Steps.sizes l.steps) (g.S.Steps.view l.steps) (g.K.Sink.kept l.sink) l.left);
}

abbrev pub decreases-loop-sought : goal.decreases-loop-sought
decreases-loop-sought g l = l.left
