-- The finding has come to the word with this number.
use Rattle.std.proofs.Common.{◌<◌, ◌≤◌}
use Rattle.art_find.specs.Nodes.{Came, FitsAt, Moment, finding_at, moment}
use Rattle.art_find.specs.declared.descents.Stage.TheVariants.{Bytes}
use Rattle.art_find.specs.declared.findings.Finding.{Finding}
use Rattle.art_find.proofs.findings.Finding.compare_key.Given as goal

abbrev pub invariant-loop-left : goal.invariant-loop-left
invariant-loop-left g l = record {
  only : g.S.Steps.only l.initial.steps l.steps;
  left : 1 < l.left;
  less : l.left ≤ l.initial.left;
  found : FitsAt l.key (finding_at l.self.above l.depth (Bytes l.seen l.number l.before)) (moment (g.S.Steps.sizes l.steps) (g.S.Steps.view l.steps) (g.K.Sink.kept l.sink) l.left);
  goes : (m : Finding) (a : Moment) → Came l.key m a (finding_at l.self.above l.depth (Bytes l.seen l.initial.number l.initial.before)) (moment (g.S.Steps.sizes l.initial.steps) (g.S.Steps.view l.initial.steps) (g.K.Sink.kept l.sink) l.initial.left)
      → Came l.key m a (finding_at l.self.above l.depth (Bytes l.seen l.number l.before)) (moment (g.S.Steps.sizes l.steps) (g.S.Steps.view l.steps) (g.K.Sink.kept l.sink) l.left);
}

abbrev pub decreases-loop-left : goal.decreases-loop-left
decreases-loop-left g l = l.left
