use Rattle.std.proofs.Common.{subst}
use Rattle.art_find.specs.Nodes.{Came, FitsAt, finding_at, moment}
use Rattle.art_find.specs.declared.descents.Stage.{Stage}
use Rattle.art_find.proofs.findings.Finding.first.Goals as goal

pub root-requires-clause-found : goal.root-requires-clause-found
root-requires-clause-found g c =
    let f = c.args.self.now in
    subst (λ (s : Stage). FitsAt c.args.key.now (finding_at f.above f.descent.depth s) (moment (g.S.Steps.sizes c.args.steps.now) (g.S.Steps.view c.args.steps.now) (g.K.Sink.kept c.args.sink.now) c.args.left.now)) c.in-Start.is c.requires.found

pub returns-in-Start-clause-goes : goal.returns-in-Start-clause-goes
returns-in-Start-clause-goes g c = λ m a came.
    let f = c.args.self.now in
    c.root.ensures.goes m a (subst (λ (s : Stage). Came c.args.key.now m a (finding_at f.above f.descent.depth s) (moment (g.S.Steps.sizes c.args.steps.now) (g.S.Steps.view c.args.steps.now) (g.K.Sink.kept c.args.sink.now) c.args.left.now)) c.in-Start.is came)

pub returns-in-Below-clause-goes : goal.returns-in-Below-clause-goes
returns-in-Below-clause-goes g c = λ m a came.
    let f = c.args.self.now in
    subst (λ (s : Stage). Came c.args.key.now m a (finding_at f.above f.descent.depth s) (moment (g.S.Steps.sizes c.args.steps.now) (g.S.Steps.view c.args.steps.now) (g.K.Sink.kept c.args.sink.now) c.args.left.now)) c.in-Below.is came
