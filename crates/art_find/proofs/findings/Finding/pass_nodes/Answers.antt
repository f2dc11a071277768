use Rattle.std.proofs.Common.{sym, subst, arith}
use Rattle.art_find.proofs.Passing.{came_now, found_on}
use Rattle.art_find.specs.Nodes.{Came, finding_below, finding_at, moment}
use Rattle.art_find.specs.declared.descents.Stage.{Stage}
use Rattle.art_find.proofs.findings.Finding.pass_nodes.Goals as goal

pub loop-left-init : goal.loop-left-init
loop-left-init g c =
    let k = c.args.key.now in
    let s = c.first.new in
    let e = c.in-Ok.ensures in
    let here = c.args.self.now in
    let now = moment (g.S.Steps.sizes c.args.steps.now) (g.S.Steps.view c.args.steps.now) (g.K.Sink.kept c.args.sink.now) c.args.left.now in
    let next = finding_below s.self.above c.in-Ok.below in
    let later = moment (g.S.Steps.sizes s.steps) (g.S.Steps.view s.steps) (g.K.Sink.kept s.sink) s.left in
    record {
      only = e.only;
      left = e.left;
      less = e.less;
      found = found_on k here now next later (e.goes here now (came_now k here now)) c.requires.found;
      goes = λ m a came. e.goes m a came;
    }

pub loop-left-preserved : goal.loop-left-preserved
loop-left-preserved g c =
    let l = c.loop-left in
    let i = l.invariant in
    let k = c.args.key.now in
    let s = c.pass_link.new in
    let e = c.in-Ok-pass_link.ensures in
    let here = finding_below l.self.above l.below in
    let now = moment (g.S.Steps.sizes l.steps) (g.S.Steps.view l.steps) (g.K.Sink.kept l.sink) l.left in
    let next = finding_below s.self.above c.in-Ok-pass_link.next in
    let later = moment (g.S.Steps.sizes s.steps) (g.S.Steps.view s.steps) (g.K.Sink.kept s.sink) s.left in
    record {
      only = g.met.S.Steps.only_then c.args.steps.now l.steps s.steps i.only e.only;
      left = e.left;
      less = omega (arith, i.less, e.less);
      found = found_on k here now next later (e.goes here now (came_now k here now)) i.found;
      goes = λ m a came. e.goes m a (i.goes m a came);
    }

pub returns-in-Err-pass_link-clause-goes : goal.returns-in-Err-pass_link-clause-goes
returns-in-Err-pass_link-clause-goes g c = λ m a came. c.in-Err-pass_link.ensures.goes m a (c.loop-left.invariant.goes m a came)

pub returns-clause-goes : goal.returns-clause-goes
returns-clause-goes g c = λ m a came.
    let l = c.loop-left in
    let now = moment (g.S.Steps.sizes l.steps) (g.S.Steps.view l.steps) (g.K.Sink.kept l.sink) l.left in
    subst (λ (s : Stage). Came c.args.key.now m a (finding_at l.self.above l.below.depth s) now) (sym c.below-stage.ensures) (l.invariant.goes m a came)
