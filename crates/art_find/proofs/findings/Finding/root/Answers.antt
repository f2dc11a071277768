use Rattle.std.proofs.Common.{◌≡◌, Bool, Result, Err, rules, subst, sym}
use Rattle.art_find.proofs.Passing.{came_now, found_on}
use Rattle.art_find.specs.Nodes.{Reaches, finding_below, finding_child, finding_at, moment}
use Rattle.art_find.specs.declared.descents.Stage.TheVariants.{Anchor, Start}
use Rattle.art_find.specs.declared.nodes.Below.{Below as BelowOf}
use Rattle.art_find.proofs.findings.Finding.root.Goals as goal

pub root_child-requires-clause-found : goal.root_child-requires-clause-found
root_child-requires-clause-found g c =
    let k = c.args.key.now in
    let m = finding_at c.args.self.now.above c.args.self.now.descent.depth Start in
    let a = moment (g.S.Steps.sizes c.args.steps.now) (g.S.Steps.view c.args.steps.now) (g.K.Sink.kept c.args.sink.now) c.args.left.now in
    found_on k m a (finding_at c.stamp_anchor.new.self.above c.stamp_anchor.new.self.descent.depth (Anchor c.in_ok-stamp.stamp)) (moment (g.S.Steps.sizes c.stamp_anchor.new.steps) (g.S.Steps.view c.stamp_anchor.new.steps) (g.K.Sink.kept c.stamp_anchor.new.sink) c.stamp_anchor.new.left)
    (c.in_ok-stamp.ensures.goes m a (came_now k m a)) c.requires.found

pub pass_child-requires-clause-found : goal.pass_child-requires-clause-found
pass_child-requires-clause-found g c =
    let k = c.args.key.now in
    let m = finding_at c.args.self.now.above c.args.self.now.descent.depth Start in
    let a = moment (g.S.Steps.sizes c.args.steps.now) (g.S.Steps.view c.args.steps.now) (g.K.Sink.kept c.args.sink.now) c.args.left.now in
    found_on k m a (finding_child c.root_child.new.self.above c.in_ok-child.child) (moment (g.S.Steps.sizes c.root_child.new.steps) (g.S.Steps.view c.root_child.new.steps) (g.K.Sink.kept c.root_child.new.sink) c.root_child.new.left)
    (c.in_ok-child.ensures.goes m a (c.in_ok-stamp.ensures.goes m a (came_now k m a))) c.requires.found

pub returns-in_err-child-clause-goes : goal.returns-in_err-child-clause-goes
returns-in_err-child-clause-goes g c = λ m a came.
    let s = c.root_child.new in
    let is : c.from_residual-in_err-child.result ≡ Err c.in_err-child.field-0.0 = search rules in
    subst (λ (r : Result BelowOf Bool). Reaches (finding_below s.self.above) r c.args.key.now m a s.self (moment (g.S.Steps.sizes s.steps) (g.S.Steps.view s.steps) (g.K.Sink.kept s.sink) s.left)) (sym is)
    (c.in_err-child.ensures.goes m a (c.in_ok-stamp.ensures.goes m a came))

pub returns-clause-only : goal.returns-clause-only
returns-clause-only g c =
    let next = g.met.S.Steps.only_then in
    next c.args.steps.now c.root_child.new.steps c.pass_child.new.steps (next c.args.steps.now c.stamp_anchor.new.steps c.root_child.new.steps c.in_ok-stamp.ensures.only c.in_ok-child.ensures.only) c.pass_child.ensures.only

pub returns-clause-goes : goal.returns-clause-goes
returns-clause-goes g c = λ m a came. c.pass_child.ensures.goes m a (c.in_ok-child.ensures.goes m a (c.in_ok-stamp.ensures.goes m a came))
