use Rattle.std.proofs.Common.{◌+◌, Bool, None, refl, subst}
use Rattle.art_find.proofs.Going.{from_start, get_back, get_came, starts}
use Rattle.art_find.proofs.Passing.{came_now}
use Rattle.art_find.specs.Driven.{get_done}
use Rattle.art_find.specs.Nodes.{Arrives, finding_at, moment}
use Rattle.art_find.specs.declared.descents.Stage.TheVariants.{Start}
use Rattle.art_find.proofs.straight.go_down.Goals as goal

pub pass_nodes-on-requires-clause-found : goal.pass_nodes-on-requires-clause-found
pass_nodes-on-requires-clause-found g c =
    let k = c.args.key.now in
    let m = c.args.descent.now in
    let z = g.S.Steps.sizes c.args.steps.now in
    let v = g.S.Steps.view c.args.steps.now in
    let turns = c.requires.goes.0 in
    let u = c.requires.goes.1 in
    (get_done k, u, starts z k (finding_at None m.depth Start) c.new.result.kept.value u v refl (from_start z k turns u v m c.args.tally.now c.in-Start.is c.requires.goes.2).get.fits)

pub returns-then-not-on-clause-goes : goal.returns-then-not-on-clause-goes
returns-then-not-on-clause-goes g c = λ turns u before.
    let s = c.pass_nodes-on.new in
    let k = c.args.key.now in
    let z = g.S.Steps.sizes c.args.steps.now in
    let z' = g.S.Steps.sizes s.steps in
    let v = g.S.Steps.view c.args.steps.now in
    let w = g.S.Steps.view s.steps in
    let m = finding_at None c.args.descent.now.depth Start in
    let kept = c.new.result.kept.value in
    let kept' = s.sink.kept.value in
    let t = c.args.tally.now in
    let now = moment z v kept t.left in
    let later = moment z' w kept' s.left in
    get_back z z' k turns u v w m s.self kept kept' t (record { left = s.left; restarts = t.restarts + 1 }) c.pass_nodes-on.ensures.less refl (from_start z k turns u v c.args.descent.now t c.in-Start.is before)
    (g.met.S.Steps.only_sizes c.args.steps.now s.steps c.pass_nodes-on.ensures.only) refl
    (subst (λ (b : Bool). Arrives b k m now s.self later) c.if-not-on.true (c.pass_nodes-on.ensures.goes m now (came_now k m now)))

pub returns-else-not-on-clause-goes : goal.returns-else-not-on-clause-goes
returns-else-not-on-clause-goes g c = λ turns u before.
    let s = c.pass_nodes-on.new in
    let k = c.args.key.now in
    let z = g.S.Steps.sizes c.args.steps.now in
    let z' = g.S.Steps.sizes s.steps in
    let v = g.S.Steps.view c.args.steps.now in
    let w = g.S.Steps.view s.steps in
    let m = finding_at None c.args.descent.now.depth Start in
    let kept = c.new.result.kept.value in
    let kept' = s.sink.kept.value in
    let t = c.args.tally.now in
    let now = moment z v kept t.left in
    let later = moment z' w kept' s.left in
    get_came z z' k turns u v w m s.self kept kept' t (record { left = s.left; restarts = t.restarts }) c.pass_nodes-on.ensures.less refl (from_start z k turns u v c.args.descent.now t c.in-Start.is before) refl
    (subst (λ (b : Bool). Arrives b k m now s.self later) c.if-not-on.false (c.pass_nodes-on.ensures.goes m now (came_now k m now)))
