use Rattle.std.proofs.Common.{◌≡◌, Bool, Result, Err, rules, subst, sym}
use Rattle.art_find.proofs.Passing.{came_now, found_on}
use Rattle.art_find.specs.Nodes.{Reaches, finding_below, finding_child, finding_search, finding_at, moment}
use Rattle.art_find.specs.declared.descents.Stage.TheVariants.{Below, Both, Header, Slot}
use Rattle.art_find.specs.declared.nodes.Below.{Below as BelowOf}
use Rattle.art_find.proofs.findings.Finding.enter_node.Goals as goal

pub check_above-requires-clause-found : goal.check_above-requires-clause-found
check_above-requires-clause-found g c =
    let k = c.args.key.now in
    let m = finding_at c.args.self.now.above c.args.below.depth (Below c.args.below.above c.args.node) in
    let a = (moment (g.S.Steps.sizes c.args.steps.now) (g.S.Steps.view c.args.steps.now) (g.K.Sink.kept c.args.sink.now) c.args.left.now) in
    found_on k m a (finding_at c.stamp_node.new.self.above c.args.below.depth (Both c.args.below.above c.in_ok-stamp.stamp c.args.node)) (moment (g.S.Steps.sizes c.stamp_node.new.steps) (g.S.Steps.view c.stamp_node.new.steps) (g.K.Sink.kept c.stamp_node.new.sink) c.stamp_node.new.left)
    (c.in_ok-stamp.ensures.goes m a (came_now k m a)) c.requires.found

pub returns-in_err-check_above-clause-goes : goal.returns-in_err-check_above-clause-goes
returns-in_err-check_above-clause-goes g c = λ m a came.
    let s = c.check_above.new in
    let is : c.from_residual-in_err-check_above.result ≡ Err c.in_err-check_above.field-0.0 = search rules in
    subst (λ (r : Result BelowOf Bool). Reaches (finding_below s.self.above) r c.args.key.now m a s.self (moment (g.S.Steps.sizes s.steps) (g.S.Steps.view s.steps) (g.K.Sink.kept s.sink) s.left)) (sym is)
    (c.in_err-check_above.ensures.goes m a (c.in_ok-stamp.ensures.goes m a came))

pub search-requires-clause-found : goal.search-requires-clause-found
search-requires-clause-found g c =
    let k = c.args.key.now in
    let m = finding_at c.args.self.now.above c.args.below.depth (Below c.args.below.above c.args.node) in
    let a = (moment (g.S.Steps.sizes c.args.steps.now) (g.S.Steps.view c.args.steps.now) (g.K.Sink.kept c.args.sink.now) c.args.left.now) in
    found_on k m a (finding_at c.check_above.new.self.above c.args.below.depth (Header c.in_ok-stamp.stamp c.args.node)) (moment (g.S.Steps.sizes c.check_above.new.steps) (g.S.Steps.view c.check_above.new.steps) (g.K.Sink.kept c.check_above.new.sink) c.check_above.new.left)
    (c.in_ok-check_above.ensures.goes m a (c.in_ok-stamp.ensures.goes m a (came_now k m a))) c.requires.found

pub returns-in_err-found-clause-goes : goal.returns-in_err-found-clause-goes
returns-in_err-found-clause-goes g c = λ m a came.
    let s = c.search.new in
    let is : c.from_residual-in_err-found.result ≡ Err c.in_err-found.field-0.0 = search rules in
    subst (λ (r : Result BelowOf Bool). Reaches (finding_below s.self.above) r c.args.key.now m a s.self (moment (g.S.Steps.sizes s.steps) (g.S.Steps.view s.steps) (g.K.Sink.kept s.sink) s.left)) (sym is)
    (c.in_err-found.ensures.goes m a (c.in_ok-check_above.ensures.goes m a (c.in_ok-stamp.ensures.goes m a came)))

pub search_on-requires-clause-found : goal.search_on-requires-clause-found
search_on-requires-clause-found g c =
    let k = c.args.key.now in
    let m = finding_at c.args.self.now.above c.args.below.depth (Below c.args.below.above c.args.node) in
    let a = (moment (g.S.Steps.sizes c.args.steps.now) (g.S.Steps.view c.args.steps.now) (g.K.Sink.kept c.args.sink.now) c.args.left.now) in
    found_on k m a (finding_search c.search.new.self.above c.in_ok-found.found) (moment (g.S.Steps.sizes c.search.new.steps) (g.S.Steps.view c.search.new.steps) (g.K.Sink.kept c.search.new.sink) c.search.new.left)
    (c.in_ok-found.ensures.goes m a (c.in_ok-check_above.ensures.goes m a (c.in_ok-stamp.ensures.goes m a (came_now k m a)))) c.requires.found

pub returns-in_err-place-clause-goes : goal.returns-in_err-place-clause-goes
returns-in_err-place-clause-goes g c = λ m a came.
    let s = c.search_on.new in
    let is : c.from_residual-in_err-place.result ≡ Err c.in_err-place.field-0.0 = search rules in
    subst (λ (r : Result BelowOf Bool). Reaches (finding_below s.self.above) r c.args.key.now m a s.self (moment (g.S.Steps.sizes s.steps) (g.S.Steps.view s.steps) (g.K.Sink.kept s.sink) s.left)) (sym is)
    (c.in_err-place.ensures.goes m a (c.in_ok-found.ensures.goes m a (c.in_ok-check_above.ensures.goes m a (c.in_ok-stamp.ensures.goes m a came))))

pub child_at-requires-clause-found : goal.child_at-requires-clause-found
child_at-requires-clause-found g c =
    let k = c.args.key.now in
    let m = finding_at c.args.self.now.above c.args.below.depth (Below c.args.below.above c.args.node) in
    let a = (moment (g.S.Steps.sizes c.args.steps.now) (g.S.Steps.view c.args.steps.now) (g.K.Sink.kept c.args.sink.now) c.args.left.now) in
    found_on k m a (finding_at c.search_on.new.self.above c.in_ok-found.found.depth (Slot c.in_ok-found.found.seen c.in_ok-place.place)) (moment (g.S.Steps.sizes c.search_on.new.steps) (g.S.Steps.view c.search_on.new.steps) (g.K.Sink.kept c.search_on.new.sink) c.search_on.new.left)
    (c.in_ok-place.ensures.goes m a (c.in_ok-found.ensures.goes m a (c.in_ok-check_above.ensures.goes m a (c.in_ok-stamp.ensures.goes m a (came_now k m a))))) c.requires.found

pub returns-in_err-child-clause-goes : goal.returns-in_err-child-clause-goes
returns-in_err-child-clause-goes g c = λ m a came.
    let s = c.child_at.new in
    let is : c.from_residual-in_err-child.result ≡ Err c.in_err-child.field-0.0 = search rules in
    subst (λ (r : Result BelowOf Bool). Reaches (finding_below s.self.above) r c.args.key.now m a s.self (moment (g.S.Steps.sizes s.steps) (g.S.Steps.view s.steps) (g.K.Sink.kept s.sink) s.left)) (sym is)
    (c.in_err-child.ensures.goes m a (c.in_ok-place.ensures.goes m a (c.in_ok-found.ensures.goes m a (c.in_ok-check_above.ensures.goes m a (c.in_ok-stamp.ensures.goes m a came)))))

pub pass_child-requires-clause-found : goal.pass_child-requires-clause-found
pass_child-requires-clause-found g c =
    let k = c.args.key.now in
    let m = finding_at c.args.self.now.above c.args.below.depth (Below c.args.below.above c.args.node) in
    let a = (moment (g.S.Steps.sizes c.args.steps.now) (g.S.Steps.view c.args.steps.now) (g.K.Sink.kept c.args.sink.now) c.args.left.now) in
    found_on k m a (finding_child c.child_at.new.self.above c.in_ok-child.child) (moment (g.S.Steps.sizes c.child_at.new.steps) (g.S.Steps.view c.child_at.new.steps) (g.K.Sink.kept c.child_at.new.sink) c.child_at.new.left)
    (c.in_ok-child.ensures.goes m a (c.in_ok-place.ensures.goes m a (c.in_ok-found.ensures.goes m a (c.in_ok-check_above.ensures.goes m a (c.in_ok-stamp.ensures.goes m a (came_now k m a)))))) c.requires.found

pub returns-clause-only : goal.returns-clause-only
returns-clause-only g c =
    let next = g.met.S.Steps.only_then in
    next c.args.steps.now c.child_at.new.steps c.pass_child.new.steps (next c.args.steps.now c.search_on.new.steps c.child_at.new.steps (next c.args.steps.now c.search.new.steps c.search_on.new.steps (next c.args.steps.now c.check_above.new.steps c.search.new.steps (next c.args.steps.now c.stamp_node.new.steps c.check_above.new.steps (c.in_ok-stamp.ensures.only) c.in_ok-check_above.ensures.only) c.in_ok-found.ensures.only) c.in_ok-place.ensures.only) c.in_ok-child.ensures.only) c.pass_child.ensures.only

pub returns-clause-goes : goal.returns-clause-goes
returns-clause-goes g c = λ m a came. c.pass_child.ensures.goes m a (c.in_ok-child.ensures.goes m a (c.in_ok-place.ensures.goes m a (c.in_ok-found.ensures.goes m a (c.in_ok-check_above.ensures.goes m a (c.in_ok-stamp.ensures.goes m a came)))))
