use Rattle.std.proofs.Common.{◌≡◌, Bool, Result, Err, rules, subst, sym}
use Rattle.art_find.proofs.Passing.{came_now, found_on}
use Rattle.art_find.specs.Compares.{at_first}
use Rattle.art_find.specs.Nodes.{Reaches, finding_below, finding_at, moment}
use Rattle.art_find.specs.declared.descents.Stage.TheVariants.{Bytes, Length, Value}
use Rattle.art_find.specs.declared.nodes.Below.{Below as BelowOf}
use Rattle.art_find.proofs.findings.Finding.read_leaf.Goals as goal

pub leaf_count-requires-clause-found : goal.leaf_count-requires-clause-found
leaf_count-requires-clause-found g c =
    let k = c.args.key.now in
    let b = c.args.below in
    let m = finding_at c.args.self.now.above b.depth (Value b.above c.args.leaf) in
    let a = moment (g.S.Steps.sizes c.args.steps.now) (g.S.Steps.view c.args.steps.now) (g.K.Sink.kept c.args.sink.now) c.args.left.now in
    found_on k m a (finding_at c.args.self.now.above b.depth (Length b.above c.args.leaf c.leaf_value-value.result)) (moment (g.S.Steps.sizes c.leaf_value-value.new.steps) (g.S.Steps.view c.leaf_value-value.new.steps) (g.K.Sink.kept c.args.sink.now) c.leaf_value-value.new.left)
    (c.leaf_value-value.ensures.goes m a (came_now k m a)) c.requires.found

pub returns-in_err-seen-clause-goes : goal.returns-in_err-seen-clause-goes
returns-in_err-seen-clause-goes g c = λ m a came.
    let s = c.leaf_count.new in
    let is : c.from_residual.result ≡ Err c.in_err-seen.field-0.0 = search rules in
    subst (λ (r : Result BelowOf Bool). Reaches (finding_below s.self.above) r c.args.key.now m a s.self (moment (g.S.Steps.sizes s.steps) (g.S.Steps.view s.steps) (g.K.Sink.kept c.args.sink.now) s.left)) (sym is)
    (c.in_err-seen.ensures.goes m a (c.leaf_value-value.ensures.goes m a came))

pub compare_key-requires-clause-found : goal.compare_key-requires-clause-found
compare_key-requires-clause-found g c =
    let k = c.args.key.now in
    let b = c.args.below in
    let m = finding_at c.args.self.now.above b.depth (Value b.above c.args.leaf) in
    let a = moment (g.S.Steps.sizes c.args.steps.now) (g.S.Steps.view c.args.steps.now) (g.K.Sink.kept c.args.sink.now) c.args.left.now in
    found_on k m a (finding_at c.leaf_count.new.self.above b.depth (Bytes c.in_ok-seen.seen 0 at_first)) (moment (g.S.Steps.sizes c.leaf_count.new.steps) (g.S.Steps.view c.leaf_count.new.steps) (g.K.Sink.kept c.args.sink.now) c.leaf_count.new.left)
    (c.in_ok-seen.ensures.goes m a (c.leaf_value-value.ensures.goes m a (came_now k m a))) c.requires.found

pub returns-clause-goes : goal.returns-clause-goes
returns-clause-goes g c = λ m a came. c.compare_key.ensures.goes m a (c.in_ok-seen.ensures.goes m a (c.leaf_value-value.ensures.goes m a came))
