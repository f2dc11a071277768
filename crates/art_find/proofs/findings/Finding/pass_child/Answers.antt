use Rattle.std.proofs.Common.{◌-◌, None, refl, subst, arith}
use Rattle.std.specs.Prelude.{Result, Ok}
use Rattle.art_find.proofs.Counting.{below_going, below_later}
use Rattle.art_find.proofs.Passing.{arrives, below_keeps, came_then, heard_on}
use Rattle.art_find.proofs.Stages.{link_fits}
use Rattle.art_find.specs.Descents.{stage_below}
use Rattle.art_find.specs.Nodes.{finding_at, moment}
use Rattle.art_find.specs.declared.descents.Stage.TheVariants.{Child}
use Rattle.art_step.specs.declared.actions.Action.TheVariants.{Check}
use Rattle.art_step.specs.declared.actions.Answer.TheVariants.{Checked}
use Rattle.art_step.specs.Steps.Check as check
use Rattle.art_step.specs.declared.faults.Changed.{Changed}
use Rattle.art_find.proofs.findings.Finding.pass_child.Goals as goal

pub returns-in-Ok-clause-goes : goal.returns-in-Ok-clause-goes
returns-in-Ok-clause-goes g c =
    let z = g.S.Steps.sizes c.args.steps.now in
    let v = g.S.Steps.view c.args.steps.now in
    let w = g.S.Steps.view c.check.new.self in
    let k = c.args.key.now in
    let x = c.args.child in
    let above = c.args.self.now.above in
    let kept = (g.K.Sink.kept c.args.sink.now) in
    let here = finding_at above x.depth (Child x.stamp x.link) in
    let next = finding_at above x.depth (stage_below x.stamp x.link) in
    let row = subst (λ (r : Result (Unit {0}) Changed). check.Outcome z v w x.stamp None r) c.in-Ok.is c.check.ensures.row in
    came_then k here (moment z v kept c.args.left.now) next (moment (g.S.Steps.sizes c.check.new.self) w kept (c.args.left.now - 1))
    (g.met.S.Steps.only_sizes c.args.steps.now c.check.new.self c.check.ensures.only) (omega (arith, c.requires.left))
    (heard_on z k v w here next kept kept (Check x.stamp) (Checked (Ok tt)) refl (λ d. row) refl (below_later x.depth x.stamp x.link) refl (below_going x.stamp x.link)
    (λ what u fits. link_fits z k what x.depth u v w x.stamp x.link fits row) (below_keeps x.stamp x.link x.depth above kept))

pub returns-in_default-clause-goes : goal.returns-in_default-clause-goes
returns-in_default-clause-goes g c =
    let z = g.S.Steps.sizes c.args.steps.now in
    let v = g.S.Steps.view c.args.steps.now in
    let w = g.S.Steps.view c.check.new.self in
    let k = c.args.key.now in
    let x = c.args.child in
    arrives k (finding_at c.args.self.now.above x.depth (Child x.stamp x.link)) (moment z v (g.K.Sink.kept c.args.sink.now) c.args.left.now)
    c.hear_checked.new.self (moment (g.S.Steps.sizes c.check.new.self) w (g.K.Sink.kept c.hear_checked.new.sink) (c.args.left.now - 1))
    (g.met.S.Steps.only_sizes c.args.steps.now c.check.new.self c.check.ensures.only) (omega (arith, c.requires.left))
    c.hear_checked.result (c.hear_checked.ensures.looked z k v w c.check.ensures.row)
