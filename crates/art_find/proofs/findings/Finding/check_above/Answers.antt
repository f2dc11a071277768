use Rattle.std.proofs.Common.{◌-◌, None, Some, refl, subst, arith}
use Rattle.std.specs.Prelude.{Result, Ok}
use Rattle.art_find.proofs.Passing.{arrives, came_then, heard_on}
use Rattle.art_find.proofs.Stages.{header_fits}
use Rattle.art_find.specs.Nodes.{finding_at, moment}
use Rattle.art_find.specs.declared.descents.Stage.TheVariants.{Both, Header}
use Rattle.art_step.specs.declared.actions.Action.TheVariants.{Check}
use Rattle.art_step.specs.declared.actions.Answer.TheVariants.{Checked}
use Rattle.art_step.specs.Steps.Check as check
use Rattle.art_step.specs.declared.faults.Changed.{Changed}
use Rattle.art_find.proofs.findings.Finding.check_above.Goals as goal

pub returns-in-Ok-clause-goes : goal.returns-in-Ok-clause-goes
returns-in-Ok-clause-goes g c =
    let z = g.S.Steps.sizes c.args.steps.now in
    let v = g.S.Steps.view c.args.steps.now in
    let w = g.S.Steps.view c.check.new.self in
    let k = c.args.key.now in
    let b = c.args.below in
    let n = c.args.node in
    let y = c.args.stamp in
    let kept = (g.K.Sink.kept c.args.sink.now) in
    let here = finding_at c.args.self.now.above b.depth (Both b.above y n) in
    let next = finding_at (Some (record { stamp = b.above; depth = b.depth })) b.depth (Header y n) in
    let row = subst (λ (r : Result (Unit {0}) Changed). check.Outcome z v w b.above None r) c.in-Ok.is c.check.ensures.row in
    came_then k here (moment z v kept c.args.left.now) next (moment (g.S.Steps.sizes c.check.new.self) w (g.K.Sink.kept c.go_down.new.self) (c.args.left.now - 1))
    (g.met.S.Steps.only_sizes c.args.steps.now c.check.new.self c.check.ensures.only) (omega (arith, c.requires.left))
    (heard_on z k v w here next kept (g.K.Sink.kept c.go_down.new.self) (Check b.above) (Checked (Ok tt)) refl (λ d. row) refl (omega arith) refl refl
    (λ what u fits. header_fits z k what b.depth u v w b.above y n fits row) (refl, record { node = c.go_down.ensures.node; above = c.go_down.ensures.above }))

pub returns-in_default-clause-goes : goal.returns-in_default-clause-goes
returns-in_default-clause-goes g c =
    let z = g.S.Steps.sizes c.args.steps.now in
    let v = g.S.Steps.view c.args.steps.now in
    let w = g.S.Steps.view c.check.new.self in
    let k = c.args.key.now in
    let b = c.args.below in
    arrives k (finding_at c.args.self.now.above b.depth (Both b.above c.args.stamp c.args.node)) (moment z v (g.K.Sink.kept c.args.sink.now) c.args.left.now)
    c.hear_checked.new.self (moment (g.S.Steps.sizes c.check.new.self) w (g.K.Sink.kept c.hear_checked.new.sink) (c.args.left.now - 1))
    (g.met.S.Steps.only_sizes c.args.steps.now c.check.new.self c.check.ensures.only) (omega (arith, c.requires.left))
    c.hear_checked.result (c.hear_checked.ensures.looked z k v w c.check.ensures.row)
