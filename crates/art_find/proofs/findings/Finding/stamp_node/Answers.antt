use Rattle.std.proofs.Common.{◌-◌, refl, subst, arith}
use Rattle.std.specs.Prelude.{Result, Ok}
use Rattle.art_cell.specs.declared.cells.Cell.TheVariants as cell
use Rattle.art_find.proofs.Passing.{arrives, came_then, heard_on}
use Rattle.art_find.proofs.Stages.{both_fits}
use Rattle.art_find.specs.Nodes.{finding_at, moment}
use Rattle.art_find.specs.declared.descents.Stage.TheVariants.{Below, Both}
use Rattle.art_step.specs.declared.actions.Action.TheVariants.{Begin}
use Rattle.art_step.specs.declared.actions.Answer.TheVariants.{Begun}
use Rattle.art_step.specs.Steps.Begin as begin
use Rattle.art_step.specs.declared.faults.Locked.{Locked}
use Rattle.art_step.specs.declared.views.Stamp.{Stamp}
use Rattle.art_find.proofs.findings.Finding.stamp_node.Goals as goal

pub returns-in-Ok-clause-goes : goal.returns-in-Ok-clause-goes
returns-in-Ok-clause-goes g c =
    let z = g.S.Steps.sizes c.args.steps.now in
    let v = g.S.Steps.view c.args.steps.now in
    let w = g.S.Steps.view c.begin.new.self in
    let k = c.args.key.now in
    let b = c.args.below in
    let n = c.args.node in
    let y = c.in-Ok.stamp in
    let kept = (g.K.Sink.kept c.args.sink.now) in
    let here = finding_at c.args.self.now.above b.depth (Below b.above n) in
    let next = finding_at c.args.self.now.above b.depth (Both b.above y n) in
    let row = subst (λ (r : Result Stamp Locked). begin.Outcome z v w (cell.Node n) r) c.in-Ok.is c.begin.ensures.row in
    came_then k here (moment z v kept c.args.left.now) next (moment (g.S.Steps.sizes c.begin.new.self) w kept (c.args.left.now - 1))
    (g.met.S.Steps.only_sizes c.args.steps.now c.begin.new.self c.begin.ensures.only) (omega (arith, c.requires.left))
    (heard_on z k v w here next kept kept (Begin (cell.Node n)) (Begun (Ok y)) refl (λ d. row) refl (omega arith) refl refl
    (λ what u fits. both_fits z k what b.depth u v w b.above y n fits row) (refl, refl))

pub returns-in_default-clause-goes : goal.returns-in_default-clause-goes
returns-in_default-clause-goes g c =
    let z = g.S.Steps.sizes c.args.steps.now in
    let v = g.S.Steps.view c.args.steps.now in
    let w = g.S.Steps.view c.begin.new.self in
    let k = c.args.key.now in
    let b = c.args.below in
    arrives k (finding_at c.args.self.now.above b.depth (Below b.above c.args.node)) (moment z v (g.K.Sink.kept c.args.sink.now) c.args.left.now)
    c.hear_begun.new.self (moment (g.S.Steps.sizes c.begin.new.self) w (g.K.Sink.kept c.hear_begun.new.sink) (c.args.left.now - 1))
    (g.met.S.Steps.only_sizes c.args.steps.now c.begin.new.self c.begin.ensures.only) (omega (arith, c.requires.left))
    c.hear_begun.result (c.hear_begun.ensures.looked z k v w c.begin.ensures.row)
