use Rattle.std.proofs.Common.{◌-◌, None, refl, subst, arith}
use Rattle.std.specs.Prelude.{Result, Ok}
use Rattle.art_cell.specs.declared.cells.Cell.TheVariants as cell
use Rattle.art_find.proofs.Allowed.{allowed}
use Rattle.art_find.proofs.Passing.{arrives, came_then, heard_on}
use Rattle.art_find.proofs.Stages.{anchor_fits}
use Rattle.art_find.specs.Nodes.{finding_at, moment}
use Rattle.art_find.specs.declared.descents.Stage.TheVariants.{Anchor, Start}
use Rattle.art_step.specs.declared.actions.Action.TheVariants.{Begin}
use Rattle.art_step.specs.declared.actions.Answer.TheVariants.{Begun}
use Rattle.art_step.specs.Steps.Begin as begin
use Rattle.art_step.specs.declared.faults.Locked.{Locked}
use Rattle.art_step.specs.declared.views.Stamp.{Stamp}
use Rattle.art_find.proofs.findings.Finding.stamp_anchor.Goals as goal

pub begin-requires-clause-may : goal.begin-requires-clause-may
begin-requires-clause-may g c =
    let b = c.requires.found in
    (allowed (g.S.Steps.sizes c.args.steps.now) c.args.key.now b.0 c.args.self.now.descent.depth Start b.1 (g.S.Steps.view c.args.steps.now) b.2.descent).1

pub returns-in-Ok-clause-goes : goal.returns-in-Ok-clause-goes
returns-in-Ok-clause-goes g c =
    let z = g.S.Steps.sizes c.args.steps.now in
    let v = g.S.Steps.view c.args.steps.now in
    let w = g.S.Steps.view c.begin.new.self in
    let k = c.args.key.now in
    let x = c.in-Ok.stamp in
    let depth = c.args.self.now.descent.depth in
    let kept = (g.K.Sink.kept c.args.sink.now) in
    let here = finding_at c.args.self.now.above depth Start in
    let next = finding_at None depth (Anchor x) in
    let row = subst (λ (r : Result Stamp Locked). begin.Outcome z v w cell.Anchor r) c.in-Ok.is c.begin.ensures.row in
    came_then k here (moment z v kept c.args.left.now) next (moment (g.S.Steps.sizes c.begin.new.self) w (g.K.Sink.kept c.clear.new.self) (c.args.left.now - 1))
    (g.met.S.Steps.only_sizes c.args.steps.now c.begin.new.self c.begin.ensures.only) (omega (arith, c.requires.left))
    (heard_on z k v w here next kept (g.K.Sink.kept c.clear.new.self) (Begin cell.Anchor) (Begun (Ok x)) refl (λ d. row) refl (omega arith) refl refl
    (λ what u fits. anchor_fits z k what depth u v w x fits row) (refl, record { node = c.clear.ensures.node; above = c.clear.ensures.above }))

pub returns-in_default-clause-goes : goal.returns-in_default-clause-goes
returns-in_default-clause-goes g c =
    let z = g.S.Steps.sizes c.args.steps.now in
    let v = g.S.Steps.view c.args.steps.now in
    let w = g.S.Steps.view c.begin.new.self in
    let k = c.args.key.now in
    arrives k (finding_at c.args.self.now.above c.args.self.now.descent.depth Start) (moment z v (g.K.Sink.kept c.args.sink.now) c.args.left.now)
    c.hear_begun.new.self (moment (g.S.Steps.sizes c.begin.new.self) w (g.K.Sink.kept c.hear_begun.new.sink) (c.args.left.now - 1))
    (g.met.S.Steps.only_sizes c.args.steps.now c.begin.new.self c.begin.ensures.only) (omega (arith, c.requires.left))
    c.hear_begun.result (c.hear_begun.ensures.looked z k v w c.begin.ensures.row)
