-- Each cell is the one that was asked for.
use Rattle.std.proofs.Common.{refl}
use Rattle.art_cell.specs.declared.cells.Cell.TheVariants as cell
use Rattle.art_step.specs.declared.actions.Action.TheVariants.{Begin, Check}
use Rattle.art_look.specs.declared.looks.LookStage.TheVariants.{Start, Below, Child, Both}
use Rattle.art_look.proofs.Going.{may_go}
use Rattle.art_look.proofs.straight.begin_or_check.Goals as goal

pub begin-begun-requires : goal.begin-begun-requires
begin-begun-requires g c =
    let v = g.S.Steps.view c.args.steps.now in
    let q = c.requires.looks in
    let may = may_go (g.S.Steps.sizes c.args.steps.now) q.0 v c.args.look.now q.1 c.args.tally.now q.2 Start c.in-Start.is (Begin cell.Anchor) refl in
    record { inside = may.0; may = may.1 }

pub begin-begun-requires-in-Below : goal.begin-begun-requires-in-Below
begin-begun-requires-in-Below g c =
    let v = g.S.Steps.view c.args.steps.now in
    let q = c.requires.looks in
    let may = may_go (g.S.Steps.sizes c.args.steps.now) q.0 v c.args.look.now q.1 c.args.tally.now q.2 (Below c.in-Below.above c.in-Below.node) c.in-Below.is (Begin (cell.Node c.in-Below.node)) refl in
    record { inside = may.0; may = may.1 }

pub check-checked-requires : goal.check-checked-requires
check-checked-requires g c =
    let v = g.S.Steps.view c.args.steps.now in
    let q = c.requires.looks in
    let may = may_go (g.S.Steps.sizes c.args.steps.now) q.0 v c.args.look.now q.1 c.args.tally.now q.2 (Child c.in-Child.stamp c.in-Child.link) c.in-Child.is (Check c.in-Child.stamp) refl in
    record { inside = may.0; may = may.1; admitted = tt }

pub check-checked-requires-in-Both : goal.check-checked-requires-in-Both
check-checked-requires-in-Both g c =
    let v = g.S.Steps.view c.args.steps.now in
    let q = c.requires.looks in
    let may = may_go (g.S.Steps.sizes c.args.steps.now) q.0 v c.args.look.now q.1 c.args.tally.now q.2 (Both c.in-Both.above c.in-Both.stamp c.in-Both.node) c.in-Both.is (Check c.in-Both.above) refl in
    record { inside = may.0; may = may.1; admitted = tt }

pub returns-in-Start-clause-gone : goal.returns-in-Start-clause-gone
returns-in-Start-clause-gone g c = λ lo t.
    let v = g.S.Steps.view c.args.steps.now in
    let w = g.S.Steps.view c.begin-begun.new.self in
    c.hear_begun.ensures.gone (g.S.Steps.sizes c.args.steps.now) lo t v w cell.Anchor refl c.begin-begun.ensures.row

pub returns-in-Below-clause-gone : goal.returns-in-Below-clause-gone
returns-in-Below-clause-gone g c = λ lo t.
    let v = g.S.Steps.view c.args.steps.now in
    let w = g.S.Steps.view c.begin-begun-in-Below.new.self in
    c.hear_begun-in-Below.ensures.gone (g.S.Steps.sizes c.args.steps.now) lo t v w (cell.Node c.in-Below.node) refl c.begin-begun-in-Below.ensures.row

pub returns-in-Child-clause-gone : goal.returns-in-Child-clause-gone
returns-in-Child-clause-gone g c = λ lo t.
    let v = g.S.Steps.view c.args.steps.now in
    let w = g.S.Steps.view c.check-checked.new.self in
    c.hear_checked.ensures.gone (g.S.Steps.sizes c.args.steps.now) lo t v w c.in-Child.stamp refl c.check-checked.ensures.row

pub returns-in-Both-clause-gone : goal.returns-in-Both-clause-gone
returns-in-Both-clause-gone g c = λ lo t.
    let v = g.S.Steps.view c.args.steps.now in
    let w = g.S.Steps.view c.check-checked-in-Both.new.self in
    c.hear_checked-in-Both.ensures.gone (g.S.Steps.sizes c.args.steps.now) lo t v w c.in-Both.above refl c.check-checked-in-Both.ensures.row
