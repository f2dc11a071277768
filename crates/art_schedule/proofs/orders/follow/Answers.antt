use Rattle.std.proofs.Common.{Bool, refl, subst, sym}
use Rattle.std.proofs.lemmas.Result.{IfOk-weaker}
use Rattle.art_schedule.proofs.AdvanceLaws.{Leaves-later}
use Rattle.art_schedule.proofs.Followed.{step_ends, until_ends}
use Rattle.art_schedule.proofs.orders.follow.Goals as goal
use Rattle.art_schedule.specs.Lines.{said_by}
use Rattle.art_schedule.specs.Orders.{GoesOn, Obeys}
use Rattle.art_schedule.specs.Steps.{ReachesOrStops, StepsOrStops}
use Rattle.art_schedule.specs.declared.lines.Order.{Order}
use Rattle.art_schedule.specs.declared.orders.Told.TheVariants.{At, Stepped}

pub returns-then-branch-clause-obeys : goal.returns-then-branch-clause-obeys
returns-then-branch-clause-obeys c =
    let t = c.args.table.now in
    let u = c.in-Until in
    let on = subst (λ (b : Bool). GoesOn t c.args.seat.now c.args.room.now.items c.until.new.seat c.until.new.room.items (λ r s. ReachesOrStops t u.mark u.times r s c.until.new.room.items b)) c.if-branch.true c.in_ok-until-in-Until.ensures.obeys in
    subst (λ (o : Order). Obeys t (said_by o) c.args.seat.now c.args.room.now.items c.until.new.seat c.until.new.room.items (At u.mark)) (sym u.is) (refl, on)

pub ended-requires : goal.ended-requires
ended-requires c =
    let (p, seat) = c.requires.seat in
    (p, c.in_ok-until-in-Until.ensures.keeps p seat)

pub returns-then-branch-2-clause-obeys : goal.returns-then-branch-2-clause-obeys
returns-then-branch-2-clause-obeys c =
    let t = c.args.table.now in
    let u = c.in-Step in
    let on = subst (λ (b : Bool). GoesOn t c.args.seat.now c.args.room.now.items c.step.new.seat c.step.new.room.items (λ r s. StepsOrStops t u.count r s c.step.new.room.items b)) c.if-branch-2.true c.in_ok-step-in-Step.ensures.obeys in
    subst (λ (o : Order). Obeys t (said_by o) c.args.seat.now c.args.room.now.items c.step.new.seat c.step.new.room.items Stepped) (sym u.is) on

pub ended-requires-in-Step : goal.ended-requires-in-Step
ended-requires-in-Step c =
    let (p, seat) = c.requires.seat in
    (p, c.in_ok-step-in-Step.ensures.keeps p seat)

pub returns-else-branch-clause-obeys : goal.returns-else-branch-clause-obeys
returns-else-branch-clause-obeys c =
    let t = c.args.table.now in
    let u = c.in-Until in
    let on = subst (λ (b : Bool). GoesOn t c.args.seat.now c.args.room.now.items c.until.new.seat c.until.new.room.items (λ r s. ReachesOrStops t u.mark u.times r s c.until.new.room.items b)) c.if-branch.false c.in_ok-until-in-Until.ensures.obeys in
    IfOk-weaker c.ended.result _ _
    (λ told ends. subst (λ (o : Order). Obeys t (said_by o) c.args.seat.now c.args.room.now.items c.ended.new.seat c.ended.new.room.items told) (sym u.is)
    (until_ends t c.args.seat.now c.until.new.seat c.ended.new.seat c.args.room.now.items c.until.new.room.items c.ended.new.room.items u.mark u.times on told ends))
    c.ended.ensures.obeys

pub returns-else-branch-2-clause-obeys : goal.returns-else-branch-2-clause-obeys
returns-else-branch-2-clause-obeys c =
    let t = c.args.table.now in
    let u = c.in-Step in
    let on = subst (λ (b : Bool). GoesOn t c.args.seat.now c.args.room.now.items c.step.new.seat c.step.new.room.items (λ r s. StepsOrStops t u.count r s c.step.new.room.items b)) c.if-branch-2.false c.in_ok-step-in-Step.ensures.obeys in
    IfOk-weaker c.ended-in-Step.result _ _
    (λ told ends. subst (λ (o : Order). Obeys t (said_by o) c.args.seat.now c.args.room.now.items c.ended-in-Step.new.seat c.ended-in-Step.new.room.items told) (sym u.is)
    (step_ends t c.args.seat.now c.step.new.seat c.ended-in-Step.new.seat c.args.room.now.items c.step.new.room.items c.ended-in-Step.new.room.items u.count on told ends))
    c.ended-in-Step.ensures.obeys

pub returns-else-branch-clause-leaves : goal.returns-else-branch-clause-leaves
returns-else-branch-clause-leaves c =
    let t = c.args.table.now in
    let u = c.in-Until in
    let on = subst (λ (b : Bool). GoesOn t c.args.seat.now c.args.room.now.items c.until.new.seat c.until.new.room.items
    (λ r s. ReachesOrStops t u.mark u.times r s c.until.new.room.items b)) c.if-branch.false c.in_ok-until-in-Until.ensures.obeys in
    Leaves-later t c.args.seat.now c.until.new.seat c.ended.new.seat c.args.room.now c.until.new.room c.ended.new.room _ on
    (λ r s misses. (misses.made, misses.steps)) c.ended.result c.ended.ensures.bad c.ended.ensures.leaves

pub returns-else-branch-2-clause-leaves : goal.returns-else-branch-2-clause-leaves
returns-else-branch-2-clause-leaves c =
    let t = c.args.table.now in
    let u = c.in-Step in
    let on = subst (λ (b : Bool). GoesOn t c.args.seat.now c.args.room.now.items c.step.new.seat c.step.new.room.items
    (λ r s. StepsOrStops t u.count r s c.step.new.room.items b)) c.if-branch-2.false c.in_ok-step-in-Step.ensures.obeys in
    Leaves-later t c.args.seat.now c.step.new.seat c.ended-in-Step.new.seat c.args.room.now c.step.new.room c.ended-in-Step.new.room _ on
    (λ r s fewer. (fewer.made, fewer.steps)) c.ended-in-Step.result c.ended-in-Step.ensures.bad c.ended-in-Step.ensures.leaves
