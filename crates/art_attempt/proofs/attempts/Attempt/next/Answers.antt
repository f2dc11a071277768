use Rattle.std.proofs.Common.{◌∙◌, ap, sym, subst}
use Rattle.std.specs.Prelude.{IfSome}
use Rattle.art_attempt.proofs.Stages.{deed_found}
use Rattle.art_attempt.proofs.attempts.Attempt.next.Goals as goal
use Rattle.art_attempt.specs.Asking.{IsAllowed}
use Rattle.art_attempt.specs.Attempts.{StageFits, asks_at, deed_at}
use Rattle.art_attempt.specs.declared.attempts.Stage.{Stage as StageOf}
use Rattle.art_step.specs.declared.deeds.Deed.{Deed}

pub returns-in-Finding-clause-asks : goal.returns-in-Finding-clause-asks
returns-in-Finding-clause-asks c =
    let m = c.args.self.now in
    let r = c.args.room.now in
    c.find_next.ensures.asks ∙ sym (ap (λ (s : StageOf). asks_at s m r) c.in-Finding.is)

pub returns-in-Finding-clause-allowed : goal.returns-in-Finding-clause-allowed
returns-in-Finding-clause-allowed c z u v fits =
    let m = c.args.self.now in
    let r = c.args.room.now in
    let stage = subst (λ (s : StageOf). StageFits z u s m r v) c.in-Finding.is fits.stage in
    subst (λ (d : Deed). IfSome c.find_next.result (IsAllowed z d r.change v)) (sym (deed_found m c.in-Finding.finding r c.in-Finding.is)) (c.find_next.ensures.allowed z u v r stage)

pub returns-in-Finding-clause-going : goal.returns-in-Finding-clause-going
returns-in-Finding-clause-going c z u v fits going =
    let m = c.args.self.now in
    let r = c.args.room.now in
    c.find_next.ensures.going z u v r (subst (λ (s : StageOf). StageFits z u s m r v) c.in-Finding.is fits.stage)

pub returns-in-Placed-clause-asks : goal.returns-in-Placed-clause-asks
returns-in-Placed-clause-asks c =
    let m = c.args.self.now in
    let r = c.args.room.now in
    c.part_next.ensures.asks ∙ sym (ap (λ (s : StageOf). asks_at s m r) c.in-Placed.is)

pub returns-in-Placed-clause-allowed : goal.returns-in-Placed-clause-allowed
returns-in-Placed-clause-allowed c z u v fits =
    let m = c.args.self.now in
    let r = c.args.room.now in
    c.part_next.ensures.allowed z u v (deed_at m r) (subst (λ (s : StageOf). StageFits z u s m r v) c.in-Placed.is fits.stage)

pub returns-in-Placed-clause-going : goal.returns-in-Placed-clause-going
returns-in-Placed-clause-going c z u v fits going =
    let m = c.args.self.now in
    let r = c.args.room.now in
    c.part_next.ensures.going z u v (subst (λ (s : StageOf). StageFits z u s m r v) c.in-Placed.is fits.stage)

pub returns-in-Apply-clause-allowed : goal.returns-in-Apply-clause-allowed
returns-in-Apply-clause-allowed c z u v fits =
    let m = c.args.self.now in
    let r = c.args.room.now in
    c.make_next.ensures.allowed z u v (deed_at m r) (subst (λ (s : StageOf). StageFits z u s m r v) c.in-Apply.is fits.stage).0

pub returns-in-Apply-clause-going : goal.returns-in-Apply-clause-going
returns-in-Apply-clause-going c z u v fits going =
    let m = c.args.self.now in
    let r = c.args.room.now in
    let stage = subst (λ (s : StageOf). StageFits z u s m r v) c.in-Apply.is fits.stage in
    c.make_next.ensures.going z u v stage.0 stage.1
