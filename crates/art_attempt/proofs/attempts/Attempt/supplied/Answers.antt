use Rattle.std.proofs.Common.{◌∙◌, Option, ap, sym, subst, Some, arith}
use Rattle.art_attempt.proofs.Chosen.{none_below}
use Rattle.art_attempt.proofs.Finds.{within_more, within_so}
use Rattle.art_attempt.proofs.Numbers.{supplies_alone, supplies_full, supplies_known, supplies_so, supplies_standing}
use Rattle.art_attempt.proofs.attempts.Attempt.supplied.Goals as goal
use Rattle.art_attempt.specs.Cases.{IsCaseOf}
use Rattle.art_attempt.specs.Validate.{BelowFits}
use Rattle.art_attempt.specs.declared.attempts.Job.{Job}
use Rattle.art_attempt.specs.declared.attempts.Case.TheVariants.{DropLeaf}
use Rattle.art_attempt.specs.declared.reserve.Reserved.{Reserved}
use Rattle.art_plan.specs.declared.choose_remove.Lower.{Lower}

pub returns-in-Ready-clause-fits : goal.returns-in-Ready-clause-fits
returns-in-Ready-clause-fits c z u v s room h is =
    let m = c.args.self.now in
    let t = c.args.position.now in
    let r = c.args.room.now in
    let k = c.args.case in
    let ready = is ∙ ap (λ (e : Reserved). Some e) c.in-Ready.is in
    c.validate.ensures.fits z u v room (within_more z u 21700 21702 r v (omega arith) (supplies_so z u m.job t k s r v h)) h.case (supplies_standing z u m.job t k s r v h) (supplies_known z u m.job t k s r v h ready)
    (subst (λ (b : Option Lower). BelowFits z r.row.key.items t r.read_set b r.lower v v) (sym (none_below z u t r h.early k h.wants)) tt)

pub returns-in-Insert-clause-fits : goal.returns-in-Insert-clause-fits
returns-in-Insert-clause-fits c z u v s room h is =
    let m = c.args.self.now in
    let t = c.args.position.now in
    let r = c.args.room.now in
    let k = c.args.case in
    let f = supplies_full z u m.job t k s r v h c.in-Insert.is c.in-Full.pool (is ∙ ap (λ (e : Reserved). Some e) c.in-Full.is) in
    record {
      room = room;
      stage = record { position = t; case = k; ends = (c.in-Insert.is, within_so z u 21700 r v (omega arith) (supplies_so z u m.job t k s r v h), f) };
    }

pub returns-in-Remove-clause-fits : goal.returns-in-Remove-clause-fits
returns-in-Remove-clause-fits c z u v s room h is =
    let m = c.args.self.now in
    let t = c.args.position.now in
    let r = c.args.room.now in
    let k = c.args.case in
    let full = is ∙ ap (λ (e : Reserved). Some e) c.in-Full.is in
    c.validate-in-Remove.ensures.fits z u v room (within_more z u 21700 21702 r v (omega arith) (supplies_so z u m.job t k s r v h)) (subst (λ (j : Job). IsCaseOf j DropLeaf) (sym c.in-Remove.is) tt) (supplies_standing z u m.job t k s r v h)
    (supplies_alone z u m.job t k s r v h c.in-Remove.is c.in-Full.pool full) tt
