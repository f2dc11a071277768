use Rattle.std.proofs.Common.{ap, subst, Some}
use Rattle.art_attempt.proofs.CaseCells.{validating_changed}
use Rattle.art_attempt.proofs.Ends.{anywhere}
use Rattle.art_attempt.proofs.attempts.Attempt.validated.Goals as goal
use Rattle.art_attempt.specs.Attempts.{IsValidating}
use Rattle.art_attempt.specs.declared.attempts.Case.TheVariants.{NewLeaf}
use Rattle.art_attempt.specs.declared.validate.Validate.TheVariants.{Ended}
use Rattle.art_attempt.specs.declared.validate.Validated.{Validated}

pub plan-requires : goal.plan-requires
plan-requires c =
    let q = c.requires in
    (q.0, q.1, q.2, q.3, subst (λ (e : Validated). IsValidating q.0 q.1 c.args.self.now.job c.args.position.now c.args.case (Ended e) c.args.room.now q.2) c.in-Unchanged.is q.4)

pub returns-in-Changed-clause-fits : goal.returns-in-Changed-clause-fits
returns-in-Changed-clause-fits c z u v room h =
    let m = c.args.self.now in
    let so = validating_changed z u m.job c.args.position.now c.args.case (Ended c.args.validated) c.args.room.now v h (ap (λ (e : Validated). Some e) c.in-Changed.is) in
    record { room = room; stage = record { position = anywhere; case = NewLeaf; ends = (record { still = so.0.still; spent = so.0.spent; has = so.0.has }, so.1) } }

pub returns-in-Changed-clause-anew : goal.returns-in-Changed-clause-anew
returns-in-Changed-clause-anew c anew = c.in-Changed.is

pub returns-in-Unchanged-clause-fits : goal.returns-in-Unchanged-clause-fits
returns-in-Unchanged-clause-fits c z u v room h =
    c.plan.ensures.fits z u v room (subst (λ (e : Validated). IsValidating z u c.args.self.now.job c.args.position.now c.args.case (Ended e) c.args.room.now v) c.in-Unchanged.is h)
