use Rattle.std.proofs.Common.{◌∙◌, refl, sym, subst}
use Rattle.art_attempt.proofs.Stages.{knows_at, stays_at}
use Rattle.art_attempt.specs.Attempts.{StandsAt}
use Rattle.art_attempt.specs.declared.attempts.Part.TheVariants as parts
use Rattle.art_attempt.proofs.attempts.Attempt.supply_on.Goals as goal

pub supplied-requires : goal.supplied-requires
supplied-requires c = record { at = subst (StandsAt c.in-Placed.position) (sym c.in-Placed.is) refl }

pub returns-in_default-ended-clause-fits : goal.returns-in_default-ended-clause-fits
returns-in_default-ended-clause-fits c z u v room h =
    let m = c.args.self.now in
    let r = c.args.room.now in
    let t = c.in-Placed.position in
    let p = c.in-Placed.part in
    let here = parts.Reserve c.in-Reserve.case c.in-Reserve.reserve in
    stays_at z u m r v t p here c.in-Placed.is c.in-Reserve.is room
    (knows_at z u m r v t p here c.in-Placed.is c.in-Reserve.is h, sym c.ended.ensures.at ∙ c.in_default-ended.is)

pub returns-clause-fits : goal.returns-clause-fits
returns-clause-fits c z u v room h =
    let m = c.args.self.now in
    let r = c.args.room.now in
    let here = parts.Reserve c.in-Reserve.case c.in-Reserve.reserve in
    c.supplied.ensures.fits z u v c.in-Reserve.reserve room (knows_at z u m r v c.in-Placed.position c.in-Placed.part here c.in-Placed.is c.in-Reserve.is h) (sym c.ended.ensures.at ∙ c.in-Some.is)
