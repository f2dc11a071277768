use Rattle.std.proofs.Common.{◌∙◌, sym, subst}
use Rattle.art_attempt.proofs.attempts.Attempt.find_told.Goals as goal
use Rattle.art_attempt.proofs.Finds.{at_place}
use Rattle.art_attempt.proofs.Stages.{asked_finding, is_finding, told_finding}
use Rattle.art_attempt.specs.Attempts.{StandsAt, deed_by}
use Rattle.art_step.specs.Acting.{Answers, telling}
use Rattle.art_find.specs.Descents.{asks}
use Rattle.art_step.specs.declared.actions.Action.{Action}

pub settled-requires-clause-told : goal.settled-requires-clause-told
settled-requires-clause-told c =
    let m = c.args.self.now in
    let r = c.args.room.now in
    let f = c.in-Finding.finding in
    let at = c.in-Finding.is in
    let t = c.in-Some.position in
    let q = c.requires.told in
    let there = sym c.position.ensures.at ∙ c.in-Some.is in
    let check = at_place m.job f (asks f.descent.stage) q.4 t there (asked_finding m f r at q.4 q.6) in
    let row = told_finding m f r at q.4 q.0 c.args.answer q.2 q.3 q.7 in
    (q.0, q.1, q.2, q.3, f, q.5.room, is_finding q.0 q.1 m r q.2 f at q.5, there, subst (λ (a : Action). Answers q.0 (telling (deed_by m.job f r)) a c.args.answer q.2 q.3) (sym check) row)

pub returns-in-Some-clause-fits : goal.returns-in-Some-clause-fits
returns-in-Some-clause-fits c z u v w asked fits is heard =
    let m = c.args.self.now in
    let r = c.args.room.now in
    let f = c.in-Finding.finding in
    let at = c.in-Finding.is in
    let t = c.in-Some.position in
    let there = sym c.position.ensures.at ∙ c.in-Some.is in
    let check = at_place m.job f (asks f.descent.stage) asked t there (asked_finding m f r at asked is) in
    let row = told_finding m f r at asked z c.args.answer v w heard in
    c.settled.ensures.fits z u v w f fits.room (is_finding z u m r v f at fits) there (subst (λ (a : Action). Answers z (telling (deed_by m.job f r)) a c.args.answer v w) (sym check) row)

pub returns-in-Some-clause-overlaps : goal.returns-in-Some-clause-overlaps
returns-in-Some-clause-overlaps c is =
    let k = c.settled.ensures.overlaps is in
    record { job = k.0; by = c.in-Finding.finding; finding = c.in-Finding.is; position = c.in-Some.position; there = sym c.position.ensures.at ∙ c.in-Some.is; overlaps = k.1; succeeded = k.2 }

pub find_on-requires-clause-stage : goal.find_on-requires-clause-stage
find_on-requires-clause-stage c = (c.in-Finding.finding, c.in-Finding.is, sym c.position.ensures.at ∙ c.in-None.is)

pub returns-in-None-clause-overlaps : goal.returns-in-None-clause-overlaps
returns-in-None-clause-overlaps c is = absurd (c.find_on.ensures.not_overlaps is)

pub settled-requires-clause-at : goal.settled-requires-clause-at
settled-requires-clause-at c = subst (StandsAt c.in-Some.position) (sym c.in-Finding.is) tt
