-- The check is that of the place.
use Rattle.std.proofs.Common.{◌∙◌, Some, sym, ap, subst, arith}
use Rattle.art_attempt.proofs.Finds.{asks_check, check_look, finding_allowed, may_look}
use Rattle.art_attempt.proofs.Stages.{is_finding}
use Rattle.art_attempt.specs.Attempts.{StandsAt, deed_by, settles}
use Rattle.art_step.proofs.Counting.{look_counts}
use Rattle.art_step.specs.Acting.{Answers, IsLook, telling}
use Rattle.art_step.specs.declared.actions.Action.{Action}
use Rattle.art_attempt.proofs.attempts.Attempt.settle_on.Goals as goal

pub look-requires : goal.look-requires
look-requires g c =
    let z = g.S.Steps.sizes c.args.steps.now in
    let v = g.S.Steps.view c.args.steps.now in
    let m = c.args.self.now in
    let f = c.in-Finding.finding in
    let r = c.args.room.now in
    let q = c.requires.fits in
    let seeks = is_finding z q.0 m r v f c.in-Finding.is q.1 in
    let t = c.in-Some.position in
    let at = sym c.position.ensures.at ∙ c.in-Some.is in
    record {
      allowed = may_look z (deed_by m.job f r) v c.check_of.result
          (finding_allowed z q.0 m.job f r v seeks c.check_of.result (asks_check m.job f t at ∙ ap Some (sym c.check_of.ensures)));
    }

pub settled-requires-clause-told : goal.settled-requires-clause-told
settled-requires-clause-told g c =
    let z = g.S.Steps.sizes c.args.steps.now in
    let v = g.S.Steps.view c.args.steps.now in
    let w = g.S.Steps.view c.look.new.steps in
    let m = c.args.self.now in
    let f = c.in-Finding.finding in
    let r = c.args.room.now in
    let q = c.requires.fits in
    let seeks = is_finding z q.0 m r v f c.in-Finding.is q.1 in
    let at = sym c.position.ensures.at ∙ c.in-Some.is in
    let row = subst (λ (a : Action). Answers z (telling (deed_by m.job f r)) a c.in-Some-look.answer v w) c.check_of.ensures (c.in-Some-look.ensures.row (deed_by m.job f r)) in
    (z, q.0, v, w, f, q.1.room, seeks, at, row)

pub returns-clause-fits : goal.returns-clause-fits
returns-clause-fits g c = λ u fits.
    let z = g.S.Steps.sizes c.args.steps.now in
    let v = g.S.Steps.view c.args.steps.now in
    let w = g.S.Steps.view c.look.new.steps in
    let m = c.args.self.now in
    let f = c.in-Finding.finding in
    let r = c.args.room.now in
    let seeks = is_finding z u m r v f c.in-Finding.is fits in
    let at = sym c.position.ensures.at ∙ c.in-Some.is in
    let row = subst (λ (a : Action). Answers z (telling (deed_by m.job f r)) a c.in-Some-look.answer v w) c.check_of.ensures (c.in-Some-look.ensures.row (deed_by m.job f r)) in
    c.settled.ensures.fits z u v w f fits.room seeks at row

pub returns-clause-made : goal.returns-clause-made
returns-clause-made g c =
    let z = g.S.Steps.sizes c.args.steps.now in
    let v = g.S.Steps.view c.args.steps.now in
    let w = g.S.Steps.view c.look.new.steps in
    let d = deed_by c.args.self.now.job c.in-Finding.finding c.args.room.now in
    let one = (look_counts z d c.check_of.result c.in-Some-look.answer v w (subst IsLook (sym c.check_of.ensures) (check_look (settles c.args.self.now.job c.in-Some.position.verdict) c.in-Some.position.stamp)) (c.in-Some-look.ensures.row d)).steps in
    let more = c.if-left-le1.false in
    omega (arith, one, more)

pub settled-requires-clause-at : goal.settled-requires-clause-at
settled-requires-clause-at g c = subst (StandsAt c.in-Some.position) (sym c.in-Finding.is) tt
