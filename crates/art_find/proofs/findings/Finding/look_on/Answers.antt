-- The machine asks, and hears.
use Rattle.std.proofs.Common.{◌∙◌, sym}
use Rattle.art_find.proofs.Hearing.{may_look, told_going}
use Rattle.art_find.specs.Descents.{answer_at}
use Rattle.art_find.proofs.findings.Finding.look_on.Goals as goal

pub look-requires : goal.look-requires
look-requires g c =
    let q = c.requires.fits in
    record {
      allowed = may_look (g.S.Steps.sizes c.args.steps.now) c.args.key.now q.0 c.args.self.now c.args.read_set.now q.1 (g.S.Steps.view c.args.steps.now) c.in_ok-action.action (sym c.in_ok-action.ensures.asks) q.2;
    }

pub told-requires-clause-fits : goal.told-requires-clause-fits
told-requires-clause-fits g c =
    let q = c.requires.fits in
    let m = c.args.self.now in (
      g.S.Steps.sizes c.args.steps.now,
      q.0,
      q.1,
      g.S.Steps.view c.args.steps.now,
      g.S.Steps.view c.look.new.steps,
      c.in_ok-action.action,
      q.2,
      sym c.in_ok-action.ensures.asks,
      c.in_ok-answer.ensures.row (q.0 (answer_at m.descent.stage)),
    )

pub returns-clause-looked : goal.returns-clause-looked
returns-clause-looked g c =
    let z = g.S.Steps.sizes c.args.steps.now in
    let v = g.S.Steps.view c.args.steps.now in
    let w = g.S.Steps.view c.look.new.steps in
    let q = c.requires.fits in
    let m = c.args.self.now in
    let n = c.told.new.self in
    let a = c.in_ok-action.action in
    let r = c.in_ok-answer.answer in
    let row = c.in_ok-answer.ensures.row in
    let e = c.told.ensures in
    let is = sym c.in_ok-action.ensures.asks in (
      a,
      r,
      record { asked_it = is; row = row },
      record {
        further = λ on. e.steps (e.on ∙ on);
        anew = λ off. e.anew (e.on ∙ off);
        stays = e.stays;
        going = told_going z (q.0 (answer_at m.descent.stage)) m.descent n.descent a r v w is c.in_ok-answer.ensures.unsettled (row (q.0 (answer_at m.descent.stage))) e.stays (λ off. e.anew (e.on ∙ off));
        fits = λ what u before. e.fits z what u v w a before is (row (what (answer_at m.descent.stage)));
      },
      e.on,
    )
