-- The machine goes on as the word says.
use Rattle.std.proofs.Common.{◌≡◌, ◌+◌, ◌<◌, List, sym, subst}
use Rattle.std.specs.Prelude.{Some}
use Rattle.art_epoch.specs.Limbo.{places_of}
use Rattle.art_epoch.specs.declared.limbo.Place.{Place}
use Rattle.art_epoch.specs.Reclaiming as reclaims
use Rattle.art_epoch.proofs.Reclaimed.{steps_fewer}
use Rattle.art_step.specs.Acting.{word_in}
use Rattle.art_epoch.specs.Enter.{EnterFits, asks, reclaimed, steps_left}
use Rattle.art_epoch.specs.declared.enter.Enter.{Enter}
use Rattle.art_epoch.proofs.Opens.{fewer_reclaiming, told_pinning, told_reclaiming}
use Rattle.art_epoch.proofs.enter.Enter.told.Goals as goal

pub returns-in-Reclaiming-clause-fits : goal.returns-in-Reclaiming-clause-fits
returns-in-Reclaiming-clause-fits c z u v w ps a fits asked row =
    let qs = places_of c.args.limbo.now in
    let r = c.in-Reclaiming.reclaiming in
    let b = c.in-Reclaiming.blocker in
    let k = subst (λ (m : Enter). EnterFits z u ps m qs v) c.in-Reclaiming.is fits in
    let e = subst (λ (m : Enter). asks m qs ≡ Some a) c.in-Reclaiming.is asked in
    subst (λ (m : Enter). EnterFits z u ps m (places_of c.reclaimed.new.limbo) w) (sym c.reclaimed.ensures.next)
    (subst (λ (rs : List Place). EnterFits z u ps (reclaimed r b (word_in c.args.answer) qs) rs w) (sym c.reclaimed.ensures.places) (told_reclaiming z u v w ps qs r b a c.args.answer k e row))

pub returns-in-Pinning-clause-fits : goal.returns-in-Pinning-clause-fits
returns-in-Pinning-clause-fits c z u v w ps a fits asked row =
    let qs = places_of c.args.limbo.now in
    let p = c.in-Pinning.pinning in
    let k = subst (λ (m : Enter). EnterFits z u ps m qs v) c.in-Pinning.is fits in
    let e = subst (λ (m : Enter). asks m qs ≡ Some a) c.in-Pinning.is asked in
    told_pinning z u v w ps qs p c.pinned.result k (λ early known. c.pinned.ensures.fits z early v w a known e row)

pub returns-in-Reclaiming-clause-left : goal.returns-in-Reclaiming-clause-left
returns-in-Reclaiming-clause-left c =
    let o = c.requires in
    let qs = places_of c.args.limbo.now in
    let rs = places_of c.reclaimed.new.limbo in
    let r = c.in-Reclaiming.reclaiming in
    let b = c.in-Reclaiming.blocker in
    let k = subst (λ (m : Enter). EnterFits o.0 o.1 o.4 m qs o.2) c.in-Reclaiming.is o.6 in
    let e = subst (λ (m : Enter). asks m qs ≡ Some o.5) c.in-Reclaiming.is o.7 in
    let fewer = steps_fewer o.0 o.1 o.4 qs r o.2 k.fits o.5 (word_in c.args.answer) e in
    subst (λ (m : Enter). steps_left c.reclaimed.result rs < steps_left m qs) (sym c.in-Reclaiming.is)
    (subst (λ (m : Enter). steps_left m rs < 2 + reclaims.steps_left r.passes r.stage qs) (sym c.reclaimed.ensures.next)
    (subst (λ (ps : List Place). steps_left (reclaimed r b (word_in c.args.answer) qs) ps < 2 + reclaims.steps_left r.passes r.stage qs) (sym c.reclaimed.ensures.places)
    (fewer_reclaiming r b (word_in c.args.answer) qs fewer)))
