use Rattle.std.proofs.Common.{◌≡◌, ◌∙◌, Some, ⊎_elim, sym}
use Rattle.art_change.proofs.Overlaps.{finds_overlap, never_overlaps}
use Rattle.art_change.proofs.Steps.{write_few}
use Rattle.art_change.proofs.writes.step.Goals as goal
use Rattle.art_change.specs.Writes.{FindsOverlap, outcome_in, overlaps_by}
use Rattle.art_change.specs.declared.writes.WriteOutcome.TheVariants.{Overlaps}
use Rattle.art_epoch.specs.Limbo.{places_of}
use Rattle.art_step.specs.Histories.{AreApart}

pub returns-clause-one : goal.returns-clause-one
returns-clause-one g c =
    let z = g.S.Steps.sizes c.args.steps.now in
    let v = g.S.Steps.view c.args.steps.now in
    let w = g.S.Steps.view c.make_step-answer.new.steps in
    let q = c.requires.fits in
    write_few z q.0 q.1 c.args.write.now c.args.room.now (places_of c.args.limbo.now) v w c.in-Some.action c.make_step-answer.result c.make_step-answer.ensures.row q.2
    (sym c.next.ensures.asks ∙ c.in-Some.is)

pub returns-clause-fits : goal.returns-clause-fits
returns-clause-fits g c u ps fits =
    let z = g.S.Steps.sizes c.args.steps.now in
    let v = g.S.Steps.view c.args.steps.now in
    let w = g.S.Steps.view c.make_step-answer.new.steps in
    c.told.ensures.fits z u v w ps c.in-Some.action fits (sym c.next.ensures.asks ∙ c.in-Some.is) c.make_step-answer.ensures.row

pub returns-clause-apart : goal.returns-clause-apart
returns-clause-apart g c none was now =
    let z = g.S.Steps.sizes c.args.steps.now in
    let v = g.S.Steps.view c.args.steps.now in
    let w = g.S.Steps.view c.make_step-answer.new.steps in
    let m = c.args.write.now in
    let r = c.args.room.now in
    let qs = places_of c.args.limbo.now in
    let q = c.requires.fits in
    let asks = sym c.next.ensures.asks ∙ c.in-Some.is in
    let answer = c.make_step-answer.result in
    ⊎_elim
    (λ (had : outcome_in m.stage ≡ Some Overlaps). was had)
    (λ (here : overlaps_by m.stage answer). ⊎_elim
    (λ (apart : AreApart (g.S.Steps.admits c.args.steps.now)).
    never_overlaps (g.S.Steps.admits c.args.steps.now) apart z v q.0 q.1 m r qs c.in-Some.action answer q.2 c.requires.admitted asks c.make_step-answer.ensures.keys here)
    (λ (nowhere : FindsOverlap z r.row.key.items v w → ⊥). nowhere (finds_overlap z v w q.0 q.1 m r qs c.in-Some.action answer q.2 asks c.make_step-answer.ensures.row here))
    none)
    (c.told.ensures.overlaps now)

pub make_step-answer-requires-clause-fits : goal.make_step-answer-requires-clause-fits
make_step-answer-requires-clause-fits g c =
    let q = c.requires.fits in
    (q.0, q.1, places_of c.args.limbo.now, q.2, sym c.next.ensures.asks ∙ c.in-Some.is)

pub told-requires : goal.told-requires
told-requires g c =
    let z = g.S.Steps.sizes c.args.steps.now in
    let v = g.S.Steps.view c.args.steps.now in
    let w = g.S.Steps.view c.make_step-answer.new.steps in
    let q = c.requires.fits in
    (z, q.0, v, w, q.1, c.in-Some.action, q.2, sym c.next.ensures.asks ∙ c.in-Some.is, c.make_step-answer.ensures.row)
