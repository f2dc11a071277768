-- The reserve runs where it stands, and what it came to is looked at.
use Rattle.art_attempt.proofs.Numbers.{has_supplied, may_supply}
use Rattle.art_attempt.proofs.Stages.{at_part}
use Rattle.art_attempt.specs.declared.attempts.Part.TheVariants as parts
use Rattle.art_attempt.proofs.attempts.Attempt.supply_all.Goals as goal

pub run-requires-clause-fits : goal.run-requires-clause-fits
run-requires-clause-fits g c =
    let z = g.S.Steps.sizes c.args.steps.now in
    let v = g.S.Steps.view c.args.steps.now in
    let m = c.args.self.now in
    let t = c.in-Placed.position in
    let k = c.in-Reserve.case in
    let s = c.in-Reserve.reserve in
    let r = c.args.room.now in
    let q = c.requires.fits in
    let h = (at_part z q.0 m r v t c.in-Placed.part (parts.Reserve k s) c.in-Placed.is c.in-Reserve.is q.1).0 in
    (h.early, may_supply z q.0 m.job t k s r v q.1.room h c.demand-demand.result c.as_slice-key.result.now c.demand-demand.ensures c.as_slice-key.ensures.value)

pub returns-clause-fits : goal.returns-clause-fits
returns-clause-fits g c u fits =
    let z = g.S.Steps.sizes c.args.steps.now in
    let v = g.S.Steps.view c.args.steps.now in
    let w = g.S.Steps.view c.run.new.steps in
    let m = c.args.self.now in
    let t = c.in-Placed.position in
    let k = c.in-Reserve.case in
    let s = c.in-Reserve.reserve in
    let r = c.args.room.now in
    let d = c.demand-demand.result in
    let l = c.as_slice-key.result.now in
    let wanted = c.demand-demand.ensures in
    let key = c.as_slice-key.ensures.value in
    let h = (at_part z u m r v t c.in-Placed.part (parts.Reserve k s) c.in-Placed.is c.in-Reserve.is fits).0 in
    let after = c.run.ensures.fits h.early (may_supply z u m.job t k s r v fits.room h d l wanted key) in
    c.supply_on.ensures.fits z u w (record { sizes = fits.room.sizes; key = fits.room.key })
    (has_supplied z u m.job t k s r v fits.room h d l wanted key c.run.new.self c.run.new.stock w after)
