use Rattle.std.proofs.Common.{Some, refl}
use Rattle.art_attempt.proofs.Numbers.{has_supplied, may_supply}
use Rattle.art_attempt.proofs.Stages.{asked_part, at_part}
use Rattle.art_attempt.specs.declared.attempts.Part.TheVariants as parts
use Rattle.art_attempt.proofs.attempts.Attempt.supply_told.Goals as goal

pub told-requires : goal.told-requires
told-requires c =
    let m = c.args.self.now in
    let t = c.in-Placed.position in
    let p = c.in-Placed.part in
    let k = c.in-Reserve.case in
    let s = c.in-Reserve.reserve in
    let r = c.args.room.now in
    let q = c.requires.told in
    let here = parts.Reserve k s in
    let h = (at_part q.0 q.1 m r q.2 t p here c.in-Placed.is c.in-Reserve.is q.5).0 in (
      q.0,
      r.row.key.items,
      r.row.value,
      h.early,
      q.2,
      q.3,
      q.4,
      may_supply q.0 q.1 m.job t k s r q.2 q.5.room h c.demand-demand.result r.row.key.items c.demand-demand.ensures refl,
      asked_part m r t p here c.in-Placed.is c.in-Reserve.is (Some q.4) q.6,
      q.7,
    )

pub returns-clause-fits : goal.returns-clause-fits
returns-clause-fits c z u v w asked fits is row =
    let m = c.args.self.now in
    let t = c.in-Placed.position in
    let p = c.in-Placed.part in
    let k = c.in-Reserve.case in
    let s = c.in-Reserve.reserve in
    let r = c.args.room.now in
    let l = r.row.key.items in
    let d = c.demand-demand.result in
    let wanted = c.demand-demand.ensures in
    let here = parts.Reserve k s in
    let h = (at_part z u m r v t p here c.in-Placed.is c.in-Reserve.is fits).0 in
    let after = c.told.ensures.fits z l r.row.value h.early v w asked (may_supply z u m.job t k s r v fits.room h d l wanted refl)
    (asked_part m r t p here c.in-Placed.is c.in-Reserve.is (Some asked) is) row in
    c.supply_on.ensures.fits z u w (record { sizes = fits.room.sizes; key = fits.room.key })
    (has_supplied z u m.job t k s r v fits.room h d l wanted refl c.told.new.self c.told.new.stock w after)
