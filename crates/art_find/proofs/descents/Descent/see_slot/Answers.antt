use Rattle.std.proofs.Common.{◌<◌, get_or, sym, arith}
use Rattle.art_find.proofs.Stages.{free_slot_fits, slot_fits}
use Rattle.art_find.proofs.descents.Descent.see_slot.Goals as goal

pub returns-in-Some-clause-fits : goal.returns-in-Some-clause-fits
returns-in-Some-clause-fits c = λ z what u w on shows is noted.
    let m = c.args.self.now in
    let k = c.args.key.now in
    let seen = c.args.seen in
    let small : get_or k m.depth 0 < 256 = omega (arith, c.type_inv.key m.depth) in
    slot_fits z k what m.depth u w seen.stamp seen.node on seen.header c.args.place c.args.word c.requires.deep small shows is c.in-Some.link noted (sym c.in-Some.ensures)

pub returns-in-None-clause-fits : goal.returns-in-None-clause-fits
returns-in-None-clause-fits c = λ z what u w on shows is noted.
    let m = c.args.self.now in
    let k = c.args.key.now in
    let seen = c.args.seen in
    let small : get_or k m.depth 0 < 256 = omega (arith, c.type_inv.key m.depth) in
    free_slot_fits z k what m.depth u w seen.stamp seen.node on seen.header c.args.place c.args.word c.requires.deep small shows is (sym c.in-None.ensures)
