use Rattle.std.proofs.Common.{◌<◌, length, arith}
use Rattle.art_look.proofs.Ends.{ends_within, goes_on, stands_before, stands_past}
use Rattle.art_look.proofs.fronts.front_of.Goals as goal

pub returns-then-at-lo : goal.returns-then-at-lo
returns-then-at-lo c = ends_within c.args.lo.now c.args.path.now c.common-at.result c.common-at.ensures c.if-at-lo.true

pub returns-then-at-path : goal.returns-then-at-path
returns-then-at-path c = goes_on c.args.lo.now c.args.path.now c.common-at.result c.common-at.ensures c.if-at-lo.false c.if-at-path.true

pub returns-then-path-at : goal.returns-then-path-at
returns-then-path-at c =
    let common = c.common-at.ensures in
    let more : c.common-at.result < length c.args.lo.now = omega (arith, common.within_other, c.if-at-lo.false) in
    let longer : c.common-at.result < length c.args.path.now = omega (arith, common.within_one, c.if-at-path.false) in
    stands_before c.args.lo.now c.args.path.now c.common-at.result common more longer c.if-path-at.true

pub returns : goal.returns
returns c =
    let common = c.common-at.ensures in
    let more : c.common-at.result < length c.args.lo.now = omega (arith, common.within_other, c.if-at-lo.false) in
    let longer : c.common-at.result < length c.args.path.now = omega (arith, common.within_one, c.if-at-path.false) in
    stands_past c.args.lo.now c.args.path.now c.common-at.result common more longer (omega (arith, c.if-path-at.false))
