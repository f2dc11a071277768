use Rattle.std.proofs.Common.{arith, pow_mono}
use Rattle.std.proofs.Math.Pow.{pow-lt}
use Rattle.art_cell.proofs.reads.mask.Goals as goal

pub overflow_sub-result : goal.overflow_sub-result
overflow_sub-result c =
    let less = pow-lt c.requires.low in
    let more = pow-lt c.if-high-lt64.true in
    let order = pow_mono c.requires.order in
    omega (arith, less, more, order)
