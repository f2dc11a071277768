use Rattle.std.proofs.Common.{arith}
use Rattle.std.proofs.lemmas.Nat.{leading_length}
use Rattle.std.proofs.lemmas.Nat.Bits.{bit_at_above}
use Rattle.art_cell.proofs.reads.bit_length.Goals as goal

pub returns-clause-zero : goal.returns-clause-zero
returns-clause-zero c i high =
    let n = c.args.bits in
    let long = leading_length 64 n c.ranges.bits.fits in
    bit_at_above n long.0 i long.2 (let sum = long.1 in omega (arith, sum, high))
