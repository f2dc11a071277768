use Rattle.std.proofs.Common.{◌≡◌, take, arith}
use Rattle.art_key.specs.Kinds.{number_of}
use Rattle.art_key.proofs.Wholes.{few_bytes}
use Rattle.art_key.proofs.kinds.number_of.Goals as goal

pub overflow_mul-number : goal.overflow_mul-number
overflow_mul-number c =
    let below = few_bytes c.args.bytes.now c.loop-byte.byte-index 7 (λ i. omega (arith, c.type_inv.bytes i)) (omega (arith, c.requires, c.loop-byte-test.true)) in
    let same : c.loop-byte.number ≡ number_of (take c.loop-byte.byte-index c.args.bytes.now) = c.loop-byte.invariant in
    omega arith

pub overflow_add-number : goal.overflow_add-number
overflow_add-number c =
    let below = few_bytes c.args.bytes.now c.loop-byte.byte-index 7 (λ i. omega (arith, c.type_inv.bytes i)) (omega (arith, c.requires, c.loop-byte-test.true)) in
    let same : c.loop-byte.number ≡ number_of (take c.loop-byte.byte-index c.args.bytes.now) = c.loop-byte.invariant in
    let byte = c.type_inv.bytes c.loop-byte.byte-index in
    omega (arith, c.from.ensures)
