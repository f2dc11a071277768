use Rattle.std.proofs.Common.{◌≡◌, ℕ, ◌+◌, ◌/◌, ◌%◌, ◌^◌, ◌<◌, ap, ◌∙◌, sym, arith}
use Rattle.std.proofs.lemmas.Nat.{shr-shr}
use Rattle.std.proofs.lemmas.Nat.Bits.{bit_at-trailing_ones}
use Rattle.std.specs.Int.{w64, bit_at, trailing_ones}
use Rattle.art_node48.proofs.node48.free_place.Goals as goal

-- a bit of the places, in the header
bit_of : (header p : ℕ) → header / 2 ^ (16 + p) % 2 ≡ bit_at (header / 2 ^ 16) p
bit_of header p = sym (ap (λ (n : ℕ). n % 2) (shr-shr header 16 p))

-- the bit after the lowest ones is 0, and they are 1
after_ones : (header place : ℕ) → header < 2 ^ 64 → place ≡ trailing_ones w64 (header / 2 ^ 16) → header / 2 ^ (16 + place) % 2 ≡ 0
after_ones header place fits is = bit_of header place ∙ ap (bit_at (header / 2 ^ 16)) is ∙ (bit_at-trailing_ones w64 (header / 2 ^ 16) (omega arith)).1

ones : (header place p : ℕ) → header < 2 ^ 64 → place ≡ trailing_ones w64 (header / 2 ^ 16) → p < place → header / 2 ^ (16 + p) % 2 ≡ 1
ones header place p fits is low = bit_of header p ∙ (bit_at-trailing_ones w64 (header / 2 ^ 16) (omega arith)).2 p (omega (arith, is, low))

pub returns-then-place-lt-PLACES : goal.returns-then-place-lt-PLACES
returns-then-place-lt-PLACES c =
    let fits : c.args.header < 2 ^ 64 = omega arith in
    record {
      within = c.if-place-lt-PLACES.true;
      free = after_ones c.args.header c.trailing_ones-place.result fits c.trailing_ones-place.ensures;
      least = λ p low. ones c.args.header c.trailing_ones-place.result p fits c.trailing_ones-place.ensures low;
    }

pub returns-else-place-lt-PLACES : goal.returns-else-place-lt-PLACES
returns-else-place-lt-PLACES c p low =
    ones c.args.header c.trailing_ones-place.result p (omega arith) c.trailing_ones-place.ensures (omega (arith, c.if-place-lt-PLACES.false, low))
