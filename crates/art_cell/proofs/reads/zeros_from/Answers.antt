use Rattle.std.proofs.Common.{◌≡◌, ◌+◌, ◌<◌, ◌/◌, ◌^◌, ◌%◌, ℕ, arith, inl, inr, sym, ◌∙◌, ap}
use Rattle.std.proofs.lemmas.Bool.{cases_eq}
use Rattle.std.proofs.lemmas.Nat.{shr-shr, shr_le}
use Rattle.std.proofs.lemmas.Nat.Bits.{bit_at-trailing_zeros, bit_at-zero}
use Rattle.std.specs.Int.{w64, bit_at, trailing_zeros}
use Rattle.std.specs.Int.Count.{trailing_of_zero}
use Rattle.art_cell.proofs.reads.zeros_from.Goals as goal

-- the bits of what is shifted down are those from the first on
shifted : (bits first i : ℕ) → bit_at (bits / 2 ^ first) i ≡ bit_at bits (first + i)
shifted bits first i = ap (λ (m : ℕ). m % 2) (shr-shr bits first i)

below_lowest : (n i : ℕ) → n < 2 ^ 64 → i < trailing_zeros w64 n → bit_at n i ≡ 0
below_lowest n i fits low = elim (cases_eq n 0) [
  | inl none ↦ ap (λ (m : ℕ). bit_at m i) none ∙ bit_at-zero i
  | inr some ↦ (bit_at-trailing_zeros w64 n (omega (arith, some)) fits).2 i low
]

pub returns-clause-zero : goal.returns-clause-zero
returns-clause-zero c i low =
    let n = c.args.bits / 2 ^ c.args.first in
    let less = shr_le c.args.bits c.args.first in
    let fits = c.ranges.bits.fits in
    let is = c.min.ensures in
    sym (shifted c.args.bits c.args.first i) ∙ below_lowest n i (omega (arith, fits, less)) (omega (arith, is, low))

pub returns-clause-some : goal.returns-clause-some
returns-clause-some c none =
    let n = c.args.bits / 2 ^ c.args.first in
    let less = shr_le c.args.bits c.args.first in
    let fits = c.ranges.bits.fits in
    let low = c.requires in
    let is = c.min.ensures in
    let lowest : bit_at n 0 ≡ 0 = shifted c.args.bits c.args.first 0 ∙ ap (bit_at c.args.bits) (omega arith) ∙ none in
    elim (cases_eq n 0) [
      | inl none_set ↦ let all : trailing_zeros w64 n ≡ 64 = ap (trailing_zeros w64) none_set ∙ trailing_of_zero 64 in omega (arith, is, all, low)
      | inr some ↦ elim (cases_eq (trailing_zeros w64 n) 0) [
        | inl first ↦
            let one = (bit_at-trailing_zeros w64 n (omega (arith, some)) (omega (arith, fits, less))).1 in
            let no = sym (ap (bit_at n) first) ∙ one in
            absurd (omega (arith, no, lowest))
        | inr later ↦ omega (arith, is, later, low)
      ]
    ]
