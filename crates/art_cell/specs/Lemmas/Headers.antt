-- Headers whose count of children changes by one, and words with the same prefix.
use Rattle.std.proofs.Common.{◌≡◌, ◌≢◌, ℕ, zero, suc, ◌+◌, ◌*◌, ◌/◌, ◌%◌, ◌^◌, ◌<◌, ◌≤◌, List, ◌∷◌, inl, inr, max, refl, sym, ap, ◌∙◌, map, arith}
use Rattle.std.specs.List.{range_with_len}
use Rattle.std.proofs.lemmas.Bool.{cases_lt}
use Rattle.std.proofs.lemmas.Nat.{div-mul-add, mod-mul-add, pow_pos, pow-add, shr-shr, shr_split, shr_high, mod_below, or_disjoint, or_lt, pow_below}
use Rattle.std.proofs.lemmas.Nat.Bits.{bit_at_or, bit_at-pow_same, bit_at-pow_other, bit_at_above, and_pow}
use Rattle.std.proofs.Math.Nat.{suc-mul}
use Rattle.std.specs.Int.RustNames.{bit_or}
use Rattle.art_cell.specs.Words.{Words, prefix_len, byte_of, packed, prefix_of}
use Rattle.art_cell.specs.Bodies.{HasPrefix}

-- ---- a header by its number

-- all bits but the count's are the same
abbrev pub KeepsRest : ℕ → ℕ → Type 0
KeepsRest h after = after / 512 ≡ h / 512

pub count_more : (h after : ℕ) → after ≡ h + 1 → h % 512 < 511 → (after % 512 ≡ h % 512 + 1) × KeepsRest h after
count_more h after e room = (omega arith, omega arith)

pub count_less : (h after : ℕ) → after + 1 ≡ h → 0 < h % 512 → (after % 512 + 1 ≡ h % 512) × KeepsRest h after
count_less h after e some = (omega arith, omega arith)

pub prefix_len_kept : (h after : ℕ) → KeepsRest h after → after / 512 % 128 ≡ h / 512 % 128
prefix_len_kept h after kept = ap (λ (n : ℕ). n % 128) kept

pub used_kept : (h after place : ℕ) → KeepsRest h after → after / 2 ^ (16 + place) % 2 ≡ h / 2 ^ (16 + place) % 2
used_kept h after place kept =
    ap (λ (n : ℕ). n % 2) (sym (shifted after) ∙ ap (λ (n : ℕ). n / 2 ^ (7 + place)) kept ∙ shifted h)
  where
    shifted : (n : ℕ) → n / 512 / 2 ^ (7 + place) ≡ n / 2 ^ (16 + place)
    shifted n = shr-shr n 9 (7 + place) ∙ ap (λ (k : ℕ). n / 2 ^ k) (omega arith)

-- a header of 16 bits, or of 64, stays one
pub header_below : (h after m : ℕ) → KeepsRest h after → h < 512 * m → after < 512 * m
header_below h after m kept below = omega arith

-- ---- one bit of a header

-- to add the power of a bit that is 0 is to set the bit
more_sets : (h k : ℕ) → h / 2 ^ k % 2 ≡ 0 → h + 2 ^ k ≡ bit_or h (2 ^ k)
more_sets h k free = sym (or_disjoint h (2 ^ k) (and_pow h k ∙ ap (λ (n : ℕ). n * 2 ^ k) free ∙ omega arith))

pub bit_more : (h k : ℕ) → h / 2 ^ k % 2 ≡ 0 → (h + 2 ^ k) / 2 ^ k % 2 ≡ 1
bit_more h k free =
    let both : bit_or h (2 ^ k) / 2 ^ k % 2 ≡ max (h / 2 ^ k % 2) (2 ^ k / 2 ^ k % 2) = bit_at_or h (2 ^ k) k in
    ap (λ (n : ℕ). n / 2 ^ k % 2) (more_sets h k free) ∙ both ∙ ap (λ (n : ℕ). max n (2 ^ k / 2 ^ k % 2)) free ∙ ap (max 0) (bit_at-pow_same k)

pub bit_more_elsewhere : (h k j : ℕ) → h / 2 ^ k % 2 ≡ 0 → j ≢ k → (h + 2 ^ k) / 2 ^ j % 2 ≡ h / 2 ^ j % 2
bit_more_elsewhere h k j free apart =
    let both : bit_or h (2 ^ k) / 2 ^ j % 2 ≡ max (h / 2 ^ j % 2) (2 ^ k / 2 ^ j % 2) = bit_at_or h (2 ^ k) j in
    ap (λ (n : ℕ). n / 2 ^ j % 2) (more_sets h k free) ∙ both ∙ ap (max (h / 2 ^ j % 2)) (bit_at-pow_other k j apart) ∙ max_zero (h / 2 ^ j % 2)
  where
    max_zero : (n : ℕ) → max n 0 ≡ n
    max_zero n = omega arith

pub bit_more_below : (h k : ℕ) → h / 2 ^ k % 2 ≡ 0 → k < 64 → h < 2 ^ 64 → h + 2 ^ k < 2 ^ 64
bit_more_below h k free low below =
    let is : h + 2 ^ k ≡ bit_or h (2 ^ k) = more_sets h k free in
    let fits : bit_or h (2 ^ k) < 2 ^ 64 = or_lt 64 h (2 ^ k) below (pow_below k 64 low) in
    omega (arith, is, fits)

-- where the bit is 1 after its power is added, it was 0
pub bit_less : (h k : ℕ) → (h + 2 ^ k) / 2 ^ k % 2 ≡ 1 → h / 2 ^ k % 2 ≡ 0
bit_less h k is =
    let split : h / 2 ^ k * 2 ^ k + h % 2 ^ k ≡ h = shr_split h k in
    let next : suc (h / 2 ^ k) * 2 ^ k ≡ h / 2 ^ k * 2 ^ k + 2 ^ k = suc-mul (h / 2 ^ k) (2 ^ k) in
    let whole : h + 2 ^ k ≡ suc (h / 2 ^ k) * 2 ^ k + h % 2 ^ k = omega (arith, split, next) in
    let above : (h + 2 ^ k) / 2 ^ k ≡ suc (h / 2 ^ k) = ap (λ (n : ℕ). n / 2 ^ k) whole ∙ shr_high (suc (h / 2 ^ k)) k (h % 2 ^ k) (mod_below h (2 ^ k) (pow_pos k)) in
    omega (arith, above, is)

-- a number with the bit is at least its power
pub bit_at_least : (h k : ℕ) → h / 2 ^ k % 2 ≡ 1 → 2 ^ k ≤ h
bit_at_least h k is =
    elim (cases_lt h (2 ^ k)) [
      | inl low ↦ absurd (omega (arith, is, bit_at_above h k k low (omega arith)))
      | inr high ↦ high
    ]

-- the header with one child more, whose place was free
pub record UsesPlace (h after place : ℕ) : Type 0 where
  pub free : h / 2 ^ (16 + place) % 2 ≡ 0
  pub used : after / 2 ^ (16 + place) % 2 ≡ 1
  pub others : (q : ℕ) → q ≢ place → after / 2 ^ (16 + q) % 2 ≡ h / 2 ^ (16 + q) % 2
  pub count : after % 512 ≡ h % 512 + 1
  pub len : after / 512 % 128 ≡ h / 512 % 128

-- the power of a place's bit leaves the 16 bits of count and length alone
low_kept : (h place : ℕ) → (m : ℕ) × (h + 2 ^ (16 + place) ≡ h + 65536 * m)
low_kept h place = (2 ^ place, ap (λ (n : ℕ). h + n) (pow-add 2 16 place))

pub uses_place : (h after place : ℕ) → after ≡ h + 2 ^ (16 + place) + 1 → h / 2 ^ (16 + place) % 2 ≡ 0 → h % 512 < 511 → UsesPlace h after place
uses_place h after place e free room =
    let mid = h + 2 ^ (16 + place) in
    let low = low_kept h place in
    let same : mid % 512 ≡ h % 512 = omega (arith, low.1) in
    let more = count_more mid after e (omega (arith, same)) in
    record {
      free = free;
      used = used_kept mid after place more.1 ∙ bit_more h (16 + place) free;
      others = λ q apart. used_kept mid after q more.1 ∙ bit_more_elsewhere h (16 + place) (16 + q) free (λ e. apart (omega arith));
      count = more.0 ∙ ap (λ (n : ℕ). n + 1) same;
      len = prefix_len_kept mid after more.1 ∙ omega (arith, low.1);
    }

-- the other way round: one child less, whose place was used
pub frees_place : (h after place : ℕ) → h ≡ after + 2 ^ (16 + place) + 1 → h / 2 ^ (16 + place) % 2 ≡ 1 → 0 < h % 512 → UsesPlace after h place
frees_place h after place e used some =
    let mid = after + 2 ^ (16 + place) in
    let low = low_kept after place in
    let less = count_less h mid (sym e) some in
    let same : mid % 512 ≡ after % 512 = omega (arith, low.1) in
    uses_place after h place e (bit_less after (16 + place) (used_kept h mid place less.1 ∙ used)) (omega (arith, less.0, same))

-- ---- words with the same prefix

-- as many bytes of prefix, in the same words
pub record SamePrefix (w after : Words) : Type 0 where
  pub len : prefix_len after ≡ prefix_len w
  pub words : (place : ℕ) → 2 ≤ place → place < 10 → after place ≡ w place

same_byte : (w after : Words) → SamePrefix w after → (i : ℕ) → i < 64 → packed after 2 i ≡ packed w 2 i
unfolding packed
same_byte w after same i low = ap (λ (word : ℕ). byte_of word (i % 8)) (same.words (2 + i / 8) (omega arith) (omega arith))

pub prefix_kept : (w after : Words) → SamePrefix w after → HasPrefix w → HasPrefix after
prefix_kept w after same has = record {
  short = omega (arith, same.len, has.short);
  unused = λ i high low. same_byte w after same i low ∙ has.unused i (omega (arith, same.len)) low;
}

pub same_prefix_of : (w after : Words) → SamePrefix w after → HasPrefix w → prefix_of after ≡ prefix_of w
same_prefix_of w after same has =
    ap (λ (n : ℕ). map (packed after 2) (range_with_len 0 n)) same.len ∙ same_bytes 0 (prefix_len w) (omega (arith, has.short))
  where
    same_bytes : (from n : ℕ) → from + n ≤ 64 → map (packed after 2) (range_with_len from n) ≡ map (packed w 2) (range_with_len from n)
    same_bytes from zero low = refl
    same_bytes from (suc n) low =
        ap (λ (byte : ℕ). byte ∷ map (packed after 2) (range_with_len (from + 1) n)) (same_byte w after same from (omega arith))
        ∙ ap (λ (bytes : List ℕ). packed w 2 from ∷ bytes) (same_bytes (from + 1) n (omega arith))

-- ---- another count

-- the header h with this count
abbrev pub with_count : ℕ → ℕ → ℕ
with_count h count = h / 512 * 512 + count

pub count-with_count : (h count : ℕ) → count < 512 → with_count h count % 512 ≡ count
count-with_count h count few = mod-mul-add (h / 512) 512 count few

pub prefix_len-with_count : (h count : ℕ) → count < 512 → with_count h count / 512 % 128 ≡ h / 512 % 128
prefix_len-with_count h count few = ap (λ (n : ℕ). n % 128) (div-mul-add (h / 512) 512 count few)

pub with_count_below : (h count : ℕ) → h < 2 ^ 16 → count < 512 → with_count h count < 2 ^ 16
with_count_below h count small few = omega arith
