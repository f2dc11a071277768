-- Bytes packed eight a word, the first in the highest byte.
use Rattle.std.proofs.Common.{◌≡◌, ◌≢◌, inl, inr, ℕ, zero, suc, ◌+◌, ◌*◌, ◌/◌, ◌%◌, ◌^◌, ◌<◌, List, length, get_or, set, refl, sym, ap, ◌∙◌, arith, get_or-set_other, get_or-set_same}
use Rattle.std.proofs.lemmas.Nat.{be_bytes_8, from_be_bytes-to_be_bytes_8}
use Rattle.std.proofs.lemmas.Grind.{same_number_lists}
use Rattle.std.proofs.lemmas.List.{length-set}
use Rattle.std.proofs.lemmas.Bool.{cases_eq}
use Rattle.std.specs.Int.{w64, to_be_bytes, from_be_bytes}
use Rattle.art_cell.specs.Words.{Words, byte_of, packed}

pub byte_of_below : (word i : ℕ) → byte_of word i < 256
byte_of_below word i = omega arith

-- byte i of a word is byte i of the eight that it is written as
pub byte_of-to_be_bytes : (word i : ℕ) → i < 8 → byte_of word i ≡ get_or (to_be_bytes w64 word) i 0
byte_of-to_be_bytes word zero h = refl
byte_of-to_be_bytes word (suc zero) h = refl
byte_of-to_be_bytes word (suc (suc zero)) h = refl
byte_of-to_be_bytes word (suc (suc (suc zero))) h = refl
byte_of-to_be_bytes word (suc (suc (suc (suc zero)))) h = refl
byte_of-to_be_bytes word (suc (suc (suc (suc (suc zero))))) h = refl
byte_of-to_be_bytes word (suc (suc (suc (suc (suc (suc zero)))))) h = refl
byte_of-to_be_bytes word (suc (suc (suc (suc (suc (suc (suc zero))))))) h = omega arith
byte_of-to_be_bytes word (suc (suc (suc (suc (suc (suc (suc (suc i)))))))) h = absurd (omega arith)

-- eight bytes
pub record IsEight (bytes : List ℕ) : Type 0 where
  pub eight : length bytes ≡ 8
  pub small : (i : ℕ) → get_or bytes i 0 < 256

-- byte i of the word that eight bytes make is byte i of them
pub byte_of-from_be_bytes : (bytes : List ℕ) (i : ℕ) → IsEight bytes → i < 8 → byte_of (from_be_bytes w64 bytes) i ≡ get_or bytes i 0
byte_of-from_be_bytes bytes i are h =
    byte_of-to_be_bytes (from_be_bytes w64 bytes) i h ∙ ap (λ (bs : List ℕ). get_or bs i 0) (be_bytes_8 bytes (from_be_bytes w64 bytes) are.eight are.small refl)

eight_below : (a b c d e f g h : ℕ) → a < 256 → b < 256 → c < 256 → d < 256 → e < 256 → f < 256 → g < 256 → h < 256
    → a + b * 256 + c * 65536 + d * 16777216 + e * 4294967296 + f * 1099511627776 + g * 281474976710656 + h * 72057594037927936 < 18446744073709551616
eight_below a b c d e f g h a' b' c' d' e' f' g' h' = omega arith

-- the word that eight bytes make fits 64 bits
pub from_be_bytes_below : (bytes : List ℕ) → IsEight bytes → from_be_bytes w64 bytes < 2 ^ 64
from_be_bytes_below bytes are =
    let below = eight_below (get_or bytes 7 0) (get_or bytes 6 0) (get_or bytes 5 0) (get_or bytes 4 0) (get_or bytes 3 0) (get_or bytes 2 0) (get_or bytes 1 0) (get_or bytes 0 0) (are.small 7) (are.small 6) (are.small 5) (are.small 4) (are.small 3) (are.small 2) (are.small 1) (are.small 0) in
    omega (arith, below)

-- the eight bytes of a word
pub eight-to_be_bytes : (word : ℕ) → IsEight (to_be_bytes w64 word)
eight-to_be_bytes word = record { eight = refl; small = small }
  where
    small : (i : ℕ) → get_or (to_be_bytes w64 word) i 0 < 256
    small zero = omega arith
    small (suc zero) = omega arith
    small (suc (suc zero)) = omega arith
    small (suc (suc (suc zero))) = omega arith
    small (suc (suc (suc (suc zero)))) = omega arith
    small (suc (suc (suc (suc (suc zero))))) = omega arith
    small (suc (suc (suc (suc (suc (suc zero)))))) = omega arith
    small (suc (suc (suc (suc (suc (suc (suc zero))))))) = omega arith
    small (suc (suc (suc (suc (suc (suc (suc (suc i)))))))) = omega arith

-- words with the same bytes are the same
pub same_word : (word other : ℕ) → word < 2 ^ 64 → other < 2 ^ 64 → ((i : ℕ) → i < 8 → byte_of word i ≡ byte_of other i) → word ≡ other
same_word word other fits other_fits same =
    sym (from_be_bytes-to_be_bytes_8 word fits) ∙ ap (from_be_bytes w64) bytes ∙ from_be_bytes-to_be_bytes_8 other other_fits
  where
    each : (i : ℕ) → i < 8 → get_or (to_be_bytes w64 word) i 0 ≡ get_or (to_be_bytes w64 other) i 0
    each i low = sym (byte_of-to_be_bytes word i low) ∙ same i low ∙ byte_of-to_be_bytes other i low

    bytes : to_be_bytes w64 word ≡ to_be_bytes w64 other
    bytes = same_number_lists (to_be_bytes w64 word) (to_be_bytes w64 other)
        ((eight-to_be_bytes word).eight ∙ sym (eight-to_be_bytes other).eight)
        (λ i low. each i (omega (arith, low, (eight-to_be_bytes word).eight)))

-- eight bytes with one replaced
pub eight-set : (bytes : List ℕ) (i byte : ℕ) → IsEight bytes → i < 8 → byte < 256 → IsEight (set bytes i byte)
eight-set bytes i byte are h b = record { eight = length-set bytes i byte ∙ are.eight; small = small }
  where
    small : (j : ℕ) → get_or (set bytes i byte) j 0 < 256
    small j =
        elim (cases_eq j i) [
          | inl here ↦
              let at : get_or (set bytes i byte) j 0 ≡ byte = ap (λ (k : ℕ). get_or (set bytes i byte) k 0) here ∙ get_or-set_same bytes i byte 0 (omega (arith, are.eight)) in
              omega (arith, at)
          | inr apart ↦
              let at : get_or (set bytes i byte) j 0 ≡ get_or bytes j 0 = get_or-set_other bytes i j byte 0 apart in
              omega (arith, at, are.small j)
        ]

-- the word with byte i replaced
abbrev pub with_byte : ℕ → ℕ → ℕ → ℕ
with_byte word i byte = from_be_bytes w64 (set (to_be_bytes w64 word) i byte)

pub with_byte_below : (word i byte : ℕ) → i < 8 → byte < 256 → with_byte word i byte < 2 ^ 64
with_byte_below word i byte h b = from_be_bytes_below (set (to_be_bytes w64 word) i byte) (eight-set (to_be_bytes w64 word) i byte (eight-to_be_bytes word) h b)

pub byte_of-with_byte_here : (word i byte : ℕ) → i < 8 → byte < 256 → byte_of (with_byte word i byte) i ≡ byte
byte_of-with_byte_here word i byte h b =
    byte_of-from_be_bytes (set (to_be_bytes w64 word) i byte) i (eight-set (to_be_bytes w64 word) i byte (eight-to_be_bytes word) h b) h
    ∙ get_or-set_same (to_be_bytes w64 word) i byte 0 h

pub byte_of-with_byte_elsewhere : (word i byte j : ℕ) → i < 8 → byte < 256 → j < 8 → j ≢ i → byte_of (with_byte word i byte) j ≡ byte_of word j
byte_of-with_byte_elsewhere word i byte j h b k apart =
    byte_of-from_be_bytes (set (to_be_bytes w64 word) i byte) j (eight-set (to_be_bytes w64 word) i byte (eight-to_be_bytes word) h b) k
    ∙ get_or-set_other (to_be_bytes w64 word) i j byte 0 apart
    ∙ sym (byte_of-to_be_bytes word j k)

-- ---- bytes packed from a place on

pub packed_below : (w : Words) (from i : ℕ) → packed w from i < 256
unfolding packed
packed_below w from i = byte_of_below (w (from + i / 8)) (i % 8)

-- byte i stands in the word of its place
pub packed_is : (w : Words) (from i word : ℕ) → word ≡ w (from + i / 8) → packed w from i ≡ byte_of word (i % 8)
unfolding packed
packed_is w from i word is = ap (λ (x : ℕ). byte_of x (i % 8)) (sym is)

-- the same word has the same bytes
pub packed_same : (w after : Words) (from i : ℕ) → after (from + i / 8) ≡ w (from + i / 8) → packed after from i ≡ packed w from i
unfolding packed
packed_same w after from i same = ap (λ (x : ℕ). byte_of x (i % 8)) same
