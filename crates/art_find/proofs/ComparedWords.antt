-- Packed bytes beside those of a key, by one word more.
use Rattle.std.proofs.Common.{◌≡◌, ◌≢◌, ◌⊎◌, inl, inr, ℕ, ◌+◌, ◌-◌, ◌*◌, ◌/◌, ◌%◌, ◌<◌, ◌≤◌, min, List, length, get_or, ⊎_elim, ap, ◌∙◌, subst, arith}
use Rattle.std.proofs.lemmas.Bool.{cases_lt}
use Rattle.art_cell.specs.Words.{Words, packed, byte_of}
use Rattle.art_find.specs.Compares.{ComparesWord, HasByte, IsWithin, TellsBeside, byte_after, byte_in}
use Rattle.art_find.specs.declared.descents.Beside.{Beside}
use Rattle.art_path.specs.Compared.{AreSame, IsCompared, behind}
use Rattle.art_path.specs.declared.compared.Compared.{Compared}
use Rattle.art_path.specs.declared.compared.Compared.TheVariants.{Same, Below, Above}
use Rattle.art_path.proofs.Comparing.{one_result}
use Rattle.art_path.proofs.PackedTexts.{word_compared}

-- the byte where they part is not the key's
pub below_other : (bytes : ℕ → ℕ) (count : ℕ) (key : List ℕ) (from at : ℕ) → IsCompared bytes count key from (Below at) → bytes at ≢ get_or key (from + at) 0
below_other bytes count key from at is same = omega (arith, is.3, same)

pub above_other : (bytes : ℕ → ℕ) (count : ℕ) (key : List ℕ) (from at : ℕ) → from + at < length key → IsCompared bytes count key from (Above at) → bytes at ≢ get_or key (from + at) 0
above_other bytes count key from at low is same = ⊎_elim
    (λ (ended : from + at ≡ length key). absurd (omega (arith, ended, low)))
    (λ (more : (from + at < length key) × (get_or key (from + at) 0 < bytes at)). absurd (omega (arith, more.1, same)))
    is.2

-- where a byte is above, the key has all before it
above_within : (key : List ℕ) (from at byte : ℕ) → (from + at ≡ length key) ⊎ ((from + at < length key) × (get_or key (from + at) 0 < byte)) → from + at ≤ length key
above_within key from at byte is = ⊎_elim (λ (ended : from + at ≡ length key). omega arith) (λ (more : (from + at < length key) × (get_or key (from + at) 0 < byte)). omega (arith, more.0)) is

-- the first word goes on from bytes that were the key's
pub goes_on_same : (key : List ℕ) (from count number word c : ℕ) (r : Compared) → c ≡ min count (8 * number + 8) - 8 * number → 8 * number < count
    → IsCompared (byte_of word) c key (from + 8 * number) r → ComparesWord key from count number word Same (behind (8 * number) r)
goes_on_same key from count number word c r is more compared =
    let whole : 8 * number + c ≡ min count (8 * number + 8) = omega (arith, is, more) in
    record {
      tells = λ w at before. subst (λ (n : ℕ). IsCompared (packed w 2) n key from (behind (8 * number) r)) whole
          (word_compared w 2 number word c key from r compared at (omega (arith, is)) before);
      within = within r compared whole;
    }
  where
    within : (r : Compared) → IsCompared (byte_of word) c key (from + 8 * number) r → 8 * number + c ≡ min count (8 * number + 8) → IsWithin key from (min count (8 * number + 8)) (behind (8 * number) r)
    within Same compared whole = let low = compared.within in omega (arith, low, whole)
    within (Below at) compared whole = (omega (arith, compared.0, whole), omega (arith, compared.2))
    within (Above at) compared whole = (omega (arith, compared.0, whole), omega (arith, above_within key (from + 8 * number) at (byte_of word at) compared.2))

-- ---- and the byte where they part

-- where bytes part, the comparison of more of them ends as that of fewer
still_parted : (bytes : ℕ → ℕ) (fewer count : ℕ) (key : List ℕ) (r : Compared) → fewer ≤ count → r ≢ Same → IsCompared bytes fewer key 0 r → IsCompared bytes count key 0 r
still_parted bytes fewer count key Same more parts is = absurd (parts (λ i. Same))
still_parted bytes fewer count key (Below at) more parts is = (omega (arith, is.0), is.1, is.2, is.3)
still_parted bytes fewer count key (Above at) more parts is = (omega (arith, is.0), is.1, is.2)

-- a byte that is packed behind the words before is one of the word with the number
byte_behind : (w : Words) (number at : ℕ) → 8 * number ≤ at → at < 8 * number + 8 → packed w 2 at ≡ byte_of (w (2 + number)) (at % 8)
unfolding packed
byte_behind w number at after low = ap (λ (i : ℕ). byte_of (w (2 + i)) (at % 8)) (let is : at / 8 ≡ number = omega arith in is)

module _ (w : Words) (key : List ℕ) (count number word : ℕ) (is : w (2 + number) ≡ word) (more : 8 * number < count) where
  -- bytes that part, where those before are the same, part in the next word
  parts_behind : (at : ℕ) → AreSame (packed w 2) (8 * number) key 0 → (at < length key → packed w 2 at ≢ get_or key (0 + at) 0) → 8 * number ≤ at
  parts_behind at same other = elim (cases_lt at (8 * number)) [
    | inl before ↦ absurd (other (omega (arith, same.within, before)) (same.same at before))
    | inr behind ↦ behind
  ]

  -- and there it is one of the word's bytes
  first_byte : (r : Compared) → AreSame (packed w 2) (8 * number) key 0 → IsCompared (packed w 2) (min count (8 * number + 8)) key 0 r → HasByte (packed w 2) r (byte_in r word)
  first_byte Same same compared = tt
  first_byte (Below at) same compared =
      byte_behind w number at (parts_behind at same (λ low. below_other (packed w 2) (min count (8 * number + 8)) key 0 at compared)) (omega (arith, compared.0)) ∙ ap (λ (x : ℕ). byte_of x (at % 8)) is
  first_byte (Above at) same compared =
      byte_behind w number at (parts_behind at same (λ low. above_other (packed w 2) (min count (8 * number + 8)) key 0 at (omega (arith, low)) compared)) (omega (arith, compared.0)) ∙ ap (λ (x : ℕ). byte_of x (at % 8)) is

  -- else it stays
  same_byte : (before r : Compared) (byte : ℕ) → before ≢ Same → IsCompared (packed w 2) (8 * number) key 0 before → IsCompared (packed w 2) (min count (8 * number + 8)) key 0 r
      → HasByte (packed w 2) before byte → HasByte (packed w 2) r byte
  same_byte before r byte parts old compared has =
      subst (λ (c : Compared). HasByte (packed w 2) c byte)
      (one_result (packed w 2) (min count (8 * number + 8)) key 0 before r (still_parted (packed w 2) (8 * number) (min count (8 * number + 8)) key before (omega (arith, more)) parts old) compared)
      has

  byte_goes_on : (before r : Compared) (byte : ℕ) → IsCompared (packed w 2) (8 * number) key 0 before → IsCompared (packed w 2) (min count (8 * number + 8)) key 0 r
      → HasByte (packed w 2) before byte → HasByte (packed w 2) r (byte_after before byte r word)
  byte_goes_on Same r byte old compared has = first_byte r old compared
  byte_goes_on (Below at) r byte old compared has = same_byte (Below at) r byte (λ e. cc) old compared has
  byte_goes_on (Above at) r byte old compared has = same_byte (Above at) r byte (λ e. cc) old compared has

pub beside_goes_on : (key : List ℕ) (count number word : ℕ) (before : Beside) (r : Compared) → 8 * number < count → ComparesWord key 0 count number word before.compared r
    → TellsBeside key count number word before (record { compared = r; byte = byte_after before.compared before.byte r word })
beside_goes_on key count number word before r more tells = record {
  tells = λ w is old.
      let compared = tells.tells w is old.compared in
      record { compared = compared; byte = byte_goes_on w key count number word is more before.compared r before.byte old.compared compared old.byte };
  within = tells.within;
}
