-- Two words, the first bytes of which are compared by the highest bit in which they differ.
use Rattle.std.proofs.Common.{◌≡◌, ◌≢◌, inl, inr, ℕ, zero, suc, ◌+◌, ◌-◌, ◌*◌, ◌/◌, ◌%◌, ◌^◌, ◌<◌, ◌≤◌, List, length, get_or, take, drop, refl, sym, ap, ◌∙◌, arith}
use Rattle.std.proofs.lemmas.Bool.{cases_lt}
use Rattle.std.proofs.lemmas.List.{get_or-drop, get_or-take, get_or_past, length-take-le, length-drop}
use Rattle.std.proofs.lemmas.Nat.{and_le_l, and_le_r, be_bytes_8, div_below, leading_length, mod_below, pow_pos, shr-shr, shr_split, xor_lt, xor_shr}
use Rattle.std.proofs.Math.Nat.{pow-suc}
use Rattle.std.proofs.Math.Pow.{pow_mono, shr_mono}
use Rattle.std.specs.Int.{w64, to_be_bytes, from_be_bytes}
use Rattle.std.specs.Int.Bits.{bit_xor, xor_add_and, xor_self}
use Rattle.std.specs.Int.Count.{count_leading_zeros}
use Rattle.art_cell.specs.Lemmas.Packed.{byte_of-to_be_bytes}
use Rattle.art_cell.specs.Words.{byte_of}
use Rattle.art_path.specs.declared.compared.Compared.{Compared}
use Rattle.art_path.specs.declared.compared.Compared.TheVariants.{Below, Above}
use Rattle.art_path.specs.Compared.{AreSame, IsCompared}
use Rattle.art_path.proofs.Comparing.{compared_text}

-- ---- by bits

same_from_xor : (a b : ℕ) → bit_xor a b ≡ 0 → a ≡ b
same_from_xor a b none = omega (arith, xor_add_and a b, and_le_l a b, and_le_r a b, none)

-- two numbers have the same bits from the m-th on, and not from any before it on
record DifferBelow (x y m : ℕ) : Type 0 where
  above : x / 2 ^ m ≡ y / 2 ^ m
  apart : (k : ℕ) → k < m → x / 2 ^ k ≢ y / 2 ^ k

turned : (x y m : ℕ) → DifferBelow x y m → DifferBelow y x m
turned x y m d = record { above = sym d.above; apart = λ k low e. d.apart k low (sym e) }

same_above : (d m : ℕ) → d < 2 ^ m → d / 2 ^ m ≡ 0
same_above d m low = let none : d / 2 ^ m < 1 = div_below d (2 ^ m) 1 (pow_pos m) (omega arith) in omega arith

not_below : (d m k : ℕ) → 2 ^ m ≤ 2 * d + 1 → k < m → d / 2 ^ k ≡ 0 → ⊥
not_below d m k high low none =
    let split : d / 2 ^ k * 2 ^ k + d % 2 ^ k ≡ d = shr_split d k in
    let no_high : d / 2 ^ k * 2 ^ k ≡ 0 = ap (λ (n : ℕ). n * 2 ^ k) none ∙ omega arith in
    let rest : d % 2 ^ k < 2 ^ k = mod_below d (2 ^ k) (pow_pos k) in
    let twice : 2 ^ suc k ≡ 2 ^ k * 2 = pow-suc 2 k in
    let more : 2 ^ suc k ≤ 2 ^ m = pow_mono (omega arith) in
    omega (arith, split, no_high, rest, twice, more, high)

-- so many leading zeros stand in front of the highest bit in which two words differ
differ_below : (x y : ℕ) → x < 2 ^ 64 → y < 2 ^ 64 → (m : ℕ) × (count_leading_zeros 64 (bit_xor x y) + m ≡ 64) × DifferBelow x y m
differ_below x y small small' =
    let d = bit_xor x y in
    let t = leading_length 64 d (xor_lt 64 x y small small') in
    let m = t.0 in (
      m,
      t.1,
      record {
        above = same_from_xor (x / 2 ^ m) (y / 2 ^ m) (sym (xor_shr x y m) ∙ same_above d m t.2);
        apart = λ k low e. not_below d m k t.3 low (xor_shr x y k ∙ ap (λ (n : ℕ). bit_xor n (y / 2 ^ k)) e ∙ xor_self (y / 2 ^ k));
      },
    )

-- ---- by bytes

powers : (i : ℕ) → i < 8 → 256 ^ (7 - i) ≡ 2 ^ (56 - 8 * i)
powers zero low = refl
powers (suc zero) low = refl
powers (suc (suc zero)) low = refl
powers (suc (suc (suc zero))) low = refl
powers (suc (suc (suc (suc zero)))) low = refl
powers (suc (suc (suc (suc (suc zero))))) low = refl
powers (suc (suc (suc (suc (suc (suc zero)))))) low = refl
powers (suc (suc (suc (suc (suc (suc (suc zero))))))) low = refl
powers (suc (suc (suc (suc (suc (suc (suc (suc i)))))))) low = absurd (omega arith)

byte_of-shift : (word i : ℕ) → i < 8 → byte_of word i ≡ word / 2 ^ (56 - 8 * i) % 256
byte_of-shift word i low = ap (λ (n : ℕ). word / n % 256) (powers i low)

shifted : (x y m k : ℕ) → m ≤ k → x / 2 ^ m ≡ y / 2 ^ m → x / 2 ^ k ≡ y / 2 ^ k
shifted x y m k le same = sym (on x) ∙ ap (λ (n : ℕ). n / 2 ^ (k - m)) same ∙ on y
  where
    on : (n : ℕ) → n / 2 ^ m / 2 ^ (k - m) ≡ n / 2 ^ k
    on n = shr-shr n m (k - m) ∙ ap (λ (j : ℕ). n / 2 ^ j) (omega arith)

-- the bytes above the bit are the same
byte_before : (x y m i : ℕ) → DifferBelow x y m → m + 8 * (i + 1) ≤ 64 → byte_of x i ≡ byte_of y i
byte_before x y m i d high =
    byte_of-shift x i (omega arith) ∙ ap (λ (n : ℕ). n % 256) (shifted x y m (56 - 8 * i) (omega arith) d.above) ∙ sym (byte_of-shift y i (omega arith))

next_byte : (x y k : ℕ) → x / 2 ^ (k + 8) ≡ y / 2 ^ (k + 8) → x / 2 ^ k / 256 ≡ y / 2 ^ k / 256
next_byte x y k same = shr-shr x k 8 ∙ same ∙ sym (shr-shr y k 8)

low_bytes : (a b : ℕ) → a ≤ b → a ≢ b → a / 256 ≡ b / 256 → a % 256 < b % 256
low_bytes a b le apart same = omega arith

-- the byte that has the bit has the order of the words
byte_there : (x y m at : ℕ) → DifferBelow x y m → m + 8 * at ≤ 64 → 56 < m + 8 * at → at < 8 → x < y → byte_of x at < byte_of y at
byte_there x y m at d high low few less =
    let k = 56 - 8 * at in
    let le : x / 2 ^ k ≤ y / 2 ^ k = shr_mono k (omega arith) in
    let same : x / 2 ^ k / 256 ≡ y / 2 ^ k / 256 = next_byte x y k (shifted x y m (k + 8) (omega arith) d.above) in
    let lower : x / 2 ^ k % 256 < y / 2 ^ k % 256 = low_bytes (x / 2 ^ k) (y / 2 ^ k) le (d.apart k (omega arith)) same in
    omega (arith, lower, byte_of-shift x at few, byte_of-shift y at few)

-- ---- the bytes of one word beside those of another

-- byte i of the word that is compared with
there : (y i : ℕ) → i < 8 → byte_of y i ≡ get_or (to_be_bytes w64 y) (0 + i) 0
there y i low = byte_of-to_be_bytes y i low ∙ ap (λ (j : ℕ). get_or (to_be_bytes w64 y) j 0) (omega arith)

front_same : (x y m count : ℕ) → DifferBelow x y m → m + 8 * count ≤ 64 → AreSame (byte_of x) count (to_be_bytes w64 y) 0
front_same x y m count d high = record {
  within = omega arith;
  same = λ i low. byte_before x y m i d (omega arith) ∙ there y i (omega arith);
}

pub words_same : (x y count : ℕ) → x < 2 ^ 64 → y < 2 ^ 64 → count ≤ 8 → count ≤ count_leading_zeros 64 (bit_xor x y) / 8 → AreSame (byte_of x) count (to_be_bytes w64 y) 0
words_same x y count small small' few all =
    let d = differ_below x y small small' in
    front_same x y d.0 count d.2 (omega (arith, d.1))

pub words_below : (x y count at : ℕ) → x < 2 ^ 64 → y < 2 ^ 64 → count ≤ 8 → at ≡ count_leading_zeros 64 (bit_xor x y) / 8 → at < count → x < y → IsCompared (byte_of x) count (to_be_bytes w64 y) 0 (Below at)
words_below x y count at small small' few is low less =
    let d = differ_below x y small small' in
    let lower = byte_there x y d.0 at d.2 (omega (arith, d.1)) (omega (arith, d.1)) (omega arith) less in
    (low, front_same x y d.0 at d.2 (omega (arith, d.1)), omega arith, omega (arith, lower, there y at (omega arith)))

pub words_above : (x y count at : ℕ) → x < 2 ^ 64 → y < 2 ^ 64 → count ≤ 8 → at ≡ count_leading_zeros 64 (bit_xor x y) / 8 → at < count → y ≤ x → IsCompared (byte_of x) count (to_be_bytes w64 y) 0 (Above at)
words_above x y count at small small' few is low not_less =
    let d = differ_below x y small small' in
    let apart : y ≢ x = λ e. d.2.apart (56 - 8 * at) (omega (arith, d.1)) (ap (λ (n : ℕ). n / 2 ^ (56 - 8 * at)) (sym e)) in
    let lower = byte_there y x d.0 at (turned x y d.0 d.2) (omega (arith, d.1)) (omega (arith, d.1)) (omega arith) (omega (arith, apart)) in
    (low, front_same x y d.0 at d.2 (omega (arith, d.1)), inr (omega arith, omega (arith, lower, there y at (omega arith))))

-- ---- eight bytes of a key as a word

-- eight bytes of the key from a place on, and the word that they make
pub record IsLoaded (key : List ℕ) (from : ℕ) (eight : List ℕ) (word : ℕ) : Type 0 where
  pub within : from + 8 ≤ length key
  pub are : eight ≡ take 8 (drop from key)
  pub small : (i : ℕ) → get_or key i 0 < 256
  pub is : word ≡ from_be_bytes w64 eight

loaded_length : (key : List ℕ) (from : ℕ) (eight : List ℕ) (word : ℕ) → IsLoaded key from eight word → length eight ≡ 8
loaded_length key from eight word l = ap length l.are ∙ length-take-le 8 (drop from key) (omega (arith, length-drop from key, l.within))

loaded_byte : (key : List ℕ) (from : ℕ) (eight : List ℕ) (word i : ℕ) → IsLoaded key from eight word → i < 8 → get_or eight i 0 ≡ get_or key (from + i) 0
loaded_byte key from eight word i l low =
    ap (λ (bytes : List ℕ). get_or bytes i 0) l.are ∙ get_or-take 8 (drop from key) i 0 low ∙ get_or-drop from key i 0

loaded_small : (key : List ℕ) (from : ℕ) (eight : List ℕ) (word : ℕ) → IsLoaded key from eight word → (i : ℕ) → get_or eight i 0 < 256
loaded_small key from eight word l i =
    elim (cases_lt i 8) [
      | inl low ↦ omega (arith, loaded_byte key from eight word i l low, l.small (from + i))
      | inr past ↦ omega (arith, get_or_past eight i 0 (omega (arith, loaded_length key from eight word l)))
    ]

-- how bytes stand to those of the word, they stand to the key's
pub loaded_compared : (bytes : ℕ → ℕ) (count : ℕ) (key : List ℕ) (from : ℕ) (eight : List ℕ) (word : ℕ) (r : Compared) → IsLoaded key from eight word → count ≤ 8 → IsCompared bytes count (to_be_bytes w64 word) 0 r → IsCompared bytes count key from r
loaded_compared bytes count key from eight word r l few compared =
    let written : to_be_bytes w64 word ≡ eight = be_bytes_8 eight word (loaded_length key from eight word l) (loaded_small key from eight word l) l.is in
    compared_text bytes count (to_be_bytes w64 word) 0 key from r record {
      within_key = omega arith;
      within_text = omega (arith, l.within);
      same = λ i low.
          ap (λ (bytes : List ℕ). get_or bytes (0 + i) 0) written
          ∙ ap (λ (j : ℕ). get_or eight j 0) (omega arith)
          ∙ loaded_byte key from eight word i l (omega arith);
    } compared
