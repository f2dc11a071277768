-- The words that are known: none, one more, and that at a place.
use Rattle.std.proofs.Common.{◌≡◌, ◌≢◌, ℕ, zero, suc, ◌+◌, ◌-◌, ◌*◌, ◌/◌, ◌%◌, ◌^◌, ◌<◌, ◌≤◌, List, length, get_or, max, set, replicate, Option, Some, None, cond, eqb, refl, sym, ap, ap₂, ◌∙◌, inl, inr, arith, eq-eqb, ne_eqb, get_or-set_other, get_or-set_same}
use Rattle.std.proofs.lemmas.Bool.{cases_eq, cases_lt}
use Rattle.std.proofs.lemmas.List.{length-set, length-replicate, get_or_past, get_or-replicate}
use Rattle.std.proofs.lemmas.List.FromFn.{length-map-range_with_len, get_or-map-range_with_len, fill_by_all}
use Rattle.std.proofs.lemmas.Nat.Bits.{bit_at-lt, bit_at-pow_other, bit_at-zero, bit_at_or, bit_at_mask_above, bit_at_mask_below, bit_at_mask_inside, bit_at_set_same, bit_at_set_other}
use Rattle.std.specs.Prelude.{unwrap_or}
use Rattle.std.specs.Int.{w64, bit_at}
use Rattle.std.specs.Int.RustNames.{bit_or}
use Rattle.art_cell.specs.Reads.{AreNoted}
use Rattle.art_cell.specs.KnownWords.{known_bit, known_word, known_words}

module _ (words bits : List ℕ) where
  length-known_words : length (known_words words bits) ≡ 266
  unfolding known_words
  length-known_words = length-map-range_with_len (known_word words bits) 0 266

  -- the word at a place, and none past the last
  pub at_place : (place : ℕ) → place < 266 → get_or (known_words words bits) place None ≡ known_word words bits place
  unfolding known_words
  at_place place low = get_or-map-range_with_len (known_word words bits) 0 266 place place None low (omega arith)

  pub past_places : (place : ℕ) → 266 ≤ place → get_or (known_words words bits) place None ≡ None
  past_places place high = get_or_past (known_words words bits) place None (omega (arith, length-known_words))

-- words are known as a list says
same_words : (words bits : List ℕ) (xs : List (Option ℕ)) → length xs ≡ 266 → ((place : ℕ) → place < 266 → get_or xs place None ≡ known_word words bits place) → known_words words bits ≡ xs
unfolding known_words
same_words words bits xs long each = sym (fill_by_all (known_word words bits) xs 266 None long each)

no_bits : (n place : ℕ) → get_or {A = ℕ} (replicate n 0) place 0 ≡ 0
no_bits zero place = refl
no_bits (suc n) zero = refl
no_bits (suc n) (suc place) = no_bits n place

unknown : (words bits : List ℕ) (place : ℕ) → known_bit bits place ≢ 1 → known_word words bits place ≡ None
unknown words bits place none = rw (ne_eqb (known_bit bits place) 1 none) refl

known : (words bits : List ℕ) (place : ℕ) → known_bit bits place ≡ 1 → known_word words bits place ≡ Some (get_or words place 0)
known words bits place is = rw (eq-eqb (known_bit bits place) 1 is) refl

-- what is read at a place whose bit is set, at one whose bit is not, and past the last
pub read_known : (words bits : List ℕ) (xs : List (Option ℕ)) (place : ℕ) → known_words words bits ≡ xs → place < 266 → known_bit bits place ≡ 1 → Some (get_or words place 0) ≡ get_or xs place None
read_known words bits xs place same low is = sym (at_place words bits place low ∙ known words bits place is) ∙ ap (λ (ys : List (Option ℕ)). get_or ys place None) same

pub read_unknown : (words bits : List ℕ) (xs : List (Option ℕ)) (place : ℕ) → known_words words bits ≡ xs → place < 266 → known_bit bits place ≢ 1 → None ≡ get_or xs place None
read_unknown words bits xs place same low none = sym (at_place words bits place low ∙ unknown words bits place none) ∙ ap (λ (ys : List (Option ℕ)). get_or ys place None) same

pub read_past : (words bits : List ℕ) (xs : List (Option ℕ)) (place : ℕ) → known_words words bits ≡ xs → 266 ≤ place → None ≡ get_or xs place None
read_past words bits xs place same high = sym (past_places words bits place high) ∙ ap (λ (ys : List (Option ℕ)). get_or ys place None) same

-- with no bit nothing is known
pub none_known : (words : List ℕ) → known_words words (replicate 5 0) ≡ replicate 266 None
none_known words = same_words words (replicate 5 0) (replicate 266 None) (length-replicate {A = Option ℕ} 266 None) each
  where
    no_bit : (place : ℕ) → known_bit (replicate 5 0) place ≢ 1
    no_bit place e = let zero_bit = ap (λ (n : ℕ). bit_at n (place % 64)) (no_bits 5 (place / 64)) ∙ bit_at-zero (place % 64) in omega (arith, zero_bit, e)

    each : (place : ℕ) → place < 266 → get_or (replicate 266 None) place None ≡ known_word words (replicate 5 0) place
    each place low =
        get_or-replicate 266 place None None low
        ∙ sym (unknown words (replicate 5 0) place (λ e. no_bit place e))

-- the bits with that of a place set
abbrev pub with_bit : List ℕ → ℕ → List ℕ
with_bit bits place = set bits (place / 64) (bit_or (get_or bits (place / 64) 0) (1 * 2 ^ (place % 64) % 2 ^ 64))

bit_here : (bits : List ℕ) (place : ℕ) → place / 64 < length bits → known_bit (with_bit bits place) place ≡ 1
bit_here bits place within =
    let n = get_or bits (place / 64) 0 in
    ap (λ (m : ℕ). bit_at m (place % 64)) (get_or-set_same bits (place / 64) (bit_or n (1 * 2 ^ (place % 64) % 2 ^ 64)) 0 within)
    ∙ bit_at_set_same w64 n (place % 64) (omega arith)

bit_elsewhere : (bits : List ℕ) (place p : ℕ) → place / 64 < length bits → p ≢ place → known_bit (with_bit bits place) p ≡ known_bit bits p
bit_elsewhere bits place p within apart =
    let n = get_or bits (place / 64) 0 in
    let m = bit_or n (1 * 2 ^ (place % 64) % 2 ^ 64) in
    elim (cases_eq (p / 64) (place / 64)) [
      | inl here ↦
          let other : p % 64 ≢ place % 64 = (λ e. apart (omega (arith, e, here))) in
          ap (λ (q : ℕ). bit_at (get_or (set bits (place / 64) m) q 0) (p % 64)) here
          ∙ ap (λ (k : ℕ). bit_at k (p % 64)) (get_or-set_same bits (place / 64) m 0 within)
          ∙ bit_at_set_other w64 n (place % 64) (omega arith) (p % 64) other
          ∙ ap (λ (q : ℕ). bit_at (get_or bits q 0) (p % 64)) (sym here)
      | inr other ↦ ap (λ (k : ℕ). bit_at k (p % 64)) (get_or-set_other bits (place / 64) (p / 64) m 0 other)
    ]

-- a word that is noted
pub one_more_known : (words bits : List ℕ) (place word : ℕ) → place < length words → place < 266 → place / 64 < length bits
    → known_words (set words place word) (with_bit bits place) ≡ set (known_words words bits) place (Some word)
one_more_known words bits place word within low bit_within =
    same_words (set words place word) (with_bit bits place) (set xs place (Some word)) (length-set xs place (Some word) ∙ length-known_words words bits) each
  where
    xs : List (Option ℕ)
    xs = known_words words bits

    each : (p : ℕ) → p < 266 → get_or (set xs place (Some word)) p None ≡ known_word (set words place word) (with_bit bits place) p
    each p below =
        elim (cases_eq p place) [
          | inl here ↦
              ap (λ (q : ℕ). get_or (set xs place (Some word)) q None) here
              ∙ get_or-set_same xs place (Some word) None (omega (arith, length-known_words words bits))
              ∙ sym (known (set words place word) (with_bit bits place) place (bit_here bits place bit_within) ∙ ap (λ (n : ℕ). Some n) (get_or-set_same words place word 0 within))
              ∙ ap (known_word (set words place word) (with_bit bits place)) (sym here)
          | inr apart ↦
              get_or-set_other xs place p (Some word) None apart
              ∙ at_place words bits p below
              ∙ ap₂ (λ (n v : ℕ). cond (eqb n 1) (Some v) None) (sym (bit_elsewhere bits place p bit_within apart)) (sym (get_or-set_other words place p word 0 apart))
        ]

-- ---- runs of places

module _ (bits : List ℕ) (place i : ℕ) (low : place % 64 + i < 64) where
  -- the bits of a run stand one after another
  pub bit_of_run : bit_at (get_or bits (place / 64) 0) (place % 64 + i) ≡ known_bit bits (place + i)
  bit_of_run =
      let group : place / 64 ≡ (place + i) / 64 = omega (arith, low) in
      let bit : place % 64 + i ≡ (place + i) % 64 = omega (arith, low) in
      ap (bit_at (get_or bits (place / 64) 0)) bit ∙ ap (λ (g : ℕ). bit_at (get_or bits g 0) ((place + i) % 64)) group

  -- where one is not set, the word is not known
  pub none_of_run : (words : List ℕ) (xs : List (Option ℕ)) → known_words words bits ≡ xs → bit_at (get_or bits (place / 64) 0) (place % 64 + i) ≡ 0 → get_or xs (place + i) None ≡ None
  none_of_run words xs same zero_bit =
      let no_bit : known_bit bits (place + i) ≢ 1 = (λ e. let is = sym bit_of_run ∙ zero_bit in omega (arith, is, e)) in
      elim (cases_lt (place + i) 266) [
        | inl inside ↦ sym (read_unknown words bits xs (place + i) same inside no_bit)
        | inr past ↦ sym (read_past words bits xs (place + i) same past)
      ]

-- what was not read has no bit
pub no_bit_of_none : (words bits : List ℕ) (xs : List (Option ℕ)) (place : ℕ) → known_words words bits ≡ xs → place < 266 → get_or xs place None ≡ None → known_bit bits place ≡ 0
no_bit_of_none words bits xs place same low none = elim (cases_eq (known_bit bits place) 1) [
  | inl one ↦ let no : Some (get_or words place 0) ≡ None = read_known words bits xs place same low one ∙ none in cc
  | inr other ↦ let two = bit_at-lt (get_or bits (place / 64) 0) (place % 64) in omega (arith, two, other)
]

-- the bits with those of a run set
abbrev pub with_bits : List ℕ → ℕ → ℕ → List ℕ
with_bits bits place m = set bits (place / 64) (bit_or (get_or bits (place / 64) 0) m)

module _ (words words' bits run : List ℕ) (place m : ℕ) (within : place % 64 + length run ≤ 64) (few : place + length run ≤ 266) (group : place / 64 < length bits)
    (is : m ≡ 2 ^ (place % 64 + length run) - 2 ^ (place % 64)) where
  or_of : (p : ℕ) → p / 64 ≡ place / 64 → known_bit (with_bits bits place m) p ≡ max (known_bit bits p) (bit_at m (p % 64))
  or_of p here =
      let n = get_or bits (place / 64) 0 in
      ap (λ (q : ℕ). bit_at (get_or (with_bits bits place m) q 0) (p % 64)) here
      ∙ ap (λ (k : ℕ). bit_at k (p % 64)) (get_or-set_same bits (place / 64) (bit_or n m) 0 group)
      ∙ bit_at_or n m (p % 64)
      ∙ ap (λ (q : ℕ). max (bit_at (get_or bits q 0) (p % 64)) (bit_at m (p % 64))) (sym here)

  bit_inside : (i : ℕ) → i < length run → known_bit (with_bits bits place m) (place + i) ≡ 1
  bit_inside i low =
      let p = place + i in
      let set_bit : bit_at m (p % 64) ≡ 1 = ap (λ (k : ℕ). bit_at k (p % 64)) is ∙ bit_at_mask_inside (place % 64) (place % 64 + length run) (p % 64) (omega (arith, low, within)) (omega (arith, low, within)) in
      let two = bit_at-lt (get_or bits (p / 64) 0) (p % 64) in
      let both = or_of p (omega (arith, low, within)) in
      omega (arith, both, set_bit, two)

  -- a bit that is no bit of the run stays
  kept_bit : (p : ℕ) → (p / 64 ≡ place / 64 → bit_at m (p % 64) ≡ 0) → known_bit (with_bits bits place m) p ≡ known_bit bits p
  kept_bit p apart = elim (cases_eq (p / 64) (place / 64)) [
    | inl here ↦ let none = apart here in let both = or_of p here in omega (arith, both, none)
    | inr other ↦ ap (λ (k : ℕ). bit_at k (p % 64)) (get_or-set_other bits (place / 64) (p / 64) (bit_or (get_or bits (place / 64) 0) m) 0 other)
  ]

  bit_below : (p : ℕ) → p < place → known_bit (with_bits bits place m) p ≡ known_bit bits p
  bit_below p low = kept_bit p (λ here. ap (λ (k : ℕ). bit_at k (p % 64)) is ∙ bit_at_mask_below (place % 64) (place % 64 + length run) (p % 64) (omega (arith, low, here)))

  bit_above : (p : ℕ) → place + length run ≤ p → known_bit (with_bits bits place m) p ≡ known_bit bits p
  bit_above p high = kept_bit p (λ here. ap (λ (k : ℕ). bit_at k (p % 64)) is ∙ bit_at_mask_above (place % 64) (place % 64 + length run) (p % 64) (omega (arith, high, here)))

  module _ (here : (i : ℕ) → i < length run → get_or words' (place + i) 0 ≡ get_or run i 0) (below : (p : ℕ) → p < place → get_or words' p 0 ≡ get_or words p 0)
      (above : (p : ℕ) → place + length run ≤ p → get_or words' p 0 ≡ get_or words p 0) where
    -- a word stays where its bit does
    kept_word : (p : ℕ) → known_bit (with_bits bits place m) p ≡ known_bit bits p → get_or words' p 0 ≡ get_or words p 0
        → get_or (known_words words' (with_bits bits place m)) p None ≡ get_or (known_words words bits) p None
    kept_word p bit word = elim (cases_lt p 266) [
      | inl inside ↦
          at_place words' (with_bits bits place m) p inside
          ∙ ap₂ (λ (n v : ℕ). cond (eqb n 1) (Some v) None) bit word
          ∙ sym (at_place words bits p inside)
      | inr past ↦ past_places words' (with_bits bits place m) p past ∙ sym (past_places words bits p past)
    ]

    -- a run of words that is noted
    pub run_noted : AreNoted place run (known_words words bits) (known_words words' (with_bits bits place m))
    run_noted = record {
      room = length-known_words words' (with_bits bits place m) ∙ sym (length-known_words words bits);
      here = λ i low.
          at_place words' (with_bits bits place m) (place + i) (omega (arith, low, few))
          ∙ known words' (with_bits bits place m) (place + i) (bit_inside i low)
          ∙ ap (λ (n : ℕ). Some n) (here i low);
      below = λ p low. kept_word p (bit_below p low) (below p low);
      above = λ p high. kept_word p (bit_above p high) (above p high);
    }

-- where all bits up to one are set, but perhaps the first, all words up to it but the first are known
pub known_of_full : (words bits : List ℕ) (xs : List (Option ℕ)) (place count : ℕ) → known_words words bits ≡ xs → bit_or (get_or bits (place / 64) 0) 1 ≡ 2 ^ count - 2 ^ 0
    → place % 64 ≢ 0 → place % 64 < count → place < 266 → get_or words place 0 ≡ unwrap_or (get_or xs place None) 0
known_of_full words bits xs place count same full later below low =
    let n = get_or bits (place / 64) 0 in
    let i = place % 64 in
    let one : bit_at (bit_or n 1) i ≡ 1 = ap (λ (m : ℕ). bit_at m i) full ∙ bit_at_mask_inside 0 count i (omega arith) below in
    let none : bit_at 1 i ≡ 0 = bit_at-pow_other 0 i later in
    let both = bit_at_or n 1 i in
    let bit : known_bit bits place ≡ 1 = omega (arith, one, none, both) in
    ap (λ (o : Option ℕ). unwrap_or o 0) (read_known words bits xs place same low bit)
