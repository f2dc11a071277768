-- Ten words that are those of a leaf mean the leaf.
use Rattle.std.proofs.Common.{◌≡◌, ℕ, suc, ◌+◌, ◌*◌, ◌/◌, ◌%◌, ◌<◌, ◌≤◌, List, length, get_or, map, refl, sym, ap, ◌∙◌, inl, inr, arith}
use Rattle.std.proofs.lemmas.Bool.{cases_lt}
use Rattle.std.proofs.lemmas.List.{get_or_past}
use Rattle.std.proofs.lemmas.List.FromFn.{get_or-map-range_with_len, fill_by_all}
use Rattle.std.specs.List.{range_with_len}
use Rattle.art_cell.specs.Leaves.{IsLeaf, leaf_word}
use Rattle.art_cell.specs.Lemmas.Packed.{IsEight, byte_of-from_be_bytes}
use Rattle.art_cell.specs.Words.{Words, byte_of, packed}

module _ (w : Words) (key : List ℕ) (value : ℕ) (words : (i : ℕ) → i < 10 → w i ≡ leaf_word key value i) (bytes : (i : ℕ) → get_or key i 0 < 256) where
  eight_bytes : (from : ℕ) → IsEight (map (λ i. get_or key (from + i) 0) (range_with_len 0 8))
  eight_bytes from = record { eight = refl; small = small }
    where
      small : (i : ℕ) → get_or (map (λ i. get_or key (from + i) 0) (range_with_len 0 8)) i 0 < 256
      small i =
          elim (cases_lt i 8) [
            | inl low ↦ rw (get_or-map-range_with_len (λ j. get_or key (from + j) 0) 0 8 i i 0 low (omega arith)) (bytes (from + i))
            | inr past ↦ rw (get_or_past (map (λ j. get_or key (from + j) 0) (range_with_len 0 8)) i 0 past) (omega arith)
          ]

  -- byte i of the words is byte i of the key, and 0 after its last
  byte_is : (i : ℕ) → i < 64 → packed w 2 i ≡ get_or key i 0
  unfolding packed
  byte_is i low =
      let from = 8 * (i / 8) in
      let at = i % 8 in
      let small : at < 8 = omega arith in
      ap (λ (word : ℕ). byte_of word at) (words (2 + i / 8) (omega arith) ∙ ap (leaf_word key value) (two_more (i / 8)))
      ∙ byte_of-from_be_bytes (map (λ j. get_or key (from + j) 0) (range_with_len 0 8)) at (eight_bytes from) small
      ∙ get_or-map-range_with_len (λ j. get_or key (from + j) 0) 0 8 at at 0 small (omega arith)
      ∙ ap (λ (j : ℕ). get_or key j 0) (omega arith)
    where
      two_more : (n : ℕ) → 2 + n ≡ suc (suc n)
      two_more n = omega arith

  -- they are those of the leaf
  pub words_mean_leaf : length key ≤ 64 → IsLeaf w key value
  words_mean_leaf few = record {
    value = words 0 (omega arith);
    len = len;
    key =
        ap (λ (n : ℕ). map (packed w 2) (range_with_len 0 n)) len
        ∙ sym (fill_by_all (packed w 2) key (length key) 0 refl (λ i low. sym (byte_is i (omega (arith, low, few)))));
    unused = λ i past low. byte_is i low ∙ get_or_past key i 0 past;
  }
    where
      len : w 1 ≡ length key
      len = words 1 (omega arith)
