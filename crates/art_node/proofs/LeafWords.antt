-- What the words of a leaf mean, as they are written and as they are read.
use Rattle.std.proofs.Common.{◌≡◌, ℕ, Bool, true, false, cond, ltb, ltb-false, le-ltb, zero, suc, ◌+◌, ◌/◌, ◌%◌, ◌<◌, ◌≤◌, List, ◌∷◌, length, get_or, map, Option, Some, None, refl, sym, ap, ap₂, ◌∙◌, inl, inr, arith, eq-eqb, ne_eqb}
use Rattle.std.proofs.lemmas.Bool.{cases_lt}
use Rattle.std.specs.List.{range_with_len}
use Rattle.std.specs.Option.{IfSome, option_map, option_and_then}
use Rattle.arrayvec.specs.ArrayVec.{ArrayVec}
use Rattle.art_cell.specs.Words.{Words, byte_of, packed, prefix_of}
use Rattle.art_cell.specs.Lemmas.LeafWords.{words_mean_leaf}
use Rattle.art_cell.specs.Reads.{word_read, Agrees, written}
use Rattle.art_cell.specs.Leaves.{IsLeaf, leaf_word, leaf_writes, key_byte_read, key_read, key_of_length, leaf_read, MeansLeaf}

-- ---- written

-- each place of a range is written with its own word
written_range : (w f : Words) (a n p : ℕ) → a ≤ p → p < a + n → written w (map (λ q. record { place = q; value = f q }) (range_with_len a n)) p ≡ f p
written_range w f a zero p low high = absurd (omega arith)
written_range w f a (suc n) p low high =
    elim (cases_lt a p) [
      | inl past ↦ rw (ne_eqb a p (λ e. omega arith)) (written_range w f (a + 1) n p (omega arith) (omega arith))
      | inr le ↦
          let here : a ≡ p = omega arith in
          rw (eq-eqb a p here) (ap f here)
    ]

leaf_written : (w : Words) (key : List ℕ) (value p : ℕ) → p < 10 → written w (leaf_writes key value) p ≡ leaf_word key value p
leaf_written w key value p low = written_range w (leaf_word key value) 0 10 p (omega arith) low

pub leaf_is_written : (w : Words) (key : List ℕ) (value : ℕ) → ((i : ℕ) → get_or key i 0 < 256) → length key ≤ 64 → IsLeaf (written w (leaf_writes key value)) key value
leaf_is_written w key value bytes few = words_mean_leaf (written w (leaf_writes key value)) key value (λ i low. leaf_written w key value i low) bytes few

-- ---- read

byte_read : (reads : List (Option ℕ)) (w : Words) (i b : ℕ) → Agrees reads w → key_byte_read reads i ≡ Some b → b ≡ packed w 2 i
unfolding packed
byte_read reads w i b agrees e = by_word (word_read reads (2 + i / 8)) refl e
  where
    by_word : (o : Option ℕ) → word_read reads (2 + i / 8) ≡ o → option_map (λ word. byte_of word (i % 8)) o ≡ Some b → b ≡ byte_of (w (2 + i / 8)) (i % 8)
    by_word None is e = absurd cc
    by_word (Some word) is e = let same : byte_of word (i % 8) ≡ b = cc in sym same ∙ ap (λ (x : ℕ). byte_of x (i % 8)) (sym (agrees (2 + i / 8) word is))

key_is_read : (reads : List (Option ℕ)) (w : Words) (from n : ℕ) (bytes : List ℕ) → Agrees reads w → key_read reads from n ≡ Some bytes → bytes ≡ map (packed w 2) (range_with_len from n)
key_is_read reads w from zero bytes agrees e = cc
key_is_read reads w from (suc n) bytes agrees e = by_first (key_byte_read reads from) (key_read reads (from + 1) n) refl (λ others is. key_is_read reads w (from + 1) n others agrees is) e
  where
    by_first : (first : Option ℕ) (rest : Option (List ℕ)) → key_byte_read reads from ≡ first → ((others : List ℕ) → rest ≡ Some others → others ≡ map (packed w 2) (range_with_len (from + 1) n))
        → option_and_then (λ b. option_map (λ bs. b ∷ bs) rest) first ≡ Some bytes → bytes ≡ packed w 2 from ∷ map (packed w 2) (range_with_len (from + 1) n)
    by_first None rest is others e = absurd cc
    by_first (Some b) None is others e = absurd cc
    by_first (Some b) (Some bs) is others e =
        let same : b ∷ bs ≡ bytes = cc in
        sym same ∙ ap₂ (λ (c : ℕ) (cs : List ℕ). c ∷ cs) (byte_read reads w from b agrees is) (others bs refl)

pub leaf_is_read : (reads : List (Option ℕ)) (w : Words) (leaf : List ℕ × ℕ) → Agrees reads w → leaf_read reads ≡ Some leaf → MeansLeaf w leaf
leaf_is_read reads w leaf agrees e = by_words (word_read reads 0) (word_read reads 1) refl refl e
  where
    by_key : (n value : ℕ) (long : Bool) → ltb 64 n ≡ long → w 0 ≡ value → w 1 ≡ n → option_map (λ key. (key, value)) (cond long None (key_read reads 0 n)) ≡ Some leaf → MeansLeaf w leaf
    by_key n value true is zero-is one-is e = absurd cc
    by_key n value false is zero-is one-is e = by_bytes (key_read reads 0 n) refl e
      where
        by_bytes : (o : Option (List ℕ)) → key_read reads 0 n ≡ o → option_map (λ key. (key, value)) o ≡ Some leaf → MeansLeaf w leaf
        by_bytes None is-read e = absurd cc
        by_bytes (Some key) is-read e =
            let same : (key, value) ≡ leaf = cc in
            record {
              key = sym (ap (λ (l : List ℕ × ℕ). l.0) same) ∙ key_is_read reads w 0 n key agrees is-read ∙ ap (λ (m : ℕ). map (packed w 2) (range_with_len 0 m)) (sym one-is);
              value = sym (ap (λ (l : List ℕ × ℕ). l.1) same) ∙ sym zero-is;
              short = omega (arith, one-is, ltb-false 64 n is);
            }

    by_words : (first second : Option ℕ) → word_read reads 0 ≡ first → word_read reads 1 ≡ second
        → option_and_then (λ value. option_map (λ key. (key, value)) (option_and_then (key_of_length reads) second)) first ≡ Some leaf → MeansLeaf w leaf
    by_words None second first-is second-is e = absurd cc
    by_words (Some value) None first-is second-is e = absurd cc
    by_words (Some value) (Some n) first-is second-is e = by_key n value (ltb 64 n) refl (agrees 0 value first-is) (agrees 1 n second-is) e

pub leaf_read_is : (reads : List (Option ℕ)) (value n : ℕ) (key : List ℕ) → word_read reads 0 ≡ Some value → word_read reads 1 ≡ Some n → n ≤ 64 → key_read reads 0 n ≡ Some key → leaf_read reads ≡ Some (key, value)
leaf_read_is reads value n key zero-is one-is short read = rw (zero-is, one-is, le-ltb 64 n short, read) refl

-- ---- the prefix of a node

pub prefix_is_read : (reads : List (Option ℕ)) (header n : ℕ) (r : Option (ArrayVec ℕ)) → word_read reads 1 ≡ Some header → n ≡ header / 512 % 128 → option_map (λ key. key.items) r ≡ key_read reads 0 n
    → IfSome r (λ bytes. (w : Words) → Agrees reads w → bytes.items ≡ prefix_of w)
prefix_is_read reads header n None header-is n-is e = tt
prefix_is_read reads header n (Some bytes) header-is n-is e = λ w agrees.
    key_is_read reads w 0 n bytes.items agrees (sym e)
    ∙ ap (λ (m : ℕ). map (packed w 2) (range_with_len 0 m)) (n-is ∙ ap (λ (h : ℕ). h / 512 % 128) (sym (agrees 1 header header-is)))
