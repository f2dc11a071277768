-- Bytes that are read word by word, as lists.
use Rattle.std.proofs.Common.{◌≡◌, ℕ, ◌+◌, ◌-◌, ◌*◌, ◌<◌, ◌≤◌, List, ◌++◌, length, get_or, take, map, inl, inr, sym, ap, ◌∙◌, arith, append_assoc, length-append}
use Rattle.std.specs.List.{range_with_len}
use Rattle.std.proofs.lemmas.Bool.{cases_lt}
use Rattle.std.proofs.lemmas.List.{get_or-append-add, get_or_append_left, get_or-take, length-take-le}
use Rattle.std.proofs.lemmas.List.FromFn.{fill_by_all, get_or-map-range_with_len, length-map-range_with_len}
use Rattle.art_cell.specs.Words.{Words, byte_of, packed}
use Rattle.art_path.proofs.PackedTexts.{packed_on}

-- what goes on with the next ones of a row is the row so far
row_on : (f g : ℕ → ℕ) (a c : ℕ) → ((j : ℕ) → j < c → g j ≡ f (a + j)) → map f (range_with_len 0 a) ++ map g (range_with_len 0 c) ≡ map f (range_with_len 0 (a + c))
row_on f g a c next =
    let xs = map f (range_with_len 0 a) in
    let ys = map g (range_with_len 0 c) in
    let first : length xs ≡ a = length-map-range_with_len f 0 a in
    let second : length ys ≡ c = length-map-range_with_len g 0 c in
    fill_by_all f (xs ++ ys) (a + c) 0 (omega (arith, length-append xs ys, first, second)) (λ k low.
    elim (cases_lt k a) [
      | inl less ↦ get_or_append_left xs ys 0 k (omega (arith, less, first)) ∙ get_or-map-range_with_len f 0 a k k 0 less (omega arith)
      | inr past ↦
          let j = k - a in
          let at : length xs + j ≡ k = omega (arith, first, past) in
          ap (λ (i : ℕ). get_or (xs ++ ys) i 0) (sym at)
          ∙ get_or-append-add xs ys j 0
          ∙ get_or-map-range_with_len g 0 c j j 0 (omega (arith, low, past)) (omega arith)
          ∙ next j (omega (arith, low, past))
          ∙ ap f (omega (arith, past))
    ])

-- bytes that are packed from place 2 on, with those of the next word
pub word_on : (w : Words) (i word c : ℕ) → w (2 + i) ≡ word → c ≤ 8 → map (packed w 2) (range_with_len 0 (8 * i)) ++ map (byte_of word) (range_with_len 0 c) ≡ map (packed w 2) (range_with_len 0 (8 * i + c))
word_on w i word c is few = row_on (packed w 2) (byte_of word) (8 * i) c (λ j low. packed_on w 2 i word j is (omega (arith, low, few)))

-- behind a path
pub spelled_on : (w : Words) (r q : List ℕ) (i word c : ℕ) → w (2 + i) ≡ word → c ≤ 8 → q ≡ r ++ map (packed w 2) (range_with_len 0 (8 * i)) → q ++ map (byte_of word) (range_with_len 0 c) ≡ r ++ map (packed w 2) (range_with_len 0 (8 * i + c))
spelled_on w r q i word c is few so_far =
    ap (λ (l : List ℕ). l ++ map (byte_of word) (range_with_len 0 c)) so_far
    ∙ append_assoc r (map (packed w 2) (range_with_len 0 (8 * i))) (map (byte_of word) (range_with_len 0 c))
    ∙ ap (λ (l : List ℕ). r ++ l) (word_on w i word c is few)

-- the bytes of a word
pub bytes_spelled : (word count : ℕ) (bytes : List ℕ) → count ≤ length bytes → ((i : ℕ) → i < count → byte_of word i ≡ get_or bytes i 0) → take count bytes ≡ map (byte_of word) (range_with_len 0 count)
bytes_spelled word count bytes few are = fill_by_all (byte_of word) (take count bytes) count 0 (length-take-le count bytes few) (λ i low. get_or-take count bytes i 0 low ∙ sym (are i low))
