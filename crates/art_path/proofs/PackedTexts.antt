-- Bytes that are packed in words, beside those of a key: word by word, and as lists.
use Rattle.std.proofs.Common.{◌≡◌, ℕ, ◌+◌, ◌*◌, ◌/◌, ◌%◌, ◌<◌, ◌≤◌, List, ◌++◌, length, get_or, take, drop, map, sym, ap, ◌∙◌, arith, length-append, length-drop}
use Rattle.std.proofs.lemmas.List.{get_or-drop, get_or-take, get_or-append-add, get_or_append_left, length-take-le}
use Rattle.std.proofs.lemmas.List.FromFn.{get_or-map-range_with_len, length-map-range_with_len, fill_by_all}
use Rattle.std.specs.List.{range_with_len}
use Rattle.art_cell.specs.Lemmas.Packed.{packed_is}
use Rattle.art_cell.specs.Words.{Words, byte_of, packed}
use Rattle.art_path.specs.declared.compared.Compared.{Compared}
use Rattle.art_path.specs.Compared.{AreSame, IsCompared, behind}
use Rattle.art_path.proofs.Comparing.{compared_bytes, compared_more}

-- the bytes from 8 * i on are those of the word i places on
pub packed_on : (w : Words) (p i word j : ℕ) → w (p + i) ≡ word → j < 8 → byte_of word j ≡ packed w p (8 * i + j)
packed_on w p i word j is low =
    let place : p + i ≡ p + (8 * i + j) / 8 = omega arith in
    let index : j ≡ (8 * i + j) % 8 = omega arith in
    ap (byte_of word) index ∙ sym (packed_is w p (8 * i + j) word (sym is ∙ ap w place))

-- where the bytes before it are the same, and the first bytes of the word are compared, all of them are
pub word_compared : (w : Words) (p i word c : ℕ) (key : List ℕ) (from : ℕ) (r : Compared)
    → IsCompared (byte_of word) c key (from + 8 * i) r → w (p + i) ≡ word → c ≤ 8 → AreSame (packed w p) (8 * i) key from → IsCompared (packed w p) (8 * i + c) key from (behind (8 * i) r)
word_compared w p i word c key from r is at few before =
    compared_more (packed w p) (8 * i) c key from r before (compared_bytes (byte_of word) (λ j. packed w p (8 * i + j)) c key (from + 8 * i) r (λ j low. packed_on w p i word j at (omega arith)) is)

-- packed bytes that are the key's are that part of the key
pub same_packed : (w : Words) (p count : ℕ) (key : List ℕ) (from : ℕ) → AreSame (packed w p) count key from → map (packed w p) (range_with_len 0 count) ≡ take count (drop from key)
same_packed w p count key from are =
    let part = take count (drop from key) in
    let long : length part ≡ count = length-take-le count (drop from key) (omega (arith, length-drop from key, are.within)) in
    sym (fill_by_all (packed w p) part count 0 long (λ i low. get_or-take count (drop from key) i 0 low ∙ get_or-drop from key i 0 ∙ sym (are.same i low)))

-- packed bytes that stand in a key are the key's there
pub packed_same_in : (w : Words) (p count : ℕ) (key x rest : List ℕ) → (x ++ map (packed w p) (range_with_len 0 count)) ++ rest ≡ key → AreSame (packed w p) count key (length x)
packed_same_in w p count key x rest is =
    let bytes = map (packed w p) (range_with_len 0 count) in
    let long : length bytes ≡ count = length-map-range_with_len (packed w p) 0 count in
    let whole : length key ≡ length x + length bytes + length rest = omega (arith, ap length is, length-append (x ++ bytes) rest, length-append x bytes) in
    record {
      within = omega (arith, whole, long);
      same = λ i low.
          sym (get_or-map-range_with_len (packed w p) 0 count i i 0 low (omega arith))
          ∙ sym (get_or-append-add x bytes i 0)
          ∙ sym (get_or_append_left (x ++ bytes) rest 0 (length x + i) (omega (arith, long, length-append x bytes)))
          ∙ ap (λ (l : List ℕ). get_or l (length x + i) 0) is;
    }
