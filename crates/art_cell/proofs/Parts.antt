-- Rows of words of which a part is copied.
use Rattle.std.proofs.Common.{◌≡◌, ◌+◌, ◌-◌, ◌≤◌, ◌<◌, ℕ, List, length, get_or, drop, take, rules, arith, ap, ◌∙◌}
use Rattle.std.proofs.lemmas.List.{places}
use borrow.Rule.Slice.PartMut.{put_mid}

-- the part is these words, and the others stay
module _ (words part : List ℕ) (place k : ℕ) (long : k ≡ length part) (room : place + length part ≤ length words) where
  pub in_part : (i : ℕ) → i < length part → get_or (put_mid place k words part) (place + i) 0 ≡ get_or part i 0
  in_part i low = search (rules, places)

  pub below_part : (p : ℕ) → p < place → get_or (put_mid place k words part) p 0 ≡ get_or words p 0
  below_part p low = search (rules, places)

  pub above_part : (p : ℕ) → place + length part ≤ p → get_or (put_mid place k words part) p 0 ≡ get_or words p 0
  above_part p high = search (rules, places)

-- a part that is the same part of another row has the words of that row
pub same_part : (words row part : List ℕ) (from k p : ℕ) → part ≡ take k (drop from row) → from + k ≤ length words → from + k ≤ length row → from ≤ p → p < from + k
    → get_or (put_mid from k words part) p 0 ≡ get_or row p 0
same_part words row part from k p is room some low high =
    let long : length part ≡ k = ap (λ (xs : List ℕ). length xs) is ∙ search (rules, places) in
    let at : p ≡ from + (p - from) = omega (arith, low) in
    let of_row : get_or (take k (drop from row)) (p - from) 0 ≡ get_or row p 0 = search (rules, places) in
    ap (λ (q : ℕ). get_or (put_mid from k words part) q 0) at
    ∙ in_part words part from k (omega (arith, long)) (omega (arith, long, room)) (p - from) (omega (arith, long, low, high))
    ∙ ap (λ (xs : List ℕ). get_or xs (p - from) 0) is
    ∙ of_row

-- and the row is as long as it was
pub long_part : (words row part : List ℕ) (from k : ℕ) → part ≡ take k (drop from row) → from + k ≤ length words → from + k ≤ length row → length (put_mid from k words part) ≡ length words
long_part words row part from k is room some =
    let long : length part ≡ k = ap (λ (xs : List ℕ). length xs) is ∙ search (rules, places) in
    search (rules, places)
