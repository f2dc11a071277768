-- The common front of two texts, found by pairs of their bytes.
use Rattle.std.proofs.Common.{◌≡◌, ℕ, ◌<◌, ◌≤◌, Bool, true, false, List, length, get_or, take, sym, ap, ◌∙◌, arith}
use Rattle.std.specs.Prelude.{◌==◌}
use Rattle.std.specs.List.{prefix_len, zip}
use Rattle.std.proofs.lemmas.List.{ext_get_or, get_or-take, length-take-le}
use Rattle.std.proofs.lemmas.List.Sums.{prefix_len-le-length, prefix_len_passes, prefix_len_stops}
use Rattle.std.proofs.lemmas.Slice.Zip.{get_or-zip, length-zip}
use Rattle.std.proofs.lemmas.Bool.{eqb-true, eqb-false}
use Rattle.art_path.specs.Common.{IsCommon}

abbrev pub is_one : ℕ × ℕ → Bool
is_one p = p.0 == p.1

pub pairs_common : (xs ys : List ℕ) (n : ℕ) → n ≡ prefix_len is_one (zip xs ys) → IsCommon xs ys n
pairs_common xs ys n is =
    let pairs = zip xs ys in
    let within : n ≤ length pairs = omega (arith, is, prefix_len-le-length is_one pairs) in
    let one : n ≤ length xs = omega (arith, within, length-zip xs ys) in
    let other : n ≤ length ys = omega (arith, within, length-zip xs ys) in
    let pair : (k : ℕ) → k < length xs → k < length ys → get_or pairs k (0, 0) ≡ (get_or xs k 0, get_or ys k 0) = λ k low low'. get_or-zip xs ys k (0, 0) low low' in
    record {
      within_one = one;
      within_other = other;
      same = ext_get_or 0 (take n xs) (take n ys) (length-take-le n xs one ∙ sym (length-take-le n ys other)) (λ k low.
          let k_low : k < n = omega (arith, low, length-take-le n xs one) in
          let passes : is_one (get_or xs k 0, get_or ys k 0) ≡ true = ap is_one (sym (pair k (omega arith) (omega arith))) ∙ prefix_len_passes is_one pairs k (0, 0) (omega (arith, is)) in
          get_or-take n xs k 0 k_low ∙ eqb-true (get_or xs k 0) (get_or ys k 0) passes ∙ sym (get_or-take n ys k 0 k_low));
      longest = λ low low' same.
          let stops : is_one (get_or xs n 0, get_or ys n 0) ≡ false =
          ap is_one (sym (pair n low low')) ∙ ap (λ (k : ℕ). is_one (get_or pairs k (0, 0))) is ∙ prefix_len_stops is_one pairs (0, 0) (omega (arith, is, length-zip xs ys)) in
          eqb-false (get_or xs n 0) (get_or ys n 0) stops same;
    }
