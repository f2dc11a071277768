-- The bytes of a key, as they are read one after another.
use Rattle.std.proofs.Common.{◌≡◌, ℕ, suc, ◌+◌, ◌-◌, ◌<◌, List, [], ◌∷◌, ◌++◌, Option, Some, None, refl, sym, ap, ◌∙◌, arith, append_assoc}
use Rattle.std.specs.Option.{option_map, option_and_then}
use Rattle.art_cell.specs.Leaves.{key_byte_read, key_read}

-- the bytes that were read, before the others
abbrev pub after_front : List ℕ → Option (List ℕ) → Option (List ℕ)
after_front front others = option_map (λ bytes. front ++ bytes) others

regroup : (front : List ℕ) (b : ℕ) (others : Option (List ℕ)) → after_front front (option_map (λ bytes. b ∷ bytes) others) ≡ after_front (front ++ b ∷ []) others
regroup front b None = refl
regroup front b (Some bytes) = ap (λ (bs : List ℕ). Some bs) (sym (append_assoc front (b ∷ []) bytes))

one_of : (reads : List (Option ℕ)) (at n : ℕ) → at < n → key_read reads at (n - at) ≡ option_and_then (λ b. option_map (λ bytes. b ∷ bytes) (key_read reads (at + 1) (n - (at + 1)))) (key_byte_read reads at)
one_of reads at n lt = let e : n - at ≡ suc (n - (at + 1)) = omega arith in ap (key_read reads at) e

pub goes_on : (reads : List (Option ℕ)) (front : List ℕ) (at n b : ℕ) (total : Option (List ℕ)) → at < n → key_byte_read reads at ≡ Some b → after_front front (key_read reads at (n - at)) ≡ total
    → after_front (front ++ b ∷ []) (key_read reads (at + 1) (n - (at + 1))) ≡ total
goes_on reads front at n b total lt is so_far =
    sym (regroup front b (key_read reads (at + 1) (n - (at + 1))))
    ∙ sym (ap (λ o. after_front front (option_and_then (λ b. option_map (λ bytes. b ∷ bytes) (key_read reads (at + 1) (n - (at + 1)))) o)) is)
    ∙ sym (ap (after_front front) (one_of reads at n lt))
    ∙ so_far

pub stops : (reads : List (Option ℕ)) (front : List ℕ) (at n : ℕ) (total : Option (List ℕ)) → at < n → key_byte_read reads at ≡ None → after_front front (key_read reads at (n - at)) ≡ total → total ≡ None
stops reads front at n total lt none so_far =
    sym so_far ∙ ap (after_front front) (one_of reads at n lt) ∙ ap (λ o. after_front front (option_and_then (λ b. option_map (λ bytes. b ∷ bytes) (key_read reads (at + 1) (n - (at + 1)))) o)) none
