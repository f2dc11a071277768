-- Names of kinds: the numbers from 1 to 24 in decimal, and the kind of texts that a name finds.
use Rattle.std.proofs.Common.{◌≡◌, ◌≢◌, ◌⊎◌, inl, inr, ℕ, zero, suc, ◌+◌, ◌/◌, ◌%◌, ◌<◌, ◌≤◌, true, false, cond, List, [], ◌∷◌, ◌++◌, length, get_or, map, Some, codes, decimal, refl, sym, ap, ◌∙◌, arith}
use Rattle.std.proofs.lemmas.Bool.{cases_lt}
use Rattle.std.proofs.lemmas.Fmt.{decimal_digit, decimal_step, decimal_injective}
use Rattle.std.proofs.lemmas.Slice.Eq.{bytes_eq-Decides, text_from_reads}
use Rattle.std.specs.List.{range_with_len}
use Rattle.std.specs.Str.{bytes_eq}
use Rattle.art_key.specs.declared.columns.Kind.TheVariants.{Text}
use Rattle.art_key.specs.Schemas.{kind_among}

-- ---- numbers of at most two digits

-- the digits by their places
abbrev IsSpelled : List ℕ → ℕ → Type 0
IsSpelled ds n =
    ((n < 10) × (length ds ≡ 1) × (get_or ds 0 0 ≡ 48 + n)) ⊎ ((10 ≤ n) × (length ds ≡ 2) × (get_or ds 0 0 ≡ 48 + n / 10) × (get_or ds 1 0 ≡ 48 + n % 10))

pub two_digits : (n : ℕ) → 10 ≤ n → n < 100 → decimal n ≡ (48 + n / 10) ∷ (48 + n % 10) ∷ []
two_digits n least most = decimal_step n least (omega arith) ∙ ap (λ ds. ds ++ (48 + n % 10) ∷ []) (decimal_digit (n / 10) (omega arith))

-- the first part is trivially true: it shows `grind` where the second is of use
pub decimal_tells : (n : ℕ) → n < 100 → (decimal n ≡ decimal n) × IsSpelled (decimal n) n
decimal_tells n most =
    elim (cases_lt n 10) [
      | inl small ↦ let e = decimal_digit n small in (refl, inl (small, ap length e, ap (λ ds. get_or ds 0 0) e))
      | inr large ↦ let e = two_digits n large most in (refl, inr (large, ap length e, ap (λ ds. get_or ds 0 0) e, ap (λ ds. get_or ds 1 0) e))
    ]

pub decimal_from_spelled : (ds : List ℕ) (n : ℕ) → n < 100 → IsSpelled ds n → ds ≡ decimal n
decimal_from_spelled ds n most (inl one) = text_from_reads ds ((48 + n) ∷ []) one.1 (one.2, tt) ∙ sym (decimal_digit n one.0)
decimal_from_spelled ds n most (inr two) = text_from_reads ds _ two.1 (two.2, (two.3, tt)) ∙ sym (two_digits n two.0 most)

-- ---- the kind of texts of a name

pub text_found : (name : List ℕ) (n from count : ℕ) → name ≡ codes "text" ++ decimal n → from ≤ n → n < from + count → from + count ≤ 100 → kind_among (map Text (range_with_len from count)) name ≡ Some (Text n)
text_found name n from zero e least most small = absurd (omega arith)
text_found name n from (suc count) e least most small =
    let named = bytes_eq-Decides name (codes "text" ++ decimal from) in
    elim (bytes_eq name (codes "text" ++ decimal from)) as (λ b. bytes_eq name (codes "text" ++ decimal from) ≡ b → cond b (Some (Text from)) (kind_among (map Text (range_with_len (from + 1) count)) name) ≡ Some (Text n)) [
      | true ↦ λ yes. let spelled = named.0 yes in let same : decimal from ≡ decimal n = cc in ap (λ k. Some (Text k)) (decimal_injective from n (omega arith) (omega arith) same)
      | false ↦ λ no. let other : from ≢ n = λ same. let yes = named.1 (e ∙ ap (λ k. codes "text" ++ decimal k) (sym same)) in cc in text_found name n (from + 1) count e (omega arith) (omega arith) (omega arith)
    ] refl
