-- Which passes have a number.
use Rattle.std.proofs.Common.{◌≡◌, ◌⊎◌, ◌+◌, ◌<◌, ◌∙◌, ℕ, zero, suc, List, [], ◌∷◌, length, take, get_or, inl, inr, ⊎_elim, refl, sym, ap, subst, arith, add-one}
use Rattle.art_step.specs.Views.{Member}
use Rattle.art_table.specs.Closing.{IsHere}
use Rattle.art_table.specs.Tables.{number_of}
use Rattle.art_table.specs.declared.passes.Pass.{Pass}

pub member_at : (xs : List Pass) (i : ℕ) (d : Pass) → i < length xs → Member (get_or xs i d) xs
member_at [] i d low = absurd (omega (arith, low))
member_at (x ∷ xs) zero d low = inl refl
member_at (x ∷ xs) (suc i) d low = inr (member_at xs i d (omega (arith, low)))

member_more : (xs : List Pass) (i : ℕ) (d p : Pass) → i < length xs → Member p (take (suc i) xs) → Member p (take i xs) ⊎ (p ≡ get_or xs i d)
member_more [] i d p low m = absurd (omega (arith, low))
member_more (x ∷ xs) zero d p low m = ⊎_elim (λ (e : p ≡ x). inr e) (λ (n : Member p (take zero xs)). inl n) m
member_more (x ∷ xs) (suc i) d p low m = ⊎_elim (λ (e : p ≡ x). inl (inl e))
    (λ (n : Member p (take (suc i) xs)). ⊎_elim (λ (k : Member p (take i xs)). inl (inr k)) (λ (e : p ≡ get_or xs i d). inr e) (member_more xs i d p (omega (arith, low)) n)) m

pub here_more : (n : ℕ) (xs : List Pass) (i : ℕ) (d : Pass) → i < length xs → (IsHere n (take i xs) → ⊥) → (number_of (get_or xs i d) ≡ n → ⊥) → IsHere n (take (i + 1) xs) → ⊥
here_more n xs i d low none other here = ⊎_elim (λ (k : Member here.0 (take i xs)). none (here.0, k, here.2)) (λ (e : here.0 ≡ get_or xs i d). other (sym (ap number_of e) ∙ here.2))
    (member_more xs i d here.0 low (subst (λ (k : ℕ). Member here.0 (take k xs)) (add-one i) here.1))
