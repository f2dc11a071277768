-- Places that come one after another.
use Rattle.std.proofs.Common.{◌≡◌, ℕ, ◌+◌, List, [], ◌∷◌, ◌++◌, length, subst, arith}
use Rattle.std.specs.Prelude.{⊤}

-- from this place on, with none left out
abbrev pub AreNext : ℕ → List ℕ → Type 0
AreNext k [] = ⊤
AreNext k (x ∷ xs) = (x ≡ k) × AreNext (k + 1) xs

pub next_first : (k : ℕ) (xs ys : List ℕ) → AreNext k (xs ++ ys) → AreNext k xs
next_first k [] ys are = tt
next_first k (x ∷ xs) ys are = (are.0, next_first (k + 1) xs ys are.1)

pub next_second : (k : ℕ) (xs ys : List ℕ) → AreNext k (xs ++ ys) → AreNext (k + length xs) ys
next_second k [] ys are = subst (λ (n : ℕ). AreNext n ys) (omega arith) are
next_second k (x ∷ xs) ys are = subst (λ (n : ℕ). AreNext n ys) (omega arith) (next_second (k + 1) xs ys are.1)
