use Rattle.std.proofs.Common.{◌≡◌, ◌+◌, ◌/◌, ◌%◌, ◌<◌, ◌≤◌, ◌∙◌, ℕ, List, ap, arith, decimal, get_or, inl, inr, length}
use Rattle.art_key.proofs.Names.{decimal_from_spelled, decimal_tells}
use Rattle.art_key.proofs.columns.longest_of.Goals as goal

-- a number of one digit, or of two
by_digits : (ds : List ℕ) (n : ℕ) → n ≤ 24 → ds ≡ decimal n → (n < 10 → length ds ≡ 1 → get_or ds 0 0 ≡ 48 + n → ⊥)
    → (10 ≤ n → length ds ≡ 2 → get_or ds 0 0 ≡ 48 + n / 10 → get_or ds 1 0 ≡ 48 + n % 10 → ⊥) → ⊥
by_digits ds n most is one two =
    elim (decimal_tells n (omega (arith, most))).1 [
      | inl d ↦ one d.0 (ap length is ∙ d.1) (ap (λ (ds : List ℕ). get_or ds 0 0) is ∙ d.2)
      | inr d ↦ two d.0 (ap length is ∙ d.1) (ap (λ (ds : List ℕ). get_or ds 0 0) is ∙ d.2) (ap (λ (ds : List ℕ). get_or ds 1 0) is ∙ d.3)
    ]

pub returns-in-49-to-57 : goal.returns-in-49-to-57
returns-in-49-to-57 c = (omega arith, omega arith, decimal_from_spelled _ _ (omega arith) (inl (omega arith, omega arith, omega arith)))

pub returns-in-49 : goal.returns-in-49
returns-in-49 c = (omega arith, omega arith, decimal_from_spelled _ _ (omega arith) (inr (omega arith, omega arith, omega arith, omega arith)))

pub returns-in-50 : goal.returns-in-50
returns-in-50 c = (omega arith, omega arith, decimal_from_spelled _ _ (omega arith) (inr (omega arith, omega arith, omega arith, omega arith)))

pub returns-in_default : goal.returns-in_default
returns-in_default c n least most is =
    by_digits c.args.digits.now n most is (λ small long first. omega arith) (λ large long first second. omega arith)

pub returns-in_default-2 : goal.returns-in_default-2
returns-in_default-2 c n least most is =
    by_digits c.args.digits.now n most is (λ small long first. omega arith) (λ large long first second. omega arith)

pub returns-in_default-3 : goal.returns-in_default-3
returns-in_default-3 c n least most is =
    by_digits c.args.digits.now n most is (λ small long first. omega arith) (λ large long first second. omega arith)

pub returns-in_default-4 : goal.returns-in_default-4
returns-in_default-4 c n least most is =
    by_digits c.args.digits.now n most is (λ small long first. omega arith) (λ large long first second. omega arith)

pub returns-in_default-5 : goal.returns-in_default-5
returns-in_default-5 c n least most is =
    by_digits c.args.digits.now n most is (λ small long first. omega arith) (λ large long first second. omega arith)

pub returns-in_default-6 : goal.returns-in_default-6
returns-in_default-6 c n least most is =
    by_digits c.args.digits.now n most is (λ small long first. omega arith) (λ large long first second. omega arith)

pub returns-in_default-7 : goal.returns-in_default-7
returns-in_default-7 c n least most is =
    by_digits c.args.digits.now n most is (λ small long first. omega arith) (λ large long first second. omega arith)

pub returns-in_default-8 : goal.returns-in_default-8
returns-in_default-8 c n least most is =
    by_digits c.args.digits.now n most is (λ small long first. omega arith) (λ large long first second. omega arith)

pub returns-in_default-9 : goal.returns-in_default-9
returns-in_default-9 c n least most is =
    by_digits c.args.digits.now n most is (λ small long first. omega arith) (λ large long first second. omega arith)
