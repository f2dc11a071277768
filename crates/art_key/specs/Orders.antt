-- The order of numbers, by their digits.
use Rattle.std.proofs.Common.{◌≡◌, ℕ, suc, ◌+◌, ◌*◌, ◌<◌, ◌≤◌, pos, refl, sym, ap, subst, ◌∙◌, inl, inr, arith, nat_cmp, int_cmp, Ordering, Less, Equal, Greater, lt-ltb, le-ltb, eq-eqb, ne_eqb, mul-le-mul_right}
use Rattle.std.proofs.lemmas.Bool.{cases_order}
use Rattle.std.specs.Ordering.{ordering_then}

pub ordering_then_assoc : (a b c : Ordering) → ordering_then a (ordering_then b c) ≡ ordering_then (ordering_then a b) c
ordering_then_assoc Less b c = refl
ordering_then_assoc Equal b c = refl
ordering_then_assoc Greater b c = refl

pub nat_cmp_less : (m n : ℕ) → m < n → nat_cmp m n ≡ Less
nat_cmp_less m n h = rw (lt-ltb m n h) refl

pub nat_cmp_equal : (m n : ℕ) → m ≡ n → nat_cmp m n ≡ Equal
nat_cmp_equal m n h = rw (le-ltb m n (omega arith), eq-eqb m n h) refl

pub nat_cmp_greater : (m n : ℕ) → n < m → nat_cmp m n ≡ Greater
nat_cmp_greater m n h = rw (le-ltb m n (omega arith), ne_eqb m n (λ e. omega arith)) refl

-- whole numbers that are not negative stand as natural numbers
pub int_cmp-pos : (m n : ℕ) → int_cmp (pos m) (pos n) ≡ nat_cmp m n
int_cmp-pos m n =
    elim (cases_order m n) [
      | inl e ↦ rw (nat_cmp_equal m n e, le-ltb m n (omega arith), le-ltb n m (omega arith)) refl
      | inr h ↦
          elim h [
            | inl lt ↦ rw (nat_cmp_less m n lt, lt-ltb m n lt) refl
            | inr gt ↦ rw (nat_cmp_greater m n gt, le-ltb m n (omega arith), lt-ltb n m gt) refl
          ]
    ]

-- a greater high digit makes a greater number
above : (unit a b r s : ℕ) → a < b → r < unit → a * unit + r < b * unit + s
above unit a b r s lt r-lt =
    let top : suc a * unit ≤ b * unit = mul-le-mul_right unit (omega arith) in
    let one : suc a * unit ≡ a * unit + unit = omega arith in
    omega arith

-- where the high digits are the same, the low ones decide
low_digits : (unit b r s : ℕ) → nat_cmp (b * unit + r) (b * unit + s) ≡ nat_cmp r s
low_digits unit b r s =
    elim (cases_order r s) [
      | inl e ↦ nat_cmp_equal (b * unit + r) (b * unit + s) (omega arith) ∙ sym (nat_cmp_equal r s e)
      | inr h ↦
          elim h [
            | inl lt ↦ nat_cmp_less (b * unit + r) (b * unit + s) (omega arith) ∙ sym (nat_cmp_less r s lt)
            | inr gt ↦ nat_cmp_greater (b * unit + r) (b * unit + s) (omega arith) ∙ sym (nat_cmp_greater r s gt)
          ]
    ]

-- the high digit decides, and else the low one does
pub nat_cmp_digits : (unit a b r s : ℕ) → r < unit → s < unit → nat_cmp (a * unit + r) (b * unit + s) ≡ ordering_then (nat_cmp a b) (nat_cmp r s)
nat_cmp_digits unit a b r s r-lt s-lt =
    elim (cases_order a b) [
      | inl same ↦
          ap (λ (x : ℕ). nat_cmp (x * unit + r) (b * unit + s)) same ∙ low_digits unit b r s ∙ ap (λ o. ordering_then o (nat_cmp r s)) (sym (nat_cmp_equal a b same))
      | inr h ↦
          elim h [
            | inl lt ↦ nat_cmp_less (a * unit + r) (b * unit + s) (above unit a b r s lt r-lt) ∙ ap (λ o. ordering_then o (nat_cmp r s)) (sym (nat_cmp_less a b lt))
            | inr gt ↦ nat_cmp_greater (a * unit + r) (b * unit + s) (above unit b a s r gt s-lt) ∙ ap (λ o. ordering_then o (nat_cmp r s)) (sym (nat_cmp_greater a b gt))
          ]
    ]

-- numbers with the same digits
pub same_digits : (unit a b r s : ℕ) → r < unit → s < unit → a * unit + r ≡ b * unit + s → (a ≡ b) × (r ≡ s)
same_digits unit a b r s r-lt s-lt e =
    elim (cases_order a b) [
      | inl same ↦ (same, low same)
      | inr h ↦
          elim h [
            | inl lt ↦ absurd (omega (arith, above unit a b r s lt r-lt))
            | inr gt ↦ absurd (omega (arith, above unit b a s r gt s-lt))
          ]
    ]
  where
    low : a ≡ b → r ≡ s
    low same =
        let aligned : b * unit + r ≡ b * unit + s = subst (λ (x : ℕ). x * unit + r ≡ b * unit + s) same e in
        omega arith
