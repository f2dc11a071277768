-- Entries in ascending order of their bytes, and the child that they give a byte.
use Rattle.std.proofs.Common.{◌≡◌, ◌≢◌, ℕ, zero, suc, ◌+◌, ◌<◌, ◌≤◌, cond, eqb, List, [], ◌∷◌, length, Option, Some, None, refl, sym, ap, ◌∙◌, inl, inr, arith, eq-eqb, ne_eqb}
use Rattle.std.specs.Prelude.{⊤, set}
use Rattle.std.specs.List.{insert, remove, cons_option}
use Rattle.std.proofs.lemmas.Bool.{cases_eq, cases_lt}
use Rattle.art_cell.specs.declared.node_kinds.Entry.{Entry}
use Rattle.art_cell.specs.Words.{entry_at, listed}
use Rattle.art_cell.specs.Reads.{with_child, without_child}
use Rattle.art_cell.specs.Lemmas.Entries.{same_listed}
use Rattle.art_node4.specs.Sorted.{entry_or_none}

-- the bytes ascend from one on, and each has a child
abbrev pub Ascends : ℕ → List Entry → Type 0
Ascends low [] = ⊤
Ascends low (e ∷ es) = (low ≤ e.byte) × (e.byte < 256) × (0 < e.child) × Ascends (e.byte + 1) es

-- the child of the first entry with the byte
abbrev pub lookup : List Entry → ℕ → Option ℕ
lookup [] b = None
lookup (e ∷ es) b = cond (eqb b e.byte) (Some e.child) (lookup es b)

-- the bytes of the first entries are below a byte
abbrev pub Below : List Entry → ℕ → ℕ → Type 0
Below xs count byte = (i : ℕ) → i < count → (entry_or_none xs i).byte < byte

pub Ascends-from : (low high : ℕ) (xs : List Entry) → low ≤ high → Ascends high xs → Ascends low xs
Ascends-from low high [] le a = a
Ascends-from low high (e ∷ es) le a = (omega (arith, a.0), a.1, a.2, a.3)

pub lookup_below : (low : ℕ) (xs : List Entry) (b : ℕ) → Ascends low xs → b < low → lookup xs b ≡ None
lookup_below low [] b a h = refl
lookup_below low (e ∷ es) b a h = rw (ne_eqb b e.byte (λ same. omega (arith, a.0))) (lookup_below (e.byte + 1) es b a.3 (omega (arith, a.0)))

-- the front of a list differs from what is looked for
step : (e : Entry) (xs ys : List Entry) (b : ℕ) (o : Option ℕ) → lookup ys b ≡ o → lookup (e ∷ ys) b ≡ cond (eqb b e.byte) (Some e.child) o
step e xs ys b o same = ap (cond (eqb b e.byte) (Some e.child)) same

-- two tests of which at most one holds
swap_tests : (b x byte : ℕ) (p q : Option ℕ) (o : Option ℕ) → x ≢ byte → cond (eqb b x) p (cond (eqb b byte) q o) ≡ cond (eqb b byte) q (cond (eqb b x) p o)
swap_tests b x byte p q o apart =
    elim (cases_eq b byte) [
      | inl here ↦ rw (ne_eqb b x (λ e. apart (sym e ∙ here)), eq-eqb b byte here) refl
      | inr other ↦ rw (ne_eqb b byte other) refl
    ]

pub lookup-insert : (low : ℕ) (xs : List Entry) (i byte c b : ℕ) → i ≤ length xs → Below xs i byte
    → lookup (insert xs i (record { byte = byte; child = c })) b ≡ with_child (lookup xs) byte c b
lookup-insert low xs zero byte c b within below = refl
lookup-insert low [] (suc i) byte c b within below = absurd (omega arith)
lookup-insert low (x ∷ xs) (suc i) byte c b within below =
    let here : x.byte < byte = below 0 (omega arith) in
    ap (cond (eqb b x.byte) (Some x.child)) (lookup-insert low xs i byte c b (omega arith) (λ k h. below (suc k) (omega arith)))
    ∙ swap_tests b x.byte byte (Some x.child) (Some c) (lookup xs b) (λ e. omega arith)

pub Ascends-insert : (low : ℕ) (xs : List Entry) (i byte c : ℕ) → Ascends low xs → i ≤ length xs → Below xs i byte → (i < length xs → byte ≤ (entry_or_none xs i).byte)
    → lookup xs byte ≡ None → low ≤ byte → byte < 256 → 0 < c → Ascends low (insert xs i (record { byte = byte; child = c }))
Ascends-insert low [] zero byte c a within below above none le small some = (le, small, some, a)
Ascends-insert low (x ∷ xs) zero byte c a within below above none le small some =
    let at_least : byte ≤ x.byte = above (omega arith) in
    elim (cases_eq byte x.byte) [
      | inl same ↦ let some_none : Some x.child ≡ None = rw (eq-eqb byte x.byte same) at none in absurd cc
      | inr apart ↦ (le, small, some, (omega arith, a.1, a.2, a.3))
    ]
Ascends-insert low [] (suc i) byte c a within below above none le small some = absurd (omega arith)
Ascends-insert low (x ∷ xs) (suc i) byte c a within below above none le small some =
    let here : x.byte < byte = below 0 (omega arith) in
    let apart : byte ≢ x.byte = (λ e. omega arith) in
    (a.0, a.1, a.2, Ascends-insert (x.byte + 1) xs i byte c a.3 (omega arith) (λ k h. below (suc k) (omega arith)) (λ h. above (omega arith)) (rw (ne_eqb byte x.byte apart) at none) (omega arith) small some)

pub lookup-set : (xs : List Entry) (i byte c b : ℕ) → i < length xs → Below xs i byte → byte ≡ (entry_or_none xs i).byte
    → lookup (set xs i (record { byte = byte; child = c })) b ≡ with_child (lookup xs) byte c b
lookup-set [] i byte c b within below at = absurd (omega arith)
lookup-set (x ∷ xs) zero byte c b within below at =
    elim (cases_eq b byte) [
      | inl here ↦ rw (eq-eqb b byte here) refl
      | inr other ↦ rw (ne_eqb b byte other, ne_eqb b x.byte (λ e. other (e ∙ sym at))) refl
    ]
lookup-set (x ∷ xs) (suc i) byte c b within below at =
    let here : x.byte < byte = below 0 (omega arith) in
    ap (cond (eqb b x.byte) (Some x.child)) (lookup-set xs i byte c b (omega arith) (λ k h. below (suc k) (omega arith)) at)
    ∙ swap_tests b x.byte byte (Some x.child) (Some c) (lookup xs b) (λ e. omega arith)

pub Ascends-set : (low : ℕ) (xs : List Entry) (i byte c : ℕ) → Ascends low xs → i < length xs → byte ≡ (entry_or_none xs i).byte → 0 < c
    → Ascends low (set xs i (record { byte = byte; child = c }))
Ascends-set low [] i byte c a within at some = a
Ascends-set low (x ∷ xs) zero byte c a within at some = (omega (arith, a.0), omega (arith, a.1), some, Ascends-from (byte + 1) (x.byte + 1) xs (omega arith) a.3)
Ascends-set low (x ∷ xs) (suc i) byte c a within at some = (a.0, a.1, a.2, Ascends-set (x.byte + 1) xs i byte c a.3 (omega arith) at some)

pub lookup-remove : (low : ℕ) (xs : List Entry) (i byte b : ℕ) → Ascends low xs → i < length xs → Below xs i byte → byte ≡ (entry_or_none xs i).byte
    → lookup (remove xs i) b ≡ without_child (lookup xs) byte b
lookup-remove low [] i byte b a within below at = absurd (omega arith)
lookup-remove low (x ∷ xs) zero byte b a within below at =
    elim (cases_eq b byte) [
      | inl here ↦ rw (eq-eqb b byte here) (lookup_below (x.byte + 1) xs b a.3 (omega arith))
      | inr other ↦ rw (ne_eqb b byte other, ne_eqb b x.byte (λ e. other (e ∙ sym at))) refl
    ]
lookup-remove low (x ∷ xs) (suc i) byte b a within below at =
    let here : x.byte < byte = below 0 (omega arith) in
    ap (cond (eqb b x.byte) (Some x.child)) (lookup-remove (x.byte + 1) xs i byte b a.3 (omega arith) (λ k h. below (suc k) (omega arith)) at)
    ∙ swap_tests b x.byte byte (Some x.child) None (lookup xs b) (λ e. omega arith)

pub Ascends-remove : (low : ℕ) (xs : List Entry) (i : ℕ) → Ascends low xs → Ascends low (remove xs i)
Ascends-remove low [] zero a = a
Ascends-remove low [] (suc i) a = a
Ascends-remove low (x ∷ xs) zero a = Ascends-from low (x.byte + 1) xs (omega (arith, a.0)) a.3
Ascends-remove low (x ∷ xs) (suc i) a = (a.0, a.1, a.2, Ascends-remove (x.byte + 1) xs i a.3)

-- where a byte with a child stands
pub found_at : (low : ℕ) (xs : List Entry) (i byte c : ℕ) → Ascends low xs → i ≤ length xs → Below xs i byte → (i < length xs → byte ≤ (entry_or_none xs i).byte)
    → lookup xs byte ≡ Some c → (i < length xs) × (byte ≡ (entry_or_none xs i).byte)
found_at low [] i byte c a within below above there = absurd cc
found_at low (x ∷ xs) zero byte c a within below above there =
    let at_least : byte ≤ x.byte = above (omega arith) in
    elim (cases_lt byte x.byte) [
      | inl lt ↦
          let none : lookup (x ∷ xs) byte ≡ None = lookup_below x.byte (x ∷ xs) byte (omega arith, a.1, a.2, a.3) lt in
          absurd cc
      | inr le ↦ (omega arith, omega arith)
    ]
found_at low (x ∷ xs) (suc i) byte c a within below above there =
    let here : x.byte < byte = below 0 (omega arith) in
    let apart : byte ≢ x.byte = (λ e. omega arith) in
    let rest = found_at (x.byte + 1) xs i byte c a.3 (omega arith) (λ k h. below (suc k) (omega arith)) (λ h. above (omega arith)) (rw (ne_eqb byte x.byte apart) at there) in
    (omega (arith, rest.0), rest.1)

-- ---- by position

pub low_at : (low : ℕ) (xs : List Entry) (i : ℕ) → Ascends low xs → i < length xs → low ≤ (entry_or_none xs i).byte
low_at low [] i a h = absurd (omega arith)
low_at low (x ∷ xs) zero a h = a.0
low_at low (x ∷ xs) (suc i) a h = let rest = low_at (x.byte + 1) xs i a.3 (omega arith) in omega (arith, rest, a.0)

pub ascends_at : (low : ℕ) (xs : List Entry) (i j : ℕ) → Ascends low xs → i < j → j < length xs → (entry_or_none xs i).byte < (entry_or_none xs j).byte
ascends_at low [] i j a lt h = absurd (omega arith)
ascends_at low (x ∷ xs) i zero a lt h = absurd (omega arith)
ascends_at low (x ∷ xs) zero (suc j) a lt h = let rest = low_at (x.byte + 1) xs j a.3 (omega arith) in omega (arith, rest)
ascends_at low (x ∷ xs) (suc i) (suc j) a lt h = ascends_at (x.byte + 1) xs i j a.3 (omega arith) (omega arith)

pub some_at : (low : ℕ) (xs : List Entry) (i : ℕ) → Ascends low xs → i < length xs → 0 < (entry_or_none xs i).child
some_at low [] i a h = absurd (omega arith)
some_at low (x ∷ xs) zero a h = a.2
some_at low (x ∷ xs) (suc i) a h = some_at (x.byte + 1) xs i a.3 (omega arith)

-- ---- as a list of all bytes' children

-- the children of all bytes, listed, are the entries
pub listed-lookup : (low count : ℕ) (xs : List Entry) → Ascends low xs → low + count ≡ 256 → listed (lookup xs) low count ≡ xs
listed-lookup low zero [] a all = refl
listed-lookup low zero (x ∷ xs) a all = absurd (omega (arith, a.0, a.1))
listed-lookup low (suc count) [] a all = listed-lookup (low + 1) count [] a (omega arith)
listed-lookup low (suc count) (x ∷ xs) a all =
    elim (cases_eq low x.byte) [
      | inl here ↦
          let rest : listed (lookup (x ∷ xs)) (low + 1) count ≡ xs =
          same_listed (lookup xs) (lookup (x ∷ xs)) (low + 1) count (λ b from below. rw (ne_eqb b x.byte (λ e. omega arith)) refl)
          ∙ listed-lookup (low + 1) count xs (Ascends-from (low + 1) (x.byte + 1) xs (omega arith) a.3) (omega arith) in
          rw (eq-eqb low x.byte here) (ap (λ (b : ℕ). record { byte = b; child = x.child } ∷ listed (lookup (x ∷ xs)) (low + 1) count) here ∙ ap (λ (ys : List Entry). x ∷ ys) rest)
      | inr apart ↦
          let past : low + 1 ≤ x.byte = omega (arith, a.0) in
          let nothing : lookup (x ∷ xs) low ≡ None = lookup_below (low + 1) (x ∷ xs) low (past, a.1, a.2, a.3) (omega arith) in
          ap (λ (o : Option ℕ). cons_option (entry_at (λ _. o) low) (listed (lookup (x ∷ xs)) (low + 1) count)) nothing
          ∙ listed-lookup (low + 1) count (x ∷ xs) (past, a.1, a.2, a.3) (omega arith)
    ]

-- an entry's byte has its child
pub lookup_at : (low : ℕ) (xs : List Entry) (i : ℕ) → Ascends low xs → i < length xs → lookup xs (entry_or_none xs i).byte ≡ Some (entry_or_none xs i).child
lookup_at low [] i a h = absurd (omega arith)
lookup_at low (x ∷ xs) zero a h = rw (eq-eqb x.byte x.byte refl) refl
lookup_at low (x ∷ xs) (suc i) a h =
    let past = low_at (x.byte + 1) xs i a.3 (omega arith) in
    rw (ne_eqb (entry_or_none xs i).byte x.byte (λ e. omega (arith, past, e))) (lookup_at (x.byte + 1) xs i a.3 (omega arith))

-- a byte that stands nowhere has no child
pub lookup_none : (xs : List Entry) (b : ℕ) → ((i : ℕ) → i < length xs → (entry_or_none xs i).byte ≢ b) → lookup xs b ≡ None
lookup_none [] b other = refl
lookup_none (x ∷ xs) b other = rw (ne_eqb b x.byte (λ e. other 0 (omega arith) (sym e))) (lookup_none xs b (λ i h. other (suc i) (omega arith)))
