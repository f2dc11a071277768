-- The child words of a body stand at its child places, and name what there is where its children do.
use Rattle.std.proofs.Common.{◌≡◌, ◌≢◌, ◌⊎◌, ℕ, zero, suc, ◌+◌, ◌-◌, ◌<◌, ◌≤◌, Option, Some, None, find, eqb, refl, sym, ap, ◌∙◌, subst, inl, inr, ⊎_elim, arith, eq-eqb, ne_eqb}
use Rattle.std.proofs.lemmas.Bool.{cases_lt, cases_eq}
use Rattle.std.proofs.lemmas.Option.{same_Some}
use Rattle.std.specs.List.{range_with_len}
use Rattle.std.specs.Option.{option_and_then}
use Rattle.art_cell.specs.Bodies.{IsBody, IsIndexed, IsSorted}
use Rattle.art_cell.specs.Reads.{with_child, without_child}
use Rattle.art_cell.specs.Words.{Words, child_of, count_of, first_child, indexed_child, is_used, key_byte, nonzero, size, sorted_child}
use Rattle.art_cell.specs.declared.cells.Layout.{Layout}
use Rattle.art_cell.specs.declared.cells.Layout.TheVariants.{Node4, Node16, Node48, Node256}
use Rattle.art_step.specs.Views.{IsChildWord}
use Rattle.art_step.specs.declared.views.Sizes.{Sizes}

-- a place of a child word in the layout
abbrev pub IsPlaceOf : Layout → ℕ → Type 0
IsPlaceOf k i = (first_child k ≤ i) × (i < size k)

-- a word of a byte's child is one that is not 0
nonzero_is : (c word : ℕ) → nonzero c ≡ Some word → c ≡ word
nonzero_is c word e = elim (cases_eq c 0) [
  | inl none ↦ let is : nonzero c ≡ None = rw (eq-eqb c 0 none) refl in absurd (cc)
  | inr some ↦ let is : nonzero c ≡ Some c = rw (ne_eqb c 0 some) refl in same_Some c word (sym is ∙ e)
]

zero_or : (c : ℕ) → (c ≡ 0) ⊎ (nonzero c ≡ Some c)
zero_or c = elim (cases_eq c 0) [
  | inl none ↦ inl none
  | inr some ↦ inr (rw (ne_eqb c 0 some) refl)
]

-- ---- sorted bytes

module _ (first : ℕ) (w : Words) (b : ℕ) where
  -- the child at the first of these positions whose byte it is
  abbrev sought : ℕ → ℕ → Option ℕ
  sought from n = option_and_then (λ i. nonzero (w (first + i))) (find (λ i. eqb (key_byte w i) b) (range_with_len from n))

  sorted_stands : (from n word : ℕ) → sought from n ≡ Some word → (i : ℕ) × (i < from + n) × (w (first + i) ≡ word)
  sorted_stands from zero word e = absurd (cc)
  sorted_stands from (suc n) word e = elim (cases_eq (key_byte w from) b) [
    | inl here ↦
        let is : sought from (suc n) ≡ nonzero (w (first + from)) = rw (eq-eqb (key_byte w from) b here) refl in
        (from, omega arith, nonzero_is (w (first + from)) word (sym is ∙ e))
    | inr other ↦
        let is : sought from (suc n) ≡ sought (from + 1) n = rw (ne_eqb (key_byte w from) b other) refl in
        let rest = sorted_stands (from + 1) n word (sym is ∙ e) in
        (rest.0, omega (arith, rest.1), rest.2)
  ]

  -- of positions whose bytes ascend the first with the byte is the only one
  sorted_here : (from n i : ℕ) → from ≤ i → i < from + n → key_byte w i ≡ b → ((j : ℕ) → j < i → key_byte w j ≢ b) → sought from n ≡ nonzero (w (first + i))
  sorted_here from zero i low high is before = absurd (omega arith)
  sorted_here from (suc n) i low high is before = elim (cases_eq from i) [
    | inl here ↦
        let e : key_byte w from ≡ b = ap (key_byte w) here ∙ is in
        rw (eq-eqb (key_byte w from) b e) (ap (λ (j : ℕ). nonzero (w (first + j))) here)
    | inr other ↦
        let e : key_byte w from ≢ b = before from (omega arith) in
        rw (ne_eqb (key_byte w from) b e) (sorted_here (from + 1) n i (omega arith) (omega arith) is before)
  ]

-- the place has 0, or the word of a byte's child
abbrev pub HasByte : Layout → Words → ℕ → Type 0
HasByte k w i = (w i ≡ 0) ⊎ ((b : ℕ) × (b < 256) × (child_of k w b ≡ Some (w i)))

module _ (slots first : ℕ) (w : Words) (form : IsSorted slots first w) where
  sorted_byte : (i : ℕ) → i < slots → key_byte w i < 256 → (w (first + i) ≡ 0) ⊎ ((b : ℕ) × (b < 256) × (sorted_child first w b ≡ Some (w (first + i))))
  sorted_byte i low small = elim (cases_lt i (count_of w)) [
    | inl used ↦
        let here : sorted_child first w (key_byte w i) ≡ nonzero (w (first + i)) = sorted_here first w (key_byte w i) 0 (count_of w) i (omega arith) (omega arith) refl
        (λ j before e. let less = form.ascends j i before used in omega (arith, less, e)) in
        ⊎_elim
        (λ (none : w (first + i) ≡ 0). inl none)
        (λ (some : nonzero (w (first + i)) ≡ Some (w (first + i))). inr (key_byte w i, small, here ∙ some))
        (zero_or (w (first + i)))
    | inr free ↦ inl (form.no_child i free low)
  ]

key_byte_small : (w : Words) (i : ℕ) → key_byte w i < 256
unfolding Rattle.art_cell.specs.Words.packed
key_byte_small w i = omega arith

-- ---- an index

module _ (w : Words) (form : IsIndexed w) where
  indexed_stands : (b word : ℕ) → b < 256 → indexed_child w b ≡ Some word → (i : ℕ) × (42 ≤ i) × (i < 90) × (w i ≡ word)
  indexed_stands b word low e = elim (cases_eq (key_byte w b) 0) [
    | inl none ↦ let is : indexed_child w b ≡ None = rw (eq-eqb (key_byte w b) 0 none) refl in absurd (cc)
    | inr some ↦
        let is : indexed_child w b ≡ nonzero (w (41 + key_byte w b)) = rw (ne_eqb (key_byte w b) 0 some) refl in
        let high = form.within b low in
        (41 + key_byte w b, omega arith, omega (arith, high), nonzero_is (w (41 + key_byte w b)) word (sym is ∙ e))
  ]

  indexed_byte : (p : ℕ) → p < 48 → (w (42 + p) ≡ 0) ⊎ ((b : ℕ) × (b < 256) × (indexed_child w b ≡ Some (w (42 + p))))
  indexed_byte p low = elim (cases_eq (is_used w p) 1) [
    | inl used ↦
        let b = form.used p low used in
        let is : indexed_child w b.0 ≡ nonzero (w (41 + key_byte w b.0)) = rw (ne_eqb (key_byte w b.0) 0 (λ e. omega (arith, b.2, e))) refl in
        let at : nonzero (w (41 + key_byte w b.0)) ≡ nonzero (w (42 + p)) = ap (λ (q : ℕ). nonzero (w q)) (omega (arith, b.2)) in
        ⊎_elim
        (λ (none : w (42 + p) ≡ 0). inl none)
        (λ (some : nonzero (w (42 + p)) ≡ Some (w (42 + p))). inr (b.0, b.1, is ∙ at ∙ some))
        (zero_or (w (42 + p)))
    | inr other ↦ inl (form.free p low (omega (arith, other)))
  ]

-- ---- any layout

-- the child of a byte stands at a place
pub child_stands : (k : Layout) (w : Words) (b word : ℕ) → IsBody k w → b < 256 → child_of k w b ≡ Some word → (i : ℕ) × IsPlaceOf k i × (w i ≡ word)
child_stands Node4 w b word body low e =
    let at = sorted_stands 11 w b 0 (count_of w) word e in
    let few = body.form.few in
    (11 + at.0, (omega arith, omega (arith, at.1, few)), at.2)
child_stands Node16 w b word body low e =
    let at = sorted_stands 12 w b 0 (count_of w) word e in
    let few = body.form.few in
    (12 + at.0, (omega arith, omega (arith, at.1, few)), at.2)
child_stands Node48 w b word body low e =
    let at = indexed_stands w body.form b word low e in
    (at.0, (at.1, at.2), at.3)
child_stands Node256 w b word body low e = (10 + b, (omega arith, omega arith), nonzero_is (w (10 + b)) word e)

-- what stands at a place is 0, or the child of a byte
pub place_byte : (k : Layout) (w : Words) (i : ℕ) → IsBody k w → IsPlaceOf k i → HasByte k w i
place_byte Node4 w i body at =
    let e : 11 + (i - 11) ≡ i = omega (arith, at.0) in
    subst (HasByte Node4 w) e (sorted_byte 4 11 w body.form (i - 11) (omega (arith, at.0, at.1)) (key_byte_small w (i - 11)))
place_byte Node16 w i body at =
    let e : 12 + (i - 12) ≡ i = omega (arith, at.0) in
    subst (HasByte Node16 w) e (sorted_byte 16 12 w body.form (i - 12) (omega (arith, at.0, at.1)) (key_byte_small w (i - 12)))
place_byte Node48 w i body at =
    let e : 42 + (i - 42) ≡ i = omega (arith, at.0) in
    subst (HasByte Node48 w) e (indexed_byte w body.form (i - 42) (omega (arith, at.0, at.1)))
place_byte Node256 w i body at =
    let e : 10 + (i - 10) ≡ i = omega (arith, at.0) in
    let b : i - 10 < 256 = omega (arith, at.0, at.1) in
    subst (HasByte Node256 w) e (⊎_elim
    (λ (none : w (10 + (i - 10)) ≡ 0). inl none)
    (λ (some : nonzero (w (10 + (i - 10))) ≡ Some (w (10 + (i - 10)))). inr (i - 10, b, some))
    (zero_or (w (10 + (i - 10)))))

-- ---- children that there are

-- each child of the map names what there is
abbrev pub NameThere : Sizes → (ℕ → Option ℕ) → Type 0
NameThere z child = (b word : ℕ) → b < 256 → child b ≡ Some word → IsChildWord z word

-- so do the words of a body with such children
pub words_there : (z : Sizes) (k : Layout) (w : Words) → IsBody k w → NameThere z (child_of k w) → (i : ℕ) → IsPlaceOf k i → IsChildWord z (w i)
words_there z k w body names i at = ⊎_elim
    (λ (none : w i ≡ 0). inl none)
    (λ (some : (b : ℕ) × (b < 256) × (child_of k w b ≡ Some (w i))). names some.0 (w i) some.1 some.2)
    (place_byte k w i body at)

-- and the other way round
pub children_there : (z : Sizes) (k : Layout) (w : Words) → IsBody k w → ((i : ℕ) → IsPlaceOf k i → IsChildWord z (w i)) → NameThere z (child_of k w)
children_there z k w body there b word low e = let at = child_stands k w b word body low e in subst (IsChildWord z) at.2 (there at.0 at.1)

-- and the map with one more child
pub with_child_there : (z : Sizes) (child : ℕ → Option ℕ) (byte c : ℕ) → NameThere z child → IsChildWord z c → NameThere z (with_child child byte c)
with_child_there z child byte c names there b word low e = elim (cases_eq b byte) [
  | inl here ↦
      let is : with_child child byte c b ≡ Some c = rw (eq-eqb b byte here) refl in
      subst (IsChildWord z) (same_Some c word (sym is ∙ e)) there
  | inr other ↦
      let is : with_child child byte c b ≡ child b = rw (ne_eqb b byte other) refl in
      names b word low (sym is ∙ e)
]

-- and the map with one child less
pub without_child_there : (z : Sizes) (child : ℕ → Option ℕ) (byte : ℕ) → NameThere z child → NameThere z (without_child child byte)
without_child_there z child byte names b word low e = elim (cases_eq b byte) [
  | inl here ↦
      let none : without_child child byte b ≡ None = rw (eq-eqb b byte here) refl in
      absurd (cc)
  | inr other ↦
      let is : without_child child byte b ≡ child b = rw (ne_eqb b byte other) refl in
      names b word low (sym is ∙ e)
]

-- the map that is the same at each byte
pub same_there : (z : Sizes) (child other : ℕ → Option ℕ) → ((b : ℕ) → b < 256 → other b ≡ child b) → NameThere z child → NameThere z other
same_there z child other same names b word low e = names b word low (sym (same b low) ∙ e)
