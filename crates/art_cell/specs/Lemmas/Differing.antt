-- How many words differ, and which, of a stretch of places and of a cell.
use Rattle.std.proofs.Common.{◌≡◌, ◌≢◌, ℕ, zero, suc, ◌+◌, ◌-◌, ◌<◌, ◌≤◌, Bool, true, false, cond, eqb, List, [], ◌∷◌, ◌++◌, length, Option, Some, None, refl, sym, subst, ap, ap₂, ◌∙◌, inl, inr, arith, eq-eqb, ne_eqb, length-append}
use Rattle.std.proofs.lemmas.Bool.{cases_eq}
use Rattle.std.proofs.lemmas.List.Elements.{filter_map-append}
use Rattle.std.specs.List.{range_with_len, cons_option, filter_map}
use Rattle.art_cell.specs.declared.cells.Layout.{Layout}
use Rattle.art_cell.specs.declared.cells.Layout.TheVariants.{Node4, Node16, Node48, Node256}
use Rattle.art_cell.specs.declared.cells.Write.{Write}
use Rattle.art_cell.specs.Reads.{change_at, changes}
use Rattle.art_cell.specs.Words.{Words, size}

-- a stretch of places, and the next one
pub range_both : (a m n : ℕ) → range_with_len a (m + n) ≡ range_with_len a m ++ range_with_len (a + m) n
range_both a zero n =
    let start : a ≡ a + 0 = omega arith in
    let count : 0 + n ≡ n = omega arith in
    ap₂ (λ (b k : ℕ). range_with_len b k) start count
range_both a (suc m) n =
    let count : suc m + n ≡ suc (m + n) = omega arith in
    let start : a + 1 + m ≡ a + suc m = omega arith in
    let rest = range_both (a + 1) m n ∙ ap (λ (b : ℕ). range_with_len (a + 1) m ++ range_with_len b n) start in
    ap (range_with_len a) count ∙ ap (λ (ps : List ℕ). a ∷ ps) rest

module _ (w after : Words) where
  -- the words that differ, of so many places from one on
  abbrev pub differing : ℕ → ℕ → List Write
  differing from n = filter_map (change_at w after) (range_with_len from n)

  -- one place more is one word more at most
  one_more : (place : ℕ) (others : List Write) → length (cons_option (change_at w after place) others) ≤ length others + 1
  one_more place others = by_change (eqb (w place) (after place))
    where
      by_change : (same : Bool)
          → length (cons_option (cond same None (Some (record { place = place; value = after place }))) others) ≤ length others + 1
      by_change true = omega arith
      by_change false = omega arith

  -- and none where the word is the same
  none_more : (place : ℕ) (others : List Write) → w place ≡ after place
      → length (cons_option (change_at w after place) others) ≡ length others
  none_more place others same = rw (eq-eqb (w place) (after place) same) refl

  -- ---- a stretch of places

  pub differing_most : (from n : ℕ) → length (differing from n) ≤ n
  differing_most from zero = omega arith
  differing_most from (suc n) =
      let more = one_more from (differing (from + 1) n) in
      let rest = differing_most (from + 1) n in
      omega arith

  -- no word differs
  pub differing_none : (from n : ℕ) → ((p : ℕ) → from ≤ p → p < from + n → w p ≡ after p) → length (differing from n) ≡ 0
  differing_none from zero same = refl
  differing_none from (suc n) same =
      none_more from (differing (from + 1) n) (same from (omega arith) (omega arith))
      ∙ differing_none (from + 1) n (λ p low high. same p (omega arith) (omega arith))

  -- no word but that at this place differs
  pub differing_one : (at from n : ℕ) → ((p : ℕ) → from ≤ p → p < from + n → p ≢ at → w p ≡ after p) → length (differing from n) ≤ 1
  differing_one at from zero same = omega arith
  differing_one at from (suc n) same =
      elim (cases_eq from at) [
        | inl here ↦
            let more = one_more from (differing (from + 1) n) in
            let rest = differing_none (from + 1) n (λ p low high. same p (omega arith) (omega arith) (λ e. omega arith)) in
            omega arith
        | inr other ↦
            let none = none_more from (differing (from + 1) n) (same from (omega arith) (omega arith) other) in
            let rest = differing_one at (from + 1) n (λ p low high apart. same p (omega arith) (omega arith) apart) in
            omega arith
      ]

  -- a stretch and the next one
  differing_both : (from m n : ℕ) → length (differing from (m + n)) ≡ length (differing from m) + length (differing (from + m) n)
  differing_both from m n =
      ap (λ (ps : List ℕ). length (filter_map (change_at w after) ps)) (range_both from m n)
      ∙ ap (λ (xs : List Write). length xs) (filter_map-append (change_at w after) (range_with_len from m) (range_with_len (from + m) n))
      ∙ length-append (differing from m) (differing (from + m) n)

  -- ---- which words differ

  no_change : (place : ℕ) → w place ≡ after place → change_at w after place ≡ None
  no_change place same = ap (λ (b : Bool). cond b None (Some (record { place = place; value = after place }))) (eq-eqb (w place) (after place) same)

  one_change : (place : ℕ) → w place ≢ after place → change_at w after place ≡ Some (record { place = place; value = after place })
  one_change place other = ap (λ (b : Bool). cond b None (Some (record { place = place; value = after place }))) (ne_eqb (w place) (after place) other)

  nothing_differs : (from n : ℕ) → ((p : ℕ) → from ≤ p → p < from + n → w p ≡ after p) → differing from n ≡ []
  nothing_differs from zero same = refl
  nothing_differs from (suc n) same =
      ap (λ (o : Option Write). cons_option o (differing (from + 1) n)) (no_change from (same from (omega arith) (omega arith)))
      ∙ nothing_differs (from + 1) n (λ p low high. same p (omega arith) (omega arith))

  -- the words of the list differ, in ascending place, and no others of the stretch
  abbrev pub AreAll : ℕ → ℕ → List Write → Type 0
  AreAll from end [] = (p : ℕ) → from ≤ p → p < end → w p ≡ after p
  AreAll from end (x ∷ xs) =
      (from ≤ x.place) × (x.place < end) × (x.value ≡ after x.place) × (w x.place ≢ after x.place)
      × ((p : ℕ) → from ≤ p → p < x.place → w p ≡ after p) × AreAll (x.place + 1) end xs

  differ_from : (n from end : ℕ) (xs : List Write) → from + n ≡ end → AreAll from end xs → differing from n ≡ xs
  differ_from n from end [] is same = nothing_differs from n (λ p low high. same p low (omega arith))
  differ_from zero from end (x ∷ xs) is all = absurd (omega (arith, is, all.0, all.1))
  differ_from (suc n) from end (x ∷ xs) is all =
      elim (cases_eq from x.place) [
        | inl here ↦
            ap (λ (o : Option Write). cons_option o (differing (from + 1) n)) (one_change from (subst (λ (p : ℕ). w p ≢ after p) (sym here) all.3))
            ∙ ap₂ (λ (y : Write) (ys : List Write). y ∷ ys) (written_at from x here all.2)
            (differ_from n (from + 1) end xs (omega arith) (subst (λ (p : ℕ). AreAll (p + 1) end xs) (sym here) all.5))
        | inr other ↦
            ap (λ (o : Option Write). cons_option o (differing (from + 1) n)) (no_change from (all.4 from (omega arith) (omega (arith, all.0, other))))
            ∙ differ_from n (from + 1) end (x ∷ xs) (omega arith)
            (omega (arith, all.0, other), all.1, all.2, all.3, (λ p low high. all.4 p (omega arith) high), all.5)
      ]
    where
      written_at : (p : ℕ) (x : Write) → p ≡ x.place → x.value ≡ after x.place → record { place = p; value = after p } ≡ x
      written_at p x here value = ap₂ (λ (q v : ℕ). record { place = q; value = v }) here (ap after here ∙ sym value)

  -- of a cell
  pub exact_changes : (k : Layout) (xs : List Write) → AreAll 1 (size k) xs → xs ≡ changes k w after
  exact_changes k xs all = sym (differ_from (size k - 1) 1 (size k) xs (some_words k) all)
    where
      some_words : (k : Layout) → 1 + (size k - 1) ≡ size k
      some_words Node4 = omega arith
      some_words Node16 = omega arith
      some_words Node48 = omega arith
      some_words Node256 = omega arith

  -- ---- a cell

  -- no word but that at this place differs
  pub one_differs : (k : Layout) (at : ℕ) → ((p : ℕ) → 0 < p → p < size k → p ≢ at → w p ≡ after p) → length (changes k w after) ≤ 1
  one_differs k at same = differing_one at 1 (size k - 1) (λ p low high apart. same p (omega arith) (omega arith) apart)

  -- none after these differs
  pub first_differ : (k : Layout) (n rest : ℕ) → size k ≡ 1 + n + rest → ((p : ℕ) → 1 + n ≤ p → w p ≡ after p)
      → length (changes k w after) ≤ n
  first_differ k n rest is same =
      let count : size k - 1 ≡ n + rest = omega arith in
      let all = ap (λ (m : ℕ). length (differing 1 m)) count in
      let both = differing_both 1 n rest in
      let first = differing_most 1 n in
      let past = differing_none (1 + n) rest (λ p low high. same p low) in
      omega arith

  -- the prefix stays: the header may differ, and words of the two stretches after the prefix
  pub after_prefix : (k : Layout) (keys children : ℕ) → size k ≡ 10 + keys + children → ((p : ℕ) → 2 ≤ p → p < 10 → w p ≡ after p)
      → length (changes k w after) ≤ 1 + length (differing 10 keys) + length (differing (10 + keys) children)
  after_prefix k keys children is same =
      let count : size k - 1 ≡ 1 + (8 + (keys + children)) = omega arith in
      let all = ap (λ (m : ℕ). length (differing 1 m)) count in
      let past_header = differing_both 1 1 (8 + (keys + children)) in
      let past_prefix = differing_both 2 8 (keys + children) in
      let past_keys = differing_both 10 keys children in
      let header = differing_most 1 1 in
      let prefix = differing_none 2 8 same in
      omega arith
