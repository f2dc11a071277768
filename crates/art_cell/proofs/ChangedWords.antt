-- What a change writes, and what the words are after it.
use Rattle.std.proofs.Common.{◌≡◌, ◌≢◌, ◌⊎◌, ℕ, zero, suc, ◌+◌, ◌-◌, ◌<◌, ◌≤◌, Bool, true, false, cond, eqb, List, [], ◌∷◌, ◌++◌, Option, Some, None, refl, sym, ap, subst, ◌∙◌, inl, inr, arith, eq-eqb, ne_eqb, eqb-true}
use Rattle.std.proofs.lemmas.Bool.{cases_lt}
use Rattle.std.specs.List.{range_with_len, cons_option, filter_map}
use Rattle.std.proofs.lemmas.List.Elements.{filter_map-append}
use Rattle.art_cell.specs.declared.cells.Write.{Write}
use Rattle.art_cell.specs.declared.cells.Layout.{Layout}
use Rattle.art_cell.specs.declared.cells.Layout.TheVariants.{Node4, Node16, Node48, Node256}
use Rattle.art_cell.specs.Bodies.{Becomes}
use Rattle.art_cell.specs.Words.{Words, size}
use Rattle.art_cell.specs.Reads.{written, change_at, changes, SameOutside, IsPlan}

range_more : (a n : ℕ) → range_with_len a (suc n) ≡ range_with_len a n ++ (a + n) ∷ []
range_more a zero = ap (λ (m : ℕ). m ∷ []) (omega arith)
range_more a (suc n) = ap (λ (ns : List ℕ). a ∷ ns) (range_more (a + 1) n ∙ ap (λ (m : ℕ). range_with_len (a + 1) n ++ m ∷ []) (omega arith))

-- the changes up to one place more
pub changes_more : (w after : Words) (place n : ℕ) → 1 + n ≡ place → filter_map (change_at w after) (range_with_len 1 (suc n)) ≡ filter_map (change_at w after) (range_with_len 1 n) ++ cons_option (change_at w after place) []
changes_more w after place n e =
    ap (filter_map (change_at w after)) (range_more 1 n)
    ∙ filter_map-append (change_at w after) (range_with_len 1 n) ((1 + n) ∷ [])
    ∙ ap (λ (p : ℕ). filter_map (change_at w after) (range_with_len 1 n) ++ cons_option (change_at w after p) []) e

-- one place more, whose word differs or not
pub goes_on : (w after : Words) (place : ℕ) (so_far now : List Write) → 1 ≤ place → so_far ≡ filter_map (change_at w after) (range_with_len 1 (place - 1)) → now ≡ so_far ++ cons_option (change_at w after place) []
    → now ≡ filter_map (change_at w after) (range_with_len 1 (place + 1 - 1))
goes_on w after place so_far now low invariant more =
    let same : place + 1 - 1 ≡ suc (place - 1) = omega arith in
    more
    ∙ ap (λ (ws : List Write). ws ++ cons_option (change_at w after place) []) invariant
    ∙ sym (changes_more w after place (place - 1) (omega arith))
    ∙ ap (λ (n : ℕ). filter_map (change_at w after) (range_with_len 1 n)) (sym same)

pub change_where : (w after : Words) (place : ℕ) → w place ≢ after place → change_at w after place ≡ Some (record { place = place; value = after place })
change_where w after place other = rw (ne_eqb (w place) (after place) other) refl

pub no_change_where : (w after : Words) (place : ℕ) → w place ≡ after place → change_at w after place ≡ None
no_change_where w after place same = rw (eq-eqb (w place) (after place) same) refl

-- ---- after the changes the words are those that were wanted

not_at : (w after : Words) (a p : ℕ) (others : List Write) → a ≢ p → written w (cons_option (change_at w after a) others) p ≡ written w others p
not_at w after a p others apart = by_change (eqb (w a) (after a))
  where
    by_change : (same : Bool) → written w (cons_option (cond same None (Some (record { place = a; value = after a }))) others) p ≡ written w others p
    by_change true = refl
    by_change false = rw (ne_eqb a p apart) refl

at_place : (w after : Words) (a : ℕ) (others : List Write) → written w others a ≡ w a → written w (cons_option (change_at w after a) others) a ≡ after a
at_place w after a others rest = by_change (eqb (w a) (after a)) refl
  where
    by_change : (same : Bool) → eqb (w a) (after a) ≡ same → written w (cons_option (cond same None (Some (record { place = a; value = after a }))) others) a ≡ after a
    by_change true e = rest ∙ eqb-true (w a) (after a) e
    by_change false e = rw (eq-eqb a a refl) refl

-- at a place before the changes, or after them, the word is as it was
written_elsewhere : (w after : Words) (a n p : ℕ) → (p < a) ⊎ (a + n ≤ p) → written w (filter_map (change_at w after) (range_with_len a n)) p ≡ w p
written_elsewhere w after a zero p away = refl
written_elsewhere w after a (suc n) p (inl low) =
    not_at w after a p (filter_map (change_at w after) (range_with_len (a + 1) n)) (λ e. omega arith) ∙ written_elsewhere w after (a + 1) n p (inl (omega arith))
written_elsewhere w after a (suc n) p (inr high) =
    not_at w after a p (filter_map (change_at w after) (range_with_len (a + 1) n)) (λ e. omega arith) ∙ written_elsewhere w after (a + 1) n p (inr (omega arith))

written_here : (w after : Words) (a n p : ℕ) → a ≤ p → p < a + n → written w (filter_map (change_at w after) (range_with_len a n)) p ≡ after p
written_here w after a zero p low high = absurd (omega arith)
written_here w after a (suc n) p low high =
    elim (cases_lt a p) [
      | inl past ↦
          not_at w after a p (filter_map (change_at w after) (range_with_len (a + 1) n)) (λ e. omega arith) ∙ written_here w after (a + 1) n p (omega arith) (omega arith)
      | inr le ↦
          let here : p ≡ a = omega arith in
          let others = filter_map (change_at w after) (range_with_len (a + 1) n) in
          subst (λ (q : ℕ). written w (cons_option (change_at w after a) others) q ≡ after q) (sym here) (
          at_place w after a others (written_elsewhere w after (a + 1) n a (inl (omega arith)))
          )
    ]

pub written-changes : (k : Layout) (w after : Words) → 0 < size k → SameOutside k w after → (p : ℕ) → written w (changes k w after) p ≡ after p
written-changes k w after some outside p =
    elim (cases_lt p 1) [
      | inl low ↦ written_elsewhere w after 1 (size k - 1) p (inl low) ∙ at_zero p low
      | inr within ↦
          elim (cases_lt p (size k)) [
            | inl high ↦ written_here w after 1 (size k - 1) p within (omega arith)
            | inr past ↦ written_elsewhere w after 1 (size k - 1) p (inr (omega arith)) ∙ outside.1 p past
          ]
    ]
  where
    at_zero : (p : ℕ) → p < 1 → w p ≡ after p
    at_zero zero low = outside.0
    at_zero (suc p) low = absurd (omega arith)

some_words : (k : Layout) → 0 < size k
some_words Node4 = omega arith
some_words Node16 = omega arith
some_words Node48 = omega arith
some_words Node256 = omega arith

-- what a plan writes makes of the words what the change does
pub plan_from : (k : Layout) (w after : Words) (writes : List Write) (child : ℕ → Option ℕ) → SameOutside k w after → writes ≡ changes k w after → Becomes k w after child → IsPlan k w writes child
plan_from k w after writes child outside exact becomes =
    let same : written w writes ≡ after = ap (written w) exact ∙ (λ i p. written-changes k w after (some_words k) outside p i) in
    record {
      becomes = subst (λ (v : Words). Becomes k w v child) (sym same) becomes;
      exact = exact ∙ ap (changes k w) (sym same);
      outside = subst (SameOutside k w) (sym same) outside;
    }
