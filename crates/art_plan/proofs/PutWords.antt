-- What puts make of the words of a target.
use Rattle.std.proofs.Common.{◌≡◌, ◌≢◌, ◌⊎◌, ℕ, zero, suc, ◌+◌, ◌-◌, ◌<◌, ◌≤◌, List, [], ◌∷◌, ◌++◌, length, set, get_or, eqb, cond, true, false, Bool, Some, None, refl, sym, ap, ◌∙◌, subst, inl, inr, ⊎_elim, arith, eq-eqb, ne_eqb, get_or-set_other, get_or-set_same}
use Rattle.std.proofs.lemmas.Bool.{cases_eq}
use Rattle.std.proofs.lemmas.List.{length-set}
use Rattle.std.specs.List.{cons_option, filter_map, range_with_len}
use Rattle.art_cell.specs.Reads.{change_at, changes, written}
use Rattle.art_cell.specs.Words.{Words, size}
use Rattle.art_cell.specs.declared.cells.Layout.{Layout}
use Rattle.art_cell.specs.declared.cells.Write.{Write}
use Rattle.art_plan.specs.Changes.{with_puts}
use Rattle.art_plan.specs.declared.changes.Put.{Put}
use Rattle.art_step.specs.Views.{Member, words_in}
use Rattle.art_plan.specs.Puts.{put_of, puts_of}

-- ---- puts of one target and of others

pub with_puts-append : (i : ℕ) (ps qs : List Put) (ws : List ℕ) → with_puts i (ps ++ qs) ws ≡ with_puts i qs (with_puts i ps ws)
with_puts-append i [] qs ws = refl
with_puts-append i (p ∷ ps) qs ws = with_puts-append i ps qs (cond (eqb p.target i) (set ws p.place p.value) ws)

-- those of another target do nothing
pub with_puts-other : (i j : ℕ) (writes : List Write) (ws : List ℕ) → j ≢ i → with_puts i (puts_of j writes) ws ≡ ws
with_puts-other i j [] ws other = refl
with_puts-other i j (x ∷ xs) ws other =
    ap (λ (b : Bool). with_puts i (puts_of j xs) (cond b (set ws x.place x.value) ws)) (ne_eqb j i other) ∙ with_puts-other i j xs ws other

-- ---- writes whose values are those of these words

pub record Agree (writes : List Write) (n : ℕ) (after : Words) : Type 0 where
  pub within : (x : Write) → Member x writes → (0 < x.place) × (x.place < n)
  pub value : (x : Write) → Member x writes → x.value ≡ after x.place

agree_tail : (x : Write) (xs : List Write) (n : ℕ) (after : Words) → Agree (x ∷ xs) n after → Agree xs n after
agree_tail x xs n after a = record { within = λ y i. a.within y (inr i); value = λ y i. a.value y (inr i) }

-- a place that one of the writes has
abbrev IsPlaceAmong : List Write → ℕ → Type 0
IsPlaceAmong writes p = (x : Write) × Member x writes × (x.place ≡ p)

-- the words at a place that is written, or has its word already
put_words : (i : ℕ) (writes : List Write) (ws : List ℕ) (after : Words) (p : ℕ) → Agree writes (length ws) after → (words_in ws p ≡ after p) ⊎ IsPlaceAmong writes p
    → words_in (with_puts i (puts_of i writes) ws) p ≡ after p
put_words i [] ws after p a (inl is) = is
put_words i [] ws after p a (inr at) = absurd at.1
put_words i (x ∷ xs) ws after p a either =
    ap (λ (b : Bool). words_in (with_puts i (puts_of i xs) (cond b (set ws x.place x.value) ws)) p) (eq-eqb i i refl)
    ∙ put_words i xs (set ws x.place x.value) after p rest next
  where
    long : length (set ws x.place x.value) ≡ length ws
    long = length-set ws x.place x.value

    rest : Agree xs (length (set ws x.place x.value)) after
    rest = subst (λ (n : ℕ). Agree xs n after) (sym long) (agree_tail x xs (length ws) after a)

    next : (words_in (set ws x.place x.value) p ≡ after p) ⊎ IsPlaceAmong xs p
    next = elim (cases_eq p x.place) [
      | inl here ↦
          inl (ap (λ (q : ℕ). get_or (set ws x.place x.value) q 0) here
          ∙ get_or-set_same ws x.place x.value 0 (a.within x (inl refl)).1
          ∙ a.value x (inl refl)
          ∙ ap after (sym here))
      | inr other ↦ ⊎_elim
          (λ (is : words_in ws p ≡ after p). inl (get_or-set_other ws x.place p x.value 0 other ∙ is))
          (λ (at : IsPlaceAmong (x ∷ xs) p). ⊎_elim (λ (e : at.0 ≡ x). absurd (other (sym at.2 ∙ ap (λ (y : Write). y.place) e))) (λ (j : Member at.0 xs). inr (at.0, j, at.2)) at.1)
          either
    ]

-- a place is written, or has the word that it had
written_or : (w : Words) (writes : List Write) (p : ℕ) → (w p ≡ written w writes p) ⊎ IsPlaceAmong writes p
written_or w [] p = inl refl
written_or w (x ∷ xs) p = elim (cases_eq x.place p) [
  | inl here ↦ inr (x, inl refl, here)
  | inr other ↦
      let is : written w (x ∷ xs) p ≡ written w xs p = rw (ne_eqb x.place p other) refl in
      ⊎_elim
      (λ (e : w p ≡ written w xs p). inl (e ∙ sym is))
      (λ (at : IsPlaceAmong xs p). inr (at.0, inr at.1, at.2))
      (written_or w xs p)
]

-- the words that the puts of a target make are those that its writes make
pub puts_write : (i : ℕ) (writes : List Write) (ws : List ℕ) → Agree writes (length ws) (written (words_in ws) writes) → words_in (with_puts i (puts_of i writes) ws) ≡ written (words_in ws) writes
puts_write i writes ws a = λ j p. put_words i writes ws (written (words_in ws) writes) p a (written_or (words_in ws) writes p) j

-- ---- the writes of a plan

-- what a change at a place gives
change_is : (w after : Words) (place : ℕ) (others : List Write) (x : Write) → Member x (cons_option (change_at w after place) others) → ((x.place ≡ place) × (x.value ≡ after place)) ⊎ Member x others
change_is w after place others x = by_change (eqb (w place) (after place))
  where
    by_change : (same : Bool) → Member x (cons_option (cond same None (Some (record { place = place; value = after place }))) others) → ((x.place ≡ place) × (x.value ≡ after place)) ⊎ Member x others
    by_change true m = inr m
    by_change false m = ⊎_elim
        (λ (e : x ≡ record { place = place; value = after place }). inl (ap (λ (y : Write). y.place) e, ap (λ (y : Write). y.value) e))
        (λ (j : Member x others). inr j)
        m

changed_in : (w after : Words) (from n : ℕ) (x : Write) → Member x (filter_map (change_at w after) (range_with_len from n)) → (from ≤ x.place) × (x.place < from + n) × (x.value ≡ after x.place)
changed_in w after from zero x m = absurd m
changed_in w after from (suc n) x m = ⊎_elim
    (λ (e : (x.place ≡ from) × (x.value ≡ after from)). (omega (arith, e.0), omega (arith, e.0), e.1 ∙ ap after (sym e.0)))
    (λ (j : Member x (filter_map (change_at w after) (range_with_len (from + 1) n))).
    let rest = changed_in w after (from + 1) n x j in
    (omega (arith, rest.0), omega (arith, rest.1), rest.2))
    (change_is w after from (filter_map (change_at w after) (range_with_len (from + 1) n)) x m)

-- the words that differ, within the cell, have the new values
pub changes_agree : (k : Layout) (w after : Words) (writes : List Write) → writes ≡ changes k w after → Agree writes (size k) after
changes_agree k w after writes e = subst (λ (xs : List Write). Agree xs (size k) after) (sym e) (record {
  within = λ x m. let is = changed_in w after 1 (size k - 1) x m in (omega (arith, is.0), omega (arith, is.0, is.1));
  value = λ x m. (changed_in w after 1 (size k - 1) x m).2;
})

-- ---- one of the puts

-- a put of a target is one of its writes
pub put_is : (i : ℕ) (writes : List Write) (p : Put) → Member p (puts_of i writes) → (x : Write) × Member x writes × (p ≡ put_of i x)
put_is i [] p m = absurd m
put_is i (x ∷ xs) p m = ⊎_elim
    (λ (e : p ≡ put_of i x). (x, inl refl, e))
    (λ (j : Member p (puts_of i xs)). let rest = put_is i xs p j in (rest.0, inr rest.1, rest.2))
    m
