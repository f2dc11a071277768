-- The child of a byte in a list of children, as far as the list goes.
use Rattle.std.proofs.Common.{◌≡◌, ◌≢◌, ℕ, zero, suc, ◌+◌, ◌<◌, ◌≤◌, Bool, true, false, cond, eqb, List, [], ◌∷◌, ◌++◌, length, get_or, take, Option, Some, None, refl, sym, ap, ◌∙◌, inl, inr, arith, eq-eqb, ne_eqb}
use Rattle.std.proofs.lemmas.Bool.{cases_lt, cases_eq}
use Rattle.std.specs.List.{cons_option, find, range_with_len}
use Rattle.std.specs.Option.{option_map, option_and_then}
use Rattle.art_cell.specs.declared.cells.Layout.{Layout}
use Rattle.art_cell.specs.declared.cells.Layout.TheVariants.{Node4, Node16, Node48, Node256}
use Rattle.art_cell.specs.declared.node_kinds.Entry.{Entry}
use Rattle.art_cell.specs.Words.{Words, count_of, key_byte, nonzero, sorted_child, indexed_child, child_of, listed}
use Rattle.art_cell.specs.Reads.{with_child}

-- the child of the first entry of the byte
abbrev pub child_in : List Entry → ℕ → Option ℕ
child_in [] b = None
child_in (e ∷ es) b = cond (eqb e.byte b) (Some e.child) (child_in es b)

-- the list of a map's children gives its children
below_listed : (child : ℕ → Option ℕ) (from n b : ℕ) → b < from → child_in (listed child from n) b ≡ None
below_listed child from zero b low = refl
below_listed child from (suc n) b low = in_rest (child from) (listed child (from + 1) n) (below_listed child (from + 1) n b (omega arith))
  where
    in_rest : (o : Option ℕ) (es : List Entry) → child_in es b ≡ None → child_in (cons_option (option_map (λ c. record { byte = from; child = c }) o) es) b ≡ None
    in_rest None es rest = rest
    in_rest (Some c) es rest = rw (ne_eqb from b (λ e. omega arith)) rest

pub child_listed : (child : ℕ → Option ℕ) (from n b : ℕ) → from ≤ b → b < from + n → child_in (listed child from n) b ≡ child b
child_listed child from zero b low high = absurd (omega arith)
child_listed child from (suc n) b low high =
    elim (cases_lt from b) [
      | inl past ↦ past_first (child from) (listed child (from + 1) n) past (child_listed child (from + 1) n b (omega arith) (omega arith))
      | inr le ↦ let here : from ≡ b = omega arith in at_first (child from) (listed child (from + 1) n) here (ap child here) (below_listed child (from + 1) n b (omega arith))
    ]
  where
    past_first : (o : Option ℕ) (es : List Entry) → from < b → child_in es b ≡ child b → child_in (cons_option (option_map (λ c. record { byte = from; child = c }) o) es) b ≡ child b
    past_first None es past rest = rest
    past_first (Some c) es past rest = rw (ne_eqb from b (λ e. omega arith)) rest

    at_first : (o : Option ℕ) (es : List Entry) → from ≡ b → o ≡ child b → child_in es b ≡ None → child_in (cons_option (option_map (λ c. record { byte = from; child = c }) o) es) b ≡ child b
    at_first None es here is none = none ∙ is
    at_first (Some c) es here is none = rw (eq-eqb from b here) is

-- an entry of the list is a child of its map, and no entry before it has its byte
pub record IsNext (child : ℕ → Option ℕ) (from n : ℕ) (before : List Entry) (e : Entry) : Type 0 where
  pub low : from ≤ e.byte
  pub high : e.byte < from + n
  pub here : child e.byte ≡ Some e.child
  pub first : child_in before e.byte ≡ None

pub next_listed : (child : ℕ → Option ℕ) (from n i : ℕ) (d : Entry) → i < length (listed child from n) → IsNext child from n (take i (listed child from n)) (get_or (listed child from n) i d)
next_listed child from zero i d lt = absurd (omega arith)
next_listed child from (suc n) i d lt = by_first (child from) (listed child (from + 1) n) refl (λ j low. next_listed child (from + 1) n j d low) i lt
  where
    by_first : (o : Option ℕ) (es : List Entry) → child from ≡ o → ((j : ℕ) → j < length es → IsNext child (from + 1) n (take j es) (get_or es j d)) → (i : ℕ) → i < length (cons_option (option_map (λ c. record { byte = from; child = c }) o) es)
        → IsNext child from (suc n) (take i (cons_option (option_map (λ c. record { byte = from; child = c }) o) es)) (get_or (cons_option (option_map (λ c. record { byte = from; child = c }) o) es) i d)
    by_first None es is rest i lt = let r = rest i lt in record { low = omega (arith, r.low); high = omega (arith, r.high); here = r.here; first = r.first }
    by_first (Some c) es is rest zero lt = record { low = omega arith; high = omega arith; here = is; first = refl }
    by_first (Some c) es is rest (suc i) lt =
        let r = rest i (omega arith) in
        record { low = omega (arith, r.low); high = omega (arith, r.high); here = r.here; first = rw (ne_eqb from (get_or es i d).byte (λ e. omega (arith, r.low))) r.first }

-- the children up to one of them are those below the byte after its own
pub listed_upto : (child : ℕ → Option ℕ) (from n i m : ℕ) (d : Entry) → i < length (listed child from n) → from + m ≡ (get_or (listed child from n) i d).byte + 1 → listed child from m ≡ take (i + 1) (listed child from n)
listed_upto child from zero i m d lt is = absurd (omega arith)
listed_upto child from (suc n) i zero d lt is = let here = next_listed child from (suc n) i d lt in absurd (omega (arith, here.low, is))
listed_upto child from (suc n) i (suc m) d lt is =
    by_first (child from) (listed child (from + 1) n) (λ j low last. listed_upto child (from + 1) n j m d low last) (λ j low. (next_listed child (from + 1) n j d low).low) i lt is
  where
    by_first : (o : Option ℕ) (es : List Entry) → ((j : ℕ) → j < length es → from + 1 + m ≡ (get_or es j d).byte + 1 → listed child (from + 1) m ≡ take (j + 1) es) → ((j : ℕ) → j < length es → from + 1 ≤ (get_or es j d).byte)
        → (i : ℕ) → i < length (cons_option (option_map (λ c. record { byte = from; child = c }) o) es) → from + suc m ≡ (get_or (cons_option (option_map (λ c. record { byte = from; child = c }) o) es) i d).byte + 1
        → cons_option (option_map (λ c. record { byte = from; child = c }) o) (listed child (from + 1) m) ≡ take (i + 1) (cons_option (option_map (λ c. record { byte = from; child = c }) o) es)
    by_first None es rest above i lt is = rest i lt (omega arith)
    by_first (Some c) es rest above zero lt is =
        let none : m ≡ 0 = omega arith in
        ap (λ (k : ℕ). record { byte = from; child = c } ∷ listed child (from + 1) k) none
    by_first (Some c) es rest above (suc i) lt is =
        let more : suc (i + 1) ≡ suc i + 1 = omega arith in
        ap (λ (ys : List Entry). record { byte = from; child = c } ∷ ys) (rest i (omega arith) (omega arith))
        ∙ ap (λ (k : ℕ). take {A = Entry} k (record { byte = from; child = c } ∷ es)) more

-- one entry more
pub one_more_in : (es : List Entry) (e : Entry) (b : ℕ) → child_in es e.byte ≡ None → child_in (es ++ e ∷ []) b ≡ with_child (child_in es) e.byte e.child b
one_more_in es e b free =
    elim (cases_eq b e.byte) [
      | inl here ↦ rw (eq-eqb b e.byte here) (at_end es (ap (child_in es) here ∙ free) (sym here))
      | inr apart ↦ rw (ne_eqb b e.byte apart) (not_at es apart)
    ]
  where
    at_end : (xs : List Entry) → child_in xs b ≡ None → e.byte ≡ b → child_in (xs ++ e ∷ []) b ≡ Some e.child
    at_end [] none here = rw (eq-eqb e.byte b here) refl
    at_end (x ∷ xs) none here = by_byte (eqb x.byte b) none (λ rest. at_end xs rest here)
      where
        by_byte : (z : Bool) → cond z (Some x.child) (child_in xs b) ≡ None → (child_in xs b ≡ None → child_in (xs ++ e ∷ []) b ≡ Some e.child) → cond z (Some x.child) (child_in (xs ++ e ∷ []) b) ≡ Some e.child
        by_byte true none rest = absurd cc
        by_byte false none rest = rest none

    not_at : (xs : List Entry) → b ≢ e.byte → child_in (xs ++ e ∷ []) b ≡ child_in xs b
    not_at [] apart = rw (ne_eqb e.byte b (λ h. apart (sym h))) refl
    not_at (x ∷ xs) apart = ap (cond (eqb x.byte b) (Some x.child)) (not_at xs apart)

-- ---- a child word is not 0

nonzero_is : (c d : ℕ) → nonzero c ≡ Some d → 0 < d
nonzero_is zero d e = absurd cc
nonzero_is (suc c) d e = by_test (eqb (suc c) 0) e
  where
    by_test : (z : Bool) → cond z None (Some (suc c)) ≡ Some d → 0 < d
    by_test true e = absurd cc
    by_test false e = let same : suc c ≡ d = cc in omega arith

sorted_some : (first : ℕ) (w : Words) (b c : ℕ) → sorted_child first w b ≡ Some c → 0 < c
sorted_some first w b c e = by_find (find (λ i. eqb (key_byte w i) b) (range_with_len 0 (count_of w))) e
  where
    by_find : (o : Option ℕ) → option_and_then (λ i. nonzero (w (first + i))) o ≡ Some c → 0 < c
    by_find None e = absurd cc
    by_find (Some i) e = nonzero_is (w (first + i)) c e

indexed_some : (w : Words) (b c : ℕ) → indexed_child w b ≡ Some c → 0 < c
indexed_some w b c e = by_entry (eqb (key_byte w b) 0) e
  where
    by_entry : (z : Bool) → cond z None (nonzero (w (41 + key_byte w b))) ≡ Some c → 0 < c
    by_entry true e = absurd cc
    by_entry false e = nonzero_is (w (41 + key_byte w b)) c e

pub child_some : (k : Layout) (w : Words) (b c : ℕ) → child_of k w b ≡ Some c → 0 < c
child_some Node4 w b c e = sorted_some 11 w b c e
child_some Node16 w b c e = sorted_some 12 w b c e
child_some Node48 w b c e = indexed_some w b c e
child_some Node256 w b c e = nonzero_is (w (10 + b)) c e
