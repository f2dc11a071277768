-- Bytes compared with those of a key: behind others, among more, in another text, and that one result is right.
use Rattle.std.proofs.Common.{◌≡◌, ◌≢◌, ◌⊎◌, inl, inr, ℕ, ◌+◌, ◌-◌, ◌<◌, ◌≤◌, List, length, get_or, refl, sym, ap, ◌∙◌, subst, arith}
use Rattle.std.proofs.lemmas.Bool.{cases_lt, cases_order}
use Rattle.art_path.specs.declared.compared.Compared.{Compared}
use Rattle.art_path.specs.declared.compared.Compared.TheVariants.{Same, Below, Above}
use Rattle.art_path.specs.Compared.{AreSame, IsCompared, index_of, behind}

-- ---- the same bytes

pub same_none : (bytes : ℕ → ℕ) (key : List ℕ) (from : ℕ) → from ≤ length key → AreSame bytes 0 key from
same_none bytes key from within = record { within = omega arith; same = λ i low. absurd (omega arith) }

pub same_less : (bytes : ℕ → ℕ) (few many : ℕ) (key : List ℕ) (from : ℕ) → few ≤ many → AreSame bytes many key from → AreSame bytes few key from
same_less bytes few many key from le are = record { within = omega (arith, are.within); same = λ i low. are.same i (omega arith) }

-- one byte more
pub same_next : (bytes : ℕ → ℕ) (count : ℕ) (key : List ℕ) (from : ℕ) → AreSame bytes count key from → from + count < length key → bytes count ≡ get_or key (from + count) 0 → AreSame bytes (count + 1) key from
same_next bytes count key from are within is = record { within = omega arith; same = same }
  where
    same : (i : ℕ) → i < count + 1 → bytes i ≡ get_or key (from + i) 0
    same i low =
        elim (cases_lt i count) [
          | inl less ↦ are.same i less
          | inr not_less ↦
              let here : count ≡ i = omega arith in
              subst (λ (j : ℕ). bytes j ≡ get_or key (from + j) 0) here is
        ]

-- bytes behind others
pub same_more : (bytes : ℕ → ℕ) (n c : ℕ) (key : List ℕ) (from : ℕ) → AreSame bytes n key from → AreSame (λ i. bytes (n + i)) c key (from + n) → AreSame bytes (n + c) key from
same_more bytes n c key from first others = record { within = omega (arith, others.within); same = same }
  where
    same : (i : ℕ) → i < n + c → bytes i ≡ get_or key (from + i) 0
    same i low =
        elim (cases_lt i n) [
          | inl less ↦ first.same i less
          | inr not_less ↦
              let here : n + (i - n) ≡ i = omega arith in
              let there : from + n + (i - n) ≡ from + i = omega arith in
              ap bytes (sym here) ∙ others.same (i - n) (omega arith) ∙ ap (λ (j : ℕ). get_or key j 0) there
        ]

-- other bytes that are as these
same_bytes : (bytes others : ℕ → ℕ) (count : ℕ) (key : List ℕ) (from : ℕ) → ((i : ℕ) → i < count → bytes i ≡ others i) → AreSame bytes count key from → AreSame others count key from
same_bytes bytes others count key from agree are = record { within = are.within; same = λ i low. sym (agree i low) ∙ are.same i low }

-- ---- comparisons

-- the index is one of so many
pub compared_low : (bytes : ℕ → ℕ) (count : ℕ) (key : List ℕ) (from : ℕ) (r : Compared) → IsCompared bytes count key from r → index_of r ≤ count
compared_low bytes count key from Same are = omega arith
compared_low bytes count key from (Below at) is = omega (arith, is.0)
compared_low bytes count key from (Above at) is = omega (arith, is.0)

-- where the first bytes are the same, and so many behind them are compared, all of them are
pub compared_more : (bytes : ℕ → ℕ) (n c : ℕ) (key : List ℕ) (from : ℕ) (r : Compared) → AreSame bytes n key from → IsCompared (λ i. bytes (n + i)) c key (from + n) r → IsCompared bytes (n + c) key from (behind n r)
compared_more bytes n c key from Same first is = same_more bytes n c key from first is
compared_more bytes n c key from (Below at) first is =
    let place : from + n + at ≡ from + (n + at) = omega arith in
    (omega (arith, is.0), same_more bytes n at key from first is.1, omega (arith, is.2), subst (λ (j : ℕ). bytes (n + at) < get_or key j 0) place is.3)
compared_more bytes n c key from (Above at) first is =
    let place : from + n + at ≡ from + (n + at) = omega arith in
    (omega (arith, is.0), same_more bytes n at key from first is.1, subst (λ (j : ℕ). (j ≡ length key) ⊎ ((j < length key) × (get_or key j 0 < bytes (n + at)))) place is.2)

-- what parts the first bytes from the key's parts more of them
pub compared_on : (bytes : ℕ → ℕ) (n c : ℕ) (key : List ℕ) (from : ℕ) (r : Compared) → r ≢ Same → IsCompared bytes n key from r → IsCompared bytes (n + c) key from r
compared_on bytes n c key from Same parts is = absurd (parts refl)
compared_on bytes n c key from (Below at) parts is = (omega (arith, is.0), is.1, is.2, is.3)
compared_on bytes n c key from (Above at) parts is = (omega (arith, is.0), is.1, is.2)

-- other bytes that are as these
pub compared_bytes : (bytes others : ℕ → ℕ) (count : ℕ) (key : List ℕ) (from : ℕ) (r : Compared) → ((i : ℕ) → i < count → bytes i ≡ others i) → IsCompared bytes count key from r → IsCompared others count key from r
compared_bytes bytes others count key from Same agree is = same_bytes bytes others count key from agree is
compared_bytes bytes others count key from (Below at) agree is =
    (is.0, same_bytes bytes others at key from (λ i low. agree i (omega (arith, low, is.0))) is.1, is.2, subst (λ (byte : ℕ). byte < get_or key (from + at) 0) (agree at is.0) is.3)
compared_bytes bytes others count key from (Above at) agree is = (
  is.0,
  same_bytes bytes others at key from (λ i low. agree i (omega (arith, low, is.0))) is.1,
  subst (λ (byte : ℕ). (from + at ≡ length key) ⊎ ((from + at < length key) × (get_or key (from + at) 0 < byte))) (agree at is.0) is.2,
)

-- bytes of the key that stand in another text too, so many from a place on
pub record StandIn (key : List ℕ) (from : ℕ) (text : List ℕ) (place count : ℕ) : Type 0 where
  pub within_key : from + count ≤ length key
  pub within_text : place + count ≤ length text
  pub same : (i : ℕ) → i < count → get_or key (from + i) 0 ≡ get_or text (place + i) 0

same_text : (bytes : ℕ → ℕ) (n count : ℕ) (key : List ℕ) (from : ℕ) (text : List ℕ) (place : ℕ) → StandIn key from text place count → n ≤ count → AreSame bytes n key from → AreSame bytes n text place
same_text bytes n count key from text place stand le are = record {
  within = omega (arith, stand.within_text);
  same = λ i low. are.same i low ∙ stand.same i (omega arith);
}

pub compared_text : (bytes : ℕ → ℕ) (count : ℕ) (key : List ℕ) (from : ℕ) (text : List ℕ) (place : ℕ) (r : Compared) → StandIn key from text place count → IsCompared bytes count key from r → IsCompared bytes count text place r
compared_text bytes count key from text place Same stand is = same_text bytes count count key from text place stand (omega arith) is
compared_text bytes count key from text place (Below at) stand is =
    (is.0, same_text bytes at count key from text place stand (omega (arith, is.0)) is.1, omega (arith, is.0, stand.within_text), subst (λ (byte : ℕ). bytes at < byte) (stand.same at is.0) is.3)
compared_text bytes count key from text place (Above at) stand is = (
  is.0,
  same_text bytes at count key from text place stand (omega (arith, is.0)) is.1,
  elim is.2 as (λ _. (place + at ≡ length text) ⊎ ((place + at < length text) × (get_or text (place + at) 0 < bytes at))) [
    | inl ended ↦ absurd (omega (arith, is.0, ended, stand.within_key))
    | inr above ↦ inr (omega (arith, is.0, stand.within_text), subst (λ (byte : ℕ). byte < bytes at) (stand.same at is.0) above.1)
  ],
)

-- ---- one result is right

-- the bytes are the key's up to an index, and not the one there
record PartAt (bytes : ℕ → ℕ) (count : ℕ) (key : List ℕ) (from at : ℕ) : Type 0 where
  low : at < count
  before : AreSame bytes at key from
  not_there : AreSame bytes (at + 1) key from → ⊥

below_parts : (bytes : ℕ → ℕ) (count : ℕ) (key : List ℕ) (from at : ℕ) → IsCompared bytes count key from (Below at) → PartAt bytes count key from at
below_parts bytes count key from at is = record { low = is.0; before = is.1; not_there = λ are. omega (arith, is.3, are.same at (omega arith)) }

above_parts : (bytes : ℕ → ℕ) (count : ℕ) (key : List ℕ) (from at : ℕ) → IsCompared bytes count key from (Above at) → PartAt bytes count key from at
above_parts bytes count key from at is = record {
  low = is.0;
  before = is.1;
  not_there = λ are.
      elim is.2 [
        | inl ended ↦ omega (arith, ended, are.within)
        | inr above ↦ omega (arith, above.1, are.same at (omega arith))
      ];
}

never_same : (bytes : ℕ → ℕ) (count : ℕ) (key : List ℕ) (from at : ℕ) → AreSame bytes count key from → PartAt bytes count key from at → ⊥
never_same bytes count key from at are p = p.not_there (same_less bytes (at + 1) count key from (omega (arith, p.low)) are)

one_index : (bytes : ℕ → ℕ) (count : ℕ) (key : List ℕ) (from a b : ℕ) → PartAt bytes count key from a → PartAt bytes count key from b → a ≡ b
one_index bytes count key from a b p q =
    elim (cases_order a b) [
      | inl same ↦ same
      | inr apart ↦
          elim apart [
            | inl less ↦ absurd (p.not_there (same_less bytes (a + 1) b key from (omega arith) q.before))
            | inr more ↦ absurd (q.not_there (same_less bytes (b + 1) a key from (omega arith) p.before))
          ]
    ]

below_or_above : (bytes : ℕ → ℕ) (count : ℕ) (key : List ℕ) (from a b : ℕ) → IsCompared bytes count key from (Below a) → IsCompared bytes count key from (Above b) → ⊥
below_or_above bytes count key from a b is is' =
    let one : a ≡ b = one_index bytes count key from a b (below_parts bytes count key from a is) (above_parts bytes count key from b is') in
    let here = subst (λ (at : ℕ). (from + at < length key) × (bytes at < get_or key (from + at) 0)) one (is.2, is.3) in
    elim is'.2 [
      | inl ended ↦ omega (arith, ended, here.0)
      | inr above ↦ omega (arith, above.1, here.1)
    ]

pub one_result : (bytes : ℕ → ℕ) (count : ℕ) (key : List ℕ) (from : ℕ) (r s : Compared) → IsCompared bytes count key from r → IsCompared bytes count key from s → r ≡ s
one_result bytes count key from Same Same is is' = refl
one_result bytes count key from Same (Below b) is is' = absurd (never_same bytes count key from b is (below_parts bytes count key from b is'))
one_result bytes count key from Same (Above b) is is' = absurd (never_same bytes count key from b is (above_parts bytes count key from b is'))
one_result bytes count key from (Below a) Same is is' = absurd (never_same bytes count key from a is' (below_parts bytes count key from a is))
one_result bytes count key from (Below a) (Below b) is is' = ap Below (one_index bytes count key from a b (below_parts bytes count key from a is) (below_parts bytes count key from b is'))
one_result bytes count key from (Below a) (Above b) is is' = absurd (below_or_above bytes count key from a b is is')
one_result bytes count key from (Above a) Same is is' = absurd (never_same bytes count key from a is' (above_parts bytes count key from a is))
one_result bytes count key from (Above a) (Below b) is is' = absurd (below_or_above bytes count key from b a is' is)
one_result bytes count key from (Above a) (Above b) is is' = ap Above (one_index bytes count key from a b (above_parts bytes count key from a is) (above_parts bytes count key from b is'))
