-- The column of a name, by whether a `-` stands at its end.
use Rattle.std.proofs.Common.{◌≡◌, ◌≢◌, ℕ, zero, suc, ◌+◌, ◌%◌, ◌<◌, ◌≤◌, Bool, true, false, not, ◌&&◌, cond, eqb, inl, inr, List, [], ◌∷◌, ◌++◌, length, map, Option, Some, None, codes, refl, sym, ap, ap₂, ◌∙◌, arith, length-append, ne_eqb}
use Rattle.std.proofs.lemmas.Bool.{and_parts, cases_lt, true≢false}
use Rattle.std.proofs.lemmas.Fmt.{decimal_digit}
use Rattle.std.proofs.lemmas.List.Folds.{find-append}
use Rattle.std.specs.Cmp.{both_ways}
use Rattle.std.specs.Cmp.Lexicographic.{bytes_decides, pointwise}
use Rattle.std.specs.List.{list_all, range_with_len}
use Rattle.std.specs.Option.{option_map, option_or}
use Rattle.std.specs.Prelude.{nat_eq}
use Rattle.art_key.specs.declared.columns.Column.{Column}
use Rattle.art_key.specs.declared.columns.Kind.{Kind}
use Rattle.art_key.specs.declared.columns.Kind.TheVariants.{Text}
use Rattle.art_key.specs.Schemas.{column_among, column_name, column_of, columns_in, kind_among, kind_name, kinds}
use Rattle.art_key.proofs.Names.{two_digits}

abbrev pub column : Bool → Kind → Column
column descends k = record { kind = k; descends = descends }

-- ---- names with a `-`, and without

abbrev dashed : List ℕ → List ℕ
dashed name = name ++ 45 ∷ []

undashed_same : (m n : List ℕ) → dashed m ≡ dashed n → m ≡ n
undashed_same [] [] e = refl
undashed_same [] (y ∷ n) e = absurd (omega (arith, ap length e, length-append n (45 ∷ [])))
undashed_same (x ∷ m) [] e = absurd (omega (arith, ap length e, length-append m (45 ∷ [])))
undashed_same (x ∷ m) (y ∷ n) e =
    let heads : x ≡ y = cc in
    let tails : dashed m ≡ dashed n = cc in
    ap₂ (λ (b : ℕ) (l : List ℕ). b ∷ l) heads (undashed_same m n tails)

dashed_test : (m n : List ℕ) → pointwise nat_eq (dashed m) (dashed n) ≡ pointwise nat_eq m n
dashed_test m n =
    both_ways (pointwise nat_eq (dashed m) (dashed n)) (pointwise nat_eq m n)
    (λ e. (bytes_decides m n).1 (undashed_same m n ((bytes_decides (dashed m) (dashed n)).0 e)))
    (λ e. (bytes_decides (dashed m) (dashed n)).1 (ap dashed ((bytes_decides m n).0 e)))

-- whether the last byte is a `-`
ends_dashed : List ℕ → Bool
ends_dashed [] = false
ends_dashed (b ∷ []) = eqb b 45
ends_dashed (b ∷ c ∷ bytes) = ends_dashed (c ∷ bytes)

dashed_ends : (name : List ℕ) → ends_dashed (dashed name) ≡ true
unfolding ends_dashed
dashed_ends [] = refl
dashed_ends (b ∷ []) = refl
dashed_ends (b ∷ c ∷ name) = dashed_ends (c ∷ name)

-- a test of two texts of which just one ends so
other_test : (m n : List ℕ) → (m ≢ n) → pointwise nat_eq m n ≡ false
other_test m n other = by (pointwise nat_eq m n) refl
  where
    by : (b : Bool) → pointwise nat_eq m n ≡ b → b ≡ false
    by true e = absurd (other ((bytes_decides m n).0 e))
    by false e = refl

-- ---- the columns of kinds

among : (descends : Bool) (ks : List Kind) (name : List ℕ) (kind : List ℕ) → ((k : Kind) → pointwise nat_eq name (column_name (column descends k)) ≡ pointwise nat_eq kind (kind_name k))
    → column_among (columns_in descends ks) name ≡ option_map (column descends) (kind_among ks kind)
among descends [] name kind same = refl
among descends (k ∷ ks) name kind same =
    ap (λ b. cond b (Some (column descends k)) (column_among (columns_in descends ks) name)) (same k)
    ∙ by (among descends ks name kind same) (pointwise nat_eq kind (kind_name k))
  where
    by : column_among (columns_in descends ks) name ≡ option_map (column descends) (kind_among ks kind) → (b : Bool)
        → cond b (Some (column descends k)) (column_among (columns_in descends ks) name) ≡ option_map (column descends) (cond b (Some k) (kind_among ks kind))
    by rest true = refl
    by rest false = rest

no_dash : (ks : List Kind) (name : List ℕ) → list_all (λ k. not (ends_dashed (kind_name k))) ks ≡ true → column_among (columns_in false ks) (dashed name) ≡ None
no_dash [] name none = refl
no_dash (k ∷ ks) name none =
    let parts = and_parts (not (ends_dashed (kind_name k))) (list_all (λ k. not (ends_dashed (kind_name k))) ks) none in
    let other : pointwise nat_eq (dashed name) (kind_name k) ≡ false = other_test (dashed name) (kind_name k) (λ e.
    true≢false (sym parts.0 ∙ ap not (ap ends_dashed (sym e) ∙ dashed_ends name))) in
    ap (λ b. cond b (Some (column false k)) (column_among (columns_in false ks) (dashed name))) other ∙ no_dash ks name parts.1

a_dash : (ks : List Kind) (name : List ℕ) → ((front : List ℕ) → name ≢ dashed front) → column_among (columns_in true ks) name ≡ None
a_dash [] name plain = refl
a_dash (k ∷ ks) name plain =
    ap (λ b. cond b (Some (column true k)) (column_among (columns_in true ks) name)) (other_test name (dashed (kind_name k)) (plain (kind_name k))) ∙ a_dash ks name plain

-- no kind has such a name
text_ends : (n : ℕ) → n < 100 → not (ends_dashed (kind_name (Text n))) ≡ true
unfolding ends_dashed
text_ends n few = elim (cases_lt n 10) [
  | inl small ↦ ap (λ ds. not (ends_dashed (codes "text" ++ ds))) (decimal_digit n small) ∙ ap not (ne_eqb (48 + n) 45 (λ e. omega arith))
  | inr large ↦ ap (λ ds. not (ends_dashed (codes "text" ++ ds))) (two_digits n large few) ∙ ap not (ne_eqb (48 + n % 10) 45 (λ e. omega arith))
]

texts_end : (from count : ℕ) → from + count ≤ 100 → list_all (λ k. not (ends_dashed (kind_name k))) (map Text (range_with_len from count)) ≡ true
texts_end from zero few = refl
texts_end from (suc count) few = ap₂ (λ a b. a && b) (text_ends from (omega arith)) (texts_end (from + 1) count (omega arith))

kinds_end : list_all (λ k. not (ends_dashed (kind_name k))) kinds ≡ true
unfolding ends_dashed
kinds_end = texts_end 1 24 (omega arith)

both : (name : List ℕ) → column_of name ≡ option_or (column_among (columns_in false kinds) name) (column_among (columns_in true kinds) name)
both name = find-append (λ c. pointwise nat_eq name (column_name c)) (columns_in false kinds) (columns_in true kinds)

-- a name with a `-` at its end is of the column whose values descend, if the rest names a kind
pub descending_named : (name kind : List ℕ) → name ≡ dashed kind → column_of name ≡ option_map (column true) (kind_among kinds kind)
descending_named name kind is =
    ap column_of is ∙ both (dashed kind)
    ∙ ap (λ o. option_or o (column_among (columns_in true kinds) (dashed kind))) (no_dash kinds kind kinds_end)
    ∙ among true kinds (dashed kind) kind (λ k. dashed_test kind (kind_name k))

-- any other name is of the column whose values ascend, if it names a kind
pub ascending_named : (name : List ℕ) → ((front : List ℕ) → name ≢ dashed front) → column_of name ≡ option_map (column false) (kind_among kinds name)
ascending_named name plain =
    both name ∙ ap (option_or (column_among (columns_in false kinds) name)) (a_dash kinds name plain)
    ∙ or_none (column_among (columns_in false kinds) name) ∙ among false kinds name name (λ k. refl)
  where
    or_none : (o : Option Column) → option_or o None ≡ o
    or_none None = refl
    or_none (Some c) = refl
