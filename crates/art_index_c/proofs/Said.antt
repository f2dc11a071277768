-- What columns say, one more at a time.
use Rattle.std.proofs.Common.{◌≡◌, ℕ, ◌+◌, ◌<◌, ◌≤◌, List, [], ◌∷◌, ◌++◌, length, drop, get_or, refl, ap, sym, ◌∙◌, append_assoc, arith, Result, Ok, Err}
use Rattle.std.proofs.lemmas.Bool.Decides.{nat_tests}
use Rattle.std.proofs.lemmas.List.{append-nil, drop_all, drop_more}
use Rattle.art_index_c.specs.Columns.{as_tuple, tuple_of, value_of, values_of, with_value}
use Rattle.art_index_c.specs.declared.columns.Column.{Column}
use Rattle.art_key.specs.declared.faults.ValueFault.{ValueFault}
use Rattle.art_key.specs.declared.faults.ValueFault.TheVariants.{WrongColumns}
use Rattle.art_model.specs.declared.values.Value.{Value}

-- some values, and what comes of the others
abbrev pub before : List Value → Result (List Value) ValueFault → Result (List Value) ValueFault
before vs (Ok ws) = Ok (vs ++ ws)
before vs (Err fault) = Err fault

before-push : (vs : List Value) (v : Value) (others : Result (List Value) ValueFault) → before (vs ++ v ∷ []) others ≡ before vs (with_value (Ok v) others)
before-push vs v (Ok ws) = ap (λ (l : List Value). Ok l) (append_assoc vs (v ∷ []) ws)
before-push vs v (Err fault) = refl

-- one more column says a value
pub values_of-good : (vs : List Value) (cs : List Column) (i : ℕ) (d : Column) (v : Value) → i < length cs → value_of i (get_or cs i d) ≡ Ok v
    → before (vs ++ v ∷ []) (values_of (i + 1) (drop (i + 1) cs)) ≡ before vs (values_of i (drop i cs))
values_of-good vs cs i d v lt says =
    before-push vs v (values_of (i + 1) (drop (i + 1) cs))
    ∙ (ap (λ r. before vs (with_value r (values_of (i + 1) (drop (i + 1) cs)))) (sym says)
    ∙ ap (λ l. before vs (values_of i l)) (sym (drop_more cs i d lt)))

-- or it says none
pub values_of-bad : (vs : List Value) (cs : List Column) (i : ℕ) (d : Column) (f : ValueFault) → i < length cs → value_of i (get_or cs i d) ≡ Err f
    → before vs (values_of i (drop i cs)) ≡ Err f
values_of-bad vs cs i d f lt says =
    ap (λ l. before vs (values_of i l)) (drop_more cs i d lt)
    ∙ ap (λ r. before vs (with_value r (values_of (i + 1) (drop (i + 1) cs)))) says

-- there is none left
pub values_of-end : (vs : List Value) (cs : List Column) (i : ℕ) → length cs ≤ i → before vs (values_of i (drop i cs)) ≡ Ok vs
values_of-end vs cs i le = ap (λ l. before vs (values_of i l)) (drop_all i cs le) ∙ ap (λ (l : List Value). Ok l) (append-nil vs)

-- eight columns at most are a tuple
pub tuple_of-few : (cs : List Column) (r : Result (List Value) ValueFault) → length cs ≤ 8 → values_of 0 cs ≡ r → tuple_of cs ≡ as_tuple r
tuple_of-few cs r few are = grind (arith, nat_tests, ap as_tuple are)

pub tuple_of-many : (cs : List Column) → 8 < length cs → tuple_of cs ≡ Err WrongColumns
tuple_of-many cs many = grind (arith, nat_tests)
