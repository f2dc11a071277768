-- The elements of a tuple, read one after another: what is read, and what is left.
use Rattle.std.proofs.Common.{◌≡◌, ℕ, ◌+◌, ◌<◌, ◌≤◌, nat_lt, true, false, List, [], ◌∷◌, ◌++◌, length, get_or, drop, Result, Ok, Err, refl, sym, ap, ◌∙◌, arith, append_assoc, append-nil}
use Rattle.std.proofs.lemmas.Bool.Decides.{nat_tests}
use Rattle.std.proofs.lemmas.List.{drop_more, drop_all, length_push}
use Rattle.art_model.specs.declared.values.Value.{Value}
use Rattle.art_key.specs.declared.faults.ValueFault.{ValueFault}
use Rattle.art_key.specs.declared.faults.ValueFault.TheVariants.{WrongColumns}
use Rattle.serde_json.specs.Events.{items_len}
use Rattle.serde_json.specs.View.{view, items_view}
use Rattle.serde_json.specs.declared.value.Value as json
use Rattle.serde_json.proofs.Views.{items_len-items_view}
use Rattle.art_lines.specs.Lines.{◌>>=◌, value_said, values_said, tuple_of_values, tuple_said}

-- ---- how many elements

too_many : (elements : List json.Value) → nat_lt 8 (items_len (items_view elements)) ≡ nat_lt 8 (length elements)
too_many elements = ap (nat_lt 8) (items_len-items_view elements)

pub tuple_said-many : (elements : List json.Value) → 8 < length elements → tuple_said (items_view elements) ≡ Err WrongColumns
tuple_said-many elements many =
    let is : nat_lt 8 (items_len (items_view elements)) ≡ true = too_many elements ∙ grind (arith, nat_tests) in
    rw is

pub tuple_said-few : (elements : List json.Value) → length elements ≤ 8
    → tuple_said (items_view elements) ≡ tuple_of_values (values_said 0 (items_view elements))
tuple_said-few elements few =
    let is : nat_lt 8 (items_len (items_view elements)) ≡ false = too_many elements ∙ grind (arith, nat_tests) in
    rw is

-- ---- one element after another

-- the values of the first elements, and what the others say
abbrev pub with_front : List Value → Result (List Value) ValueFault → Result (List Value) ValueFault
with_front front others = do
  vs ← others
  Ok (front ++ vs)

-- the first n elements are read, and the others say what is left to say
pub record IsReadTo (elements : List json.Value) (values : List Value) (n : ℕ) : Type 0 where
  pub count : length values ≡ n
  pub rest : with_front values (values_said n (items_view (drop n elements))) ≡ values_said 0 (items_view elements)

pub nothing_in_front : (others : Result (List Value) ValueFault) → with_front [] others ≡ others
nothing_in_front (Ok vs) = refl
nothing_in_front (Err f) = refl

pub one_in_front : (front : List Value) (v : Value) (others : Result (List Value) ValueFault)
    → with_front front (with_front (v ∷ []) others) ≡ with_front (front ++ v ∷ []) others
one_in_front front v (Ok vs) = ap (λ us. Ok us) (sym (append_assoc front (v ∷ []) vs))
one_in_front front v (Err f) = refl

pub IsReadTo-start : (elements : List json.Value) (values : List Value) → values ≡ [] → IsReadTo elements values 0
IsReadTo-start elements values none = record {
  count = rw none refl;
  rest = rw none (nothing_in_front (values_said 0 (items_view elements)));
}

module _ (elements : List json.Value) (values : List Value) (n : ℕ) (so_far : IsReadTo elements values n) where
  module _ (d : json.Value) (within : n < length elements) (here : d ≡ get_or elements n d) where
    cut : drop n elements ≡ d ∷ drop (n + 1) elements
    cut = drop_more elements n d within ∙ ap (λ (e : json.Value). e ∷ drop (n + 1) elements) (sym here)

    pub IsReadTo-more : (v : Value) → value_said n (view d) ≡ Ok v → IsReadTo elements (values ++ v ∷ []) (n + 1)
    IsReadTo-more v said =
        let others = values_said (n + 1) (items_view (drop (n + 1) elements)) in
        let one : with_front values (values_said n (items_view (drop n elements))) ≡ with_front (values ++ v ∷ []) others = rw (cut, said)
        (one_in_front values v others) in
        record {
          count = omega (arith, length_push values v, so_far.count);
          rest = sym one ∙ so_far.rest;
        }

    -- the first element that is no value decides
    pub values_said-stop : (f : ValueFault) → value_said n (view d) ≡ Err f → values_said 0 (items_view elements) ≡ Err f
    values_said-stop f said =
        let one : with_front values (values_said n (items_view (drop n elements))) ≡ Err f = rw (cut, said) refl in
        sym so_far.rest ∙ one

  pub values_said-done : length elements ≤ n → values_said 0 (items_view elements) ≡ Ok values
  values_said-done le =
      let one : with_front values (values_said n (items_view (drop n elements))) ≡ Ok values = rw (drop_all n elements le)
      (ap (λ us. Ok us) (append-nil values)) in
      sym so_far.rest ∙ one
