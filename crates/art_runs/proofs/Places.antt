-- Places of a pass's events in a history.
use Rattle.std.proofs.Common.{◌≡◌, ◌≢◌, ◌⊎◌, ◌++◌, ◌+◌, ◌==◌, ◌∙◌, ℕ, Bool, true, false, if◌then◌else◌, List, [], ◌∷◌, length, inl, inr, refl, sym, ap, subst, arith, ⊎_elim, eq-eqb}
use Rattle.std.proofs.lemmas.List.{length-append}
use Rattle.art_step.specs.Histories.{places, places_from}
use Rattle.art_step.specs.Views.{Member}
use Rattle.art_step.specs.declared.views.Event.{Event}

places_append : (p n : ℕ) (es fs : List Event) → places_from p n (es ++ fs) ≡ places_from p n es ++ places_from p (n + length es) fs
places_append p n [] fs = let same : n ≡ n + 0 = omega arith in ap (λ (i : ℕ). places_from p i fs) same
places_append p n (x ∷ xs) fs =
    let A : List ℕ = places_from p (n + 1) (xs ++ fs) in
    let B : List ℕ = places_from p (n + 1) xs in
    let C : List ℕ = places_from p (n + length (x ∷ xs)) fs in
    let next : (n + 1) + length xs ≡ n + length (x ∷ xs) = omega arith in
    let h : A ≡ B ++ C = places_append p (n + 1) xs fs ∙ ap (λ (i : ℕ). B ++ places_from p i fs) next in
    elim (x.pass == p) as (λ b. (if b then n ∷ A else A) ≡ (if b then n ∷ B else B) ++ C) [ true ↦ ap (λ (l : List ℕ). n ∷ l) h | false ↦ h ]

none_by : (p n : ℕ) (x : Event) (xs : List Event) (e : Event) → (places_from p (n + 1) xs ≡ [] → Member e xs → e.pass ≢ p) → (b : Bool) → (x.pass == p) ≡ b
    → (if b then n ∷ places_from p (n + 1) xs else places_from p (n + 1) xs) ≡ [] → (e ≡ x) ⊎ Member e xs → e.pass ≢ p
none_by p n x xs e more true at none here is = cc
none_by p n x xs e more false at none (inl same) is = let there = eq-eqb x.pass p (ap (λ (a : Event). a.pass) (sym same) ∙ is) in cc
none_by p n x xs e more false at none (inr there) is = more none there is

-- an event of a list in which the pass has no place is none of its
pub none_there : (p n : ℕ) (es : List Event) (e : Event) → places_from p n es ≡ [] → Member e es → e.pass ≢ p
none_there p n [] e none here is = absurd here
none_there p n (x ∷ xs) e none here is = none_by p n x xs e (none_there p (n + 1) xs e) (x.pass == p) refl none here is

pub either_member : (e : Event) (es fs : List Event) → Member e (es ++ fs) → Member e es ⊎ Member e fs
either_member e [] fs here = inr here
either_member e (x ∷ xs) fs (inl same) = inl (inl same)
either_member e (x ∷ xs) fs (inr there) = ⊎_elim (λ (a : Member e xs). inl (inr a)) (λ (b : Member e fs). inr b) (either_member e xs fs there)

no_more : (xs ys : List ℕ) → length (xs ++ ys) ≡ length xs → ys ≡ []
no_more xs [] same = refl
no_more xs (y ∷ ys) same = let sum = length-append xs (y ∷ ys) in absurd (omega (arith, same, sum))

-- where a history has no more places of the pass than its beginning, its events of the pass are of the beginning
pub of_beginning : (p : ℕ) (log es rest : List Event) (e : Event) → log ≡ es ++ rest → places p log ≡ places p es → Member e log → e.pass ≡ p → Member e es
of_beginning p log es rest e is same here mine =
    let none = no_more (places p es) (places_from p (0 + length es) rest) (ap (λ (l : List ℕ). length l) (sym (places_append p 0 es rest) ∙ (ap (places p) (sym is) ∙ same))) in
    ⊎_elim (λ (a : Member e es). a) (λ (b : Member e rest). absurd (none_there p (0 + length es) rest e none b mine))
    (either_member e es rest (subst (λ (l : List Event). Member e l) is here))

-- ---- one event more of the pass

one_place : (p n : ℕ) (e : Event) → e.pass ≡ p → length (places_from p n (e ∷ [])) ≡ 1
one_place p n e is = ap (λ (b : Bool). length (if b then n ∷ places_from p (n + 1) [] else places_from p (n + 1) [])) (eq-eqb e.pass p is)

-- what came between is none of the pass's
pub none_between : (p : ℕ) (es between : List Event) (e : Event) → e.pass ≡ p → length (places p ((es ++ between) ++ e ∷ [])) ≡ length (places p es) + 1 → places_from p (0 + length es) between ≡ []
none_between p es between e mine one =
    let last = one_place p (0 + length (es ++ between)) e mine in
    let ends = ap (λ (l : List ℕ). length l) (places_append p 0 (es ++ between) (e ∷ [])) in
    let sum = length-append (places p (es ++ between)) (places_from p (0 + length (es ++ between)) (e ∷ [])) in
    no_more (places p es) (places_from p (0 + length es) between)
    (ap (λ (l : List ℕ). length l) (sym (places_append p 0 es between)) ∙ (let same : length (places p (es ++ between)) ≡ length (places p es) = omega (arith, last, ends, sum, one) in same))
