-- What is written over the first of a list.
use Rattle.std.proofs.Common.{◌≡◌, ℕ, ◌+◌, ◌<◌, ◌≤◌, List, [], ◌∷◌, ◌++◌, length, set, take, get_or, map, refl, ap, sym, ◌∙◌, subst, arith}
use Rattle.std.proofs.lemmas.List.{append-nil, drop_all, length-map, length-take-le, map-append, take_all, take_more}
use Rattle.art_index_c.specs.Columns.{over}

-- one more is written behind those that are
pub over-push : {A : Type 0} (front all : List A) (x : A) → length front < length all
    → set (over front all) (length front) x ≡ over (front ++ x ∷ []) all
over-push [] [] x lt = absurd (omega arith)
over-push [] (a ∷ all) x lt = refl
over-push (f ∷ front) [] x lt = absurd (omega arith)
over-push (f ∷ front) (a ∷ all) x lt = ap (λ l. f ∷ l) (over-push front all x (omega arith))

pub over-push_at : {A : Type 0} (front all : List A) (x : A) (i : ℕ) → length front ≡ i → i < length all
    → set (over front all) i x ≡ over (front ++ x ∷ []) all
over-push_at front all x i at lt =
    subst (λ (n : ℕ). set (over front all) n x ≡ over (front ++ x ∷ []) all) at (over-push front all x (omega arith))

-- the next of a list is written, through f
pub over-more : {X A : Type 0} (f : X → A) (xs : List X) (all : List A) (i : ℕ) (d : X) → i < length xs → length xs ≤ length all
    → set (over (map f (take i xs)) all) i (f (get_or xs i d)) ≡ over (map f (take (i + 1) xs)) all
over-more f xs all i d lt few =
    let many : length (map f (take i xs)) ≡ i = length-map (take i xs) f ∙ length-take-le i xs (omega arith) in
    let next : map f (take i xs) ++ f (get_or xs i d) ∷ [] ≡ map f (take (i + 1) xs) =
    sym (ap (map f) (take_more xs i d lt) ∙ map-append f (take i xs) (get_or xs i d ∷ [])) in
    over-push_at (map f (take i xs)) all (f (get_or xs i d)) i many (omega arith) ∙ ap (λ l. over l all) next

-- all are written
pub over-all : {X A : Type 0} (f : X → A) (xs : List X) (all : List A) (n : ℕ) → length xs ≤ n
    → over (map f (take n xs)) all ≡ over (map f xs) all
over-all f xs all n le = ap (λ (l : List _). over (map f l) all) (take_all n xs le)

-- as many as there are
pub over-whole : {A : Type 0} (front all : List A) → length front ≡ length all → over front all ≡ front
over-whole front all same = ap (λ (l : List _). front ++ l) (drop_all (length front) all (omega arith)) ∙ append-nil front
