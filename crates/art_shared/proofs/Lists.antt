-- Lists, and lists that are joined.
use Rattle.std.proofs.Common.{◌≡◌, ◌⊎◌, ℕ, zero, suc, ◌≤◌, List, [], ◌∷◌, ◌++◌, length, set, inl, inr, ⊎_elim, sym, refl, ap, ◌∙◌, subst, arith, zero-le, append_assoc, length-append}
use Rattle.std.proofs.lemmas.Option.{same_Some}
use Rattle.std.specs.List.{slice_get}
use Rattle.std.specs.Prelude.{Some}
use mathlib.Core.Option.{some, some-injective, some-ne-none}
use lib.ListN.{get_elem?}
use Rattle.art_step.specs.Views.{Member}
use Rattle.art_step.proofs.SetsView.{member_append, member_back, member_front}
use Rattle.art_shared.specs.Rule.{Apart, joined}

module _ {A : Type 0} where
  pub joined_append : (xs ys : List (List A)) → joined (xs ++ ys) ≡ joined xs ++ joined ys
  joined_append [] ys = refl
  joined_append (x ∷ xs) ys = ap (λ (l : List A). x ++ l) (joined_append xs ys) ∙ sym (append_assoc x (joined xs) (joined ys))

  -- what stands in one of the lists stands in them joined
  pub joined_here : (a : A) (xs : List (List A)) (id : ℕ) (x : List A) → get_elem? xs id ≡ some x → Member a x → Member a (joined xs)
  joined_here a [] id x e i = absurd (some-ne-none x (sym e))
  joined_here a (y ∷ xs) zero x e i = member_front a y (joined xs) (subst (Member a) (sym (some-injective y x e)) i)
  joined_here a (y ∷ xs) (suc id) x e i = member_back a y (joined xs) (joined_here a xs id x e i)

  -- and where one of them is another, in that or in what was joined before
  pub joined_set : (a : A) (xs : List (List A)) (id : ℕ) (x : List A) → Member a (joined (set xs id x)) → Member a x ⊎ Member a (joined xs)
  joined_set a [] id x i = absurd i
  joined_set a (y ∷ xs) zero x i = ⊎_elim (λ (j : Member a x). inl j) (λ (j : Member a (joined xs)). inr (member_back a y (joined xs) j)) (member_append a x (joined xs) i)
  joined_set a (y ∷ xs) (suc id) x i = ⊎_elim
      (λ (j : Member a y). inr (member_front a y (joined xs) j))
      (λ (j : Member a (joined (set xs id x))). ⊎_elim (λ (k : Member a x). inl k) (λ (k : Member a (joined xs)). inr (member_back a y (joined xs) k)) (joined_set a xs id x j))
      (member_append a y (joined (set xs id x)) i)

  -- what a list has with one more at its end
  pub get_last : (xs : List A) (x y : A) (p : ℕ) → slice_get (xs ++ x ∷ []) p ≡ Some y → (slice_get xs p ≡ Some y) ⊎ ((p ≡ length xs) × (y ≡ x))
  get_last [] x y zero e = inr (refl, sym (same_Some x y e))
  get_last [] x y (suc p) e = absurd (cc)
  get_last (a ∷ xs) x y zero e = inl e
  get_last (a ∷ xs) x y (suc p) e = ⊎_elim (λ (h : slice_get xs p ≡ Some y). inl h) (λ (h : (p ≡ length xs) × (y ≡ x)). inr (ap suc h.0, h.1)) (get_last xs x y p e)

  -- ---- how many stand in a list in which nothing stands twice

  -- the list without one of its places, at which x stands
  without : (x : A) (ys : List A) → Member x ys → (zs : List A) × (length ys ≡ suc (length zs)) × ((d : A) → Member d ys → (d ≡ x) ⊎ Member d zs)
  without x [] i = absurd i
  without x (y ∷ ys) i = ⊎_elim
      (λ (e : x ≡ y). (ys, refl, λ d j. ⊎_elim (λ (s : d ≡ y). inl (s ∙ sym e)) (λ (k : Member d ys). inr k) j))
      (λ (k : Member x ys). let w = without x ys k in (
        y ∷ w.0,
        ap suc w.1,
        λ d j. ⊎_elim
            (λ (s : d ≡ y). inr (inl s))
            (λ (m : Member d ys). ⊎_elim (λ (t : d ≡ x). inl t) (λ (n : Member d w.0). inr (inr n)) (w.2 d m))
            j,
      ))
      i

  -- they are no more than those of any list that has them all
  pub no_more : (xs ys : List A) → Apart xs → ((d : A) → Member d xs → Member d ys) → length xs ≤ length ys
  no_more [] ys apart sub = zero-le
  no_more (x ∷ xs) ys apart sub =
      let w = without x ys (sub x (inl refl)) in
      let rest = no_more xs w.0 apart.1 (λ d i. ⊎_elim
      (λ (e : d ≡ x). absurd (apart.0 (subst (λ (y : A). Member y xs) e i)))
      (λ (k : Member d w.0). k)
      (w.2 d (sub d (inr i)))) in
      let long = w.1 in
      omega (arith, rest, long)

  apart_by : (ys : List A) → ((front : List A) (y : A) (back : List A) → ys ≡ front ++ y ∷ back → Member y back → ⊥) → Apart ys
  apart_by [] h = tt
  apart_by (y ∷ ys) h = (λ i. h [] y ys refl i, apart_by ys (λ front x back e. h (y ∷ front) x back (ap (λ (l : List A). y ∷ l) e)))

  -- and where as many have them all, nothing stands twice there either
  pub apart_too : (xs ys : List A) → Apart xs → ((d : A) → Member d xs → Member d ys) → length ys ≡ length xs → Apart ys
  apart_too xs ys apart sub long = apart_by ys (λ front y back e twice.
      let all = λ (d : A) (i : Member d xs). ⊎_elim
      (λ (j : Member d front). member_front d front back j)
      (λ (j : Member d (y ∷ back)). ⊎_elim
      (λ (s : d ≡ y). member_back d front back (subst (λ (x : A). Member x back) (sym s) twice))
      (λ (k : Member d back). member_back d front back k)
      j)
      (member_append d front (y ∷ back) (subst (Member d) e (sub d i))) in
      let fewer = no_more xs (front ++ back) apart all in
      let short = length-append front back in
      let whole = ap length e ∙ length-append front (y ∷ back) in
      omega (arith, fewer, short, whole, long))
