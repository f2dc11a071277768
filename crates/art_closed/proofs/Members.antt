-- What stands in lists, and in lists that are joined.
use Rattle.std.proofs.Common.{◌≡◌, List, [], ◌∷◌, ◌++◌, map, inl, inr, ⊎_elim, refl, sym, ap, subst}
use Rattle.std.specs.List.{AllByRecursion}
use Rattle.std.specs.List.Sorted.{IsStrictlySortedBy}
use Rattle.std.specs.declared.cmp.Ordering.{Ordering}
use Rattle.std.specs.declared.cmp.Ordering.TheVariants.{Less}
use Rattle.art_model.proofs.Parts.{All-both}
use Rattle.art_step.specs.Views.{Member}

module _ {A : Type 0} where
  pub all_members : (P : A → Type 0) (xs : List A) → ((x : A) → Member x xs → P x) → AllByRecursion P xs
  all_members P [] h = tt
  all_members P (x ∷ xs) h = (h x (inl refl), all_members P xs (λ y i. h y (inr i)))

  pub member_all : (P : A → Type 0) (xs : List A) → AllByRecursion P xs → (x : A) → Member x xs → P x
  member_all P [] h x i = absurd i
  member_all P (y ∷ xs) h x i = ⊎_elim (λ (e : x ≡ y). subst P (sym e) h.0) (λ (j : Member x xs). member_all P xs h.1 x j) i

  -- sorted lists, of which all of the one stands before all of the other
  pub sorted_both : (R : A → A → Ordering) (xs ys : List A) → IsStrictlySortedBy R xs → IsStrictlySortedBy R ys → ((x y : A) → Member x xs → Member y ys → R x y ≡ Less) → IsStrictlySortedBy R (xs ++ ys)
  unfolding IsStrictlySortedBy
  sorted_both R [] ys s t h = t
  sorted_both R (x ∷ xs) ys s t h = (
    All-both (λ (y : A). R x y ≡ Less) xs ys s.0 (all_members (λ (y : A). R x y ≡ Less) ys (λ y j. h x y (inl refl) j)),
    sorted_both R xs ys s.1 t (λ a b i j. h a b (inr i) j),
  )

  pub sorted_one : (R : A → A → Ordering) (x : A) → IsStrictlySortedBy R (x ∷ [])
  unfolding IsStrictlySortedBy
  sorted_one R x = (tt, tt)

  pub sorted_none : (R : A → A → Ordering) → IsStrictlySortedBy R []
  unfolding IsStrictlySortedBy
  sorted_none R = tt

pub member_map : {A B : Type 0} (f : A → B) (xs : List A) (x : A) → Member x xs → Member (f x) (map f xs)
member_map f [] x i = absurd i
member_map f (y ∷ xs) x i = ⊎_elim (λ (e : x ≡ y). inl (ap f e)) (λ (j : Member x xs). inr (member_map f xs x j)) i

pub map_member : {A B : Type 0} (f : A → B) (xs : List A) (y : B) → Member y (map f xs) → (x : A) × Member x xs × (y ≡ f x)
map_member f [] y i = absurd i
map_member f (x ∷ xs) y i = ⊎_elim (λ (e : y ≡ f x). (x, inl refl, e)) (λ (j : Member y (map f xs)). let r = map_member f xs y j in (r.0, inr r.1, r.2)) i
