-- What is so of all elements of a list is so of each of its members, and the other way round.
use Rattle.std.proofs.Common.{◌≡◌, List, [], ◌∷◌, inl, inr, refl, sym, subst, ⊎_elim}
use Rattle.std.proofs.lemmas.List.Elements.{All-cons, All-head, All-nil, All-tail}
use Rattle.std.specs.List.{All}
use Rattle.art_step.specs.Views.{Member}

module _ {A : Type 0} (P : A → Type 0) where
  pub member_is : (xs : List A) → All P xs → (x : A) → Member x xs → P x
  member_is [] all x i = absurd i
  member_is (y ∷ xs) all x i = ⊎_elim
      (λ (e : x ≡ y). subst P (sym e) (All-head P y xs all))
      (λ (j : Member x xs). member_is xs (All-tail P y xs all) x j)
      i

  pub members_all : (xs : List A) → ((x : A) → Member x xs → P x) → All P xs
  members_all [] each = All-nil P
  members_all (y ∷ xs) each = All-cons P y xs (each y (inl refl)) (members_all xs (λ x i. each x (inr i)))
