-- One pass's view changes, and the others stay.
use Rattle.std.proofs.Common.{◌≡◌, ◌≢◌, ◌⊎◌, ℕ, zero, suc, ◌+◌, List, [], ◌∷◌, ◌++◌, inl, inr, sym, refl, ap, ap₂, ◌∙◌, subst, ⊎_elim}
use Rattle.std.proofs.lemmas.Bool.{cases_eq}
use Rattle.std.proofs.lemmas.Option.{same_Some}
use Rattle.std.specs.Prelude.{Some, None}
use Rattle.art_step.specs.declared.views.View.{View}
use Rattle.art_step.specs.Sound.{early, early_of, early_notes}
use Rattle.art_step.specs.Views.{Member, Views, SetsView}

pub one_view : (f : Views) (p q : ℕ) (u v : View) → p ≡ q → f p ≡ Some u → f q ≡ Some v → u ≡ v
one_view f p q u v is e i = same_Some u v (sym e ∙ (ap f is ∙ i))

module _ (f g : Views) (p : ℕ) (w : View) (t : SetsView f p w g) where
  pub either_view : (q : ℕ) (u : View) → g q ≡ Some u → ((q ≡ p) × (u ≡ w)) ⊎ ((q ≢ p) × (f q ≡ Some u))
  either_view q u e =
      ⊎_elim
      (λ (is : q ≡ p). inl (is, same_Some u w (sym e ∙ (ap g is ∙ t.here))))
      (λ (other : q ≢ p). inr (other, sym (t.there q other) ∙ e))
      (cases_eq q p)

  pub stranger_before : (q : ℕ) → g q ≡ None → (q ≢ p) × (f q ≡ None)
  stranger_before q e =
      let other : q ≢ p = λ is. let a : Some w ≡ None = sym t.here ∙ (ap g (sym is) ∙ e) in cc in (other, sym (t.there q other) ∙ e)

  -- what holds of the new view and of all others holds of each
  pub each_view : (P : ℕ → View → Type 0) → P p w → ((q : ℕ) (u : View) → q ≢ p → f q ≡ Some u → P q u) → (q : ℕ) (u : View) → g q ≡ Some u → P q u
  each_view P mine others q u e = ⊎_elim
      (λ (a : (q ≡ p) × (u ≡ w)). subst (λ (x : ℕ × View). P x.0 x.1) (λ i. (sym a.0 i, sym a.1 i)) mine)
      (λ (a : (q ≢ p) × (f q ≡ Some u)). others q u a.0 a.1)
      (either_view q u e)

  -- what holds of two views either way round
  pub each_two : (P : ℕ → ℕ → View → View → Type 0) → ((q : ℕ) (u : View) → q ≢ p → f q ≡ Some u → P p q w u) → ((q : ℕ) (u : View) → q ≢ p → f q ≡ Some u → P q p u w)
      → ((q r : ℕ) (u x : View) → q ≢ p → r ≢ p → q ≢ r → f q ≡ Some u → f r ≡ Some x → P q r u x)
      → (q r : ℕ) (u x : View) → q ≢ r → g q ≡ Some u → g r ≡ Some x → P q r u x
  each_two P first second others q r u x apart e i = ⊎_elim
      (λ (a : (q ≡ p) × (u ≡ w)). ⊎_elim
      (λ (b : (r ≡ p) × (x ≡ w)). absurd (apart (a.0 ∙ sym b.0)))
      (λ (b : (r ≢ p) × (f r ≡ Some x)). subst (λ (y : ℕ × View). P y.0 r y.1 x) (λ j. (sym a.0 j, sym a.1 j)) (first r x b.0 b.1))
      (either_view r x i))
      (λ (a : (q ≢ p) × (f q ≡ Some u)). ⊎_elim
      (λ (b : (r ≡ p) × (x ≡ w)). subst (λ (y : ℕ × View). P q y.0 u y.1) (λ j. (sym b.0 j, sym b.1 j)) (second q u a.0 a.1))
      (λ (b : (r ≢ p) × (f r ≡ Some x)). others q r u x a.0 b.0 apart a.1 b.1)
      (either_view r x i))
      (either_view q u e)

  -- a view with the same note of the epoch
  pub same_early_notes : (v : View) → f p ≡ Some v → w.noted ≡ v.noted → (n : ℕ) → early_notes g n ≡ early_notes f n
  same_early_notes v at same zero = refl
  same_early_notes v at same (suc n) = ap₂ (λ (a b : ℕ). a + b) here (same_early_notes v at same n)
    where
      here : early_of (g n) ≡ early_of (f n)
      here = ⊎_elim
          (λ (is : n ≡ p). ap early_of (ap g is ∙ t.here) ∙ (same_of w v same ∙ sym (ap early_of (ap f is ∙ at))))
          (λ (other : n ≢ p). ap early_of (t.there n other))
          (cases_eq n p)
        where
          same_of : (w v : View) → w.noted ≡ v.noted → early_of (Some w) ≡ early_of (Some v)
          same_of w v e = ap early e

-- ---- members

pub member_append : {A : Type 0} (x : A) (xs ys : List A) → Member x (xs ++ ys) → Member x xs ⊎ Member x ys
member_append x [] ys i = inr i
member_append x (y ∷ xs) ys i = ⊎_elim (λ (e : x ≡ y). inl (inl e)) (λ (j : Member x (xs ++ ys)). ⊎_elim (λ (k : Member x xs). inl (inr k)) (λ (k : Member x ys). inr k) (member_append x xs ys j)) i

pub member_front : {A : Type 0} (x : A) (xs ys : List A) → Member x xs → Member x (xs ++ ys)
member_front x [] ys i = absurd i
member_front x (y ∷ xs) ys i = ⊎_elim (λ (e : x ≡ y). inl e) (λ (j : Member x xs). inr (member_front x xs ys j)) i

pub member_back : {A : Type 0} (x : A) (xs ys : List A) → Member x ys → Member x (xs ++ ys)
member_back x [] ys i = i
member_back x (y ∷ xs) ys i = inr (member_back x xs ys i)
