-- A number that is not free, and that no pass has in hand or in limbo, is in the tree.
use Rattle.std.proofs.Common.{◌≡◌, ◌≢◌, ◌⊎◌, ℕ, true, inl, inr, ⊎_elim, refl, sym, ap, ◌∙◌, subst}
use Rattle.std.proofs.lemmas.Bool.{cases_eq}
use Rattle.std.specs.Prelude.{Option, None, Some}
use Rattle.art_cell.specs.declared.cells.Link.{Link}
use Rattle.art_step.specs.declared.views.InHand.{InHand}
use Rattle.art_step.specs.declared.views.Sizes.{Sizes}
use Rattle.art_step.specs.declared.views.View.{View}
use Rattle.art_step.specs.Sound.{InHandOf, InLimboOf, InTree, IsFree, IsSound, Nowhere, Whereabouts}
use Rattle.art_step.specs.Views.{IsInLimbo, IsNumber, Member, Memory, SetsView, Views, is_free}
use Rattle.art_step.proofs.SetsView.{one_view}

-- the pass has it in hand or in limbo
abbrev pub HasNumber : View → Link → Type 0
HasNumber u d = ((x : InHand) × Member x u.hand × (x.link ≡ d)) ⊎ IsInLimbo u d

-- it is free, or the pass has it
abbrev pub IsElsewhere : Memory → View → Link → Type 0
IsElsewhere m u d = (is_free m d ≡ true) ⊎ HasNumber u d

-- of no pass is it so
abbrev pub IsLeft : Memory → Views → Link → Type 0
IsLeft m f d = (q : ℕ) (u : View) → f q ≡ Some u → IsElsewhere m u d → ⊥

module _ (z : Sizes) (m : Memory) (f : Views) (r : IsSound z m f) (d : Link) where
  pub tree_is_left : r.at d ≡ InTree → IsLeft m f d
  tree_is_left tree q u is k = ⊎_elim
      (λ (free : is_free m d ≡ true). let e : IsFree ≡ InTree = sym ((r.numbers.free d).1 free) ∙ tree in absurd (cc))
      (λ (has : HasNumber u d). ⊎_elim
      (λ (h : (x : InHand) × Member x u.hand × (x.link ≡ d)).
      let e : InHandOf q ≡ InTree = sym ((r.numbers.accounts q u is).hand h.0 h.1) ∙ (ap r.at h.2 ∙ tree) in absurd (cc))
      (λ (h : IsInLimbo u d).
      let e : InLimboOf q ≡ InTree = sym ((r.numbers.accounts q u is).limbo h.0 h.1) ∙ (ap r.at h.2 ∙ tree) in absurd (cc))
      has) k

  pub tree_is_number : r.at d ≡ InTree → IsNumber z d
  tree_is_number tree = (r.numbers.numbers d).0 (λ nowhere. let e : InTree ≡ Nowhere = sym tree ∙ nowhere in absurd (cc))

  pub left_is_tree : (p : ℕ) (v : View) → f p ≡ Some v → IsNumber z d → IsLeft m f d → r.at d ≡ InTree
  left_is_tree p v at number left = by_place (r.at d) refl
    where
      by_hand : (q : ℕ) → r.at d ≡ InHandOf q → (o : Option View) → f q ≡ o → ⊥
      by_hand q e None is = (r.numbers.strangers q d is).0 e
      by_hand q e (Some u) is = left q u is (inr (inl ((r.numbers.accounts q u is).in_hand d e)))

      by_limbo : (q : ℕ) → r.at d ≡ InLimboOf q → (o : Option View) → f q ≡ o → ⊥
      by_limbo q e None is = (r.numbers.strangers q d is).1 e
      by_limbo q e (Some u) is = left q u is (inr (inr ((r.numbers.accounts q u is).in_limbo d e)))

      by_place : (w : Whereabouts) → r.at d ≡ w → r.at d ≡ InTree
      by_place InTree e = e
      by_place IsFree e = absurd (left p v at (inl ((r.numbers.free d).0 e)))
      by_place (InHandOf q) e = absurd (by_hand q e (f q) refl)
      by_place (InLimboOf q) e = absurd (by_limbo q e (f q) refl)
      by_place Nowhere e = absurd ((r.numbers.numbers d).1 number e)

-- the view of the pass p goes from v to w: what is left was left, where what was elsewhere as p sees it still is
pub left_before : (m m' : Memory) (f g : Views) (p : ℕ) (v w : View) (d : Link) → f p ≡ Some v → SetsView f p w g → (IsElsewhere m v d → IsElsewhere m' w d) → IsLeft m' g d → IsLeft m f d
left_before m m' f g p v w d at t moves left q u is k = ⊎_elim
    (λ (free : is_free m d ≡ true). left p w t.here (moves (inl free)))
    (λ (has : HasNumber u d). ⊎_elim
    (λ (same : q ≡ p). left p w t.here (moves (inr (subst (λ (y : View). HasNumber y d) (one_view f q p u v same is at) has))))
    (λ (other : q ≢ p). left q u (t.there q other ∙ is) (inr has))
    (cases_eq q p)) k
