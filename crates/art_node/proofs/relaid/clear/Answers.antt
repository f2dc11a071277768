use Rattle.std.proofs.Common.{ℕ, refl, ap, ◌∙◌, inl, inr, arith, get_or, set, get_or-set_other, get_or-set_same}
use Rattle.std.proofs.lemmas.Bool.{cases_eq}
use Rattle.art_node.proofs.relaid.clear.Goals as goal

pub loop-place-init : goal.loop-place-init
loop-place-init c = record {
  below = λ p low. refl;
  here = λ p low high. absurd (omega (arith, low, high));
  fits = λ p. c.are_words.ensures p;
}

pub loop-place-preserved : goal.loop-place-preserved
loop-place-preserved c =
    let words = c.loop-place.words in
    let place = c.loop-place.place in
    record {
      below = λ p low. get_or-set_other words place p 0 0 (λ e. omega (arith, e, low, c.loop-place.auto.place)) ∙ c.loop-place.invariant.below p low;
      here = λ p low high. elim (cases_eq p place) [
        | inl same ↦ ap (λ (q : ℕ). get_or (set words place 0) q 0) same ∙ get_or-set_same words place 0 0 (omega arith)
        | inr other ↦ get_or-set_other words place p 0 0 other ∙ c.loop-place.invariant.here p low (omega (arith, other, high))
      ];
      fits = λ p. elim (cases_eq p place) [
        | inl same ↦ omega (arith, ap (λ (q : ℕ). get_or (set words place 0) q 0) same, get_or-set_same words place 0 0 (omega arith))
        | inr other ↦ omega (arith, get_or-set_other words place p 0 0 other, c.loop-place.invariant.fits p)
      ];
    }
