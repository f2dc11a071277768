use Rattle.std.proofs.Common.{◌≡◌, ◌∙◌, ℕ, List, ap, sym, subst}
use Rattle.std.proofs.lemmas.Bool.{false≢true}
use Rattle.art_step.specs.declared.views.Sizes.{Sizes}
use Rattle.art_table.proofs.closing.close.Goals as goal
use Rattle.art_table.specs.Closing.{AreAllPasses}
use Rattle.art_table.specs.declared.passes.Pass.{Pass}

-- passes that are all by the code's count and slice are all
are_still : (n m : ℕ) (xs ys : List Pass) → n ≡ m → xs ≡ ys → AreAllPasses n xs → AreAllPasses m ys
are_still n m xs ys is same all = subst (λ (k : ℕ). AreAllPasses k ys) is (subst (AreAllPasses n) same all)

pub returns-then-not-are_all-clause-why : goal.returns-then-not-are_all-clause-why
returns-then-not-are_all-clause-why c all =
    let sizes = ap (λ (z : Sizes). z.passes) c.sizes-sizes.ensures in
    false≢true (sym c.if-not-are_all.true ∙ c.are_all.ensures.1 (are_still _ _ _ _ (sym sizes) (sym c.deref.ensures.value) all))

pub returns-in_default-clause-why : goal.returns-in_default-clause-why
returns-in_default-clause-why c =
    are_still _ _ _ _ (ap (λ (z : Sizes). z.passes) c.sizes-sizes.ensures) c.deref.ensures.value (c.are_all.ensures.0 c.if-not-are_all.false)

pub returns-in_default-with_capacity-clause-why : goal.returns-in_default-with_capacity-clause-why
returns-in_default-with_capacity-clause-why c =
    are_still _ _ _ _ (ap (λ (z : Sizes). z.passes) c.sizes-sizes.ensures) c.deref.ensures.value (c.are_all.ensures.0 c.if-not-are_all.false)

pub ended-requires-clause-all : goal.ended-requires-clause-all
ended-requires-clause-all c =
    are_still _ _ _ _ (ap (λ (z : Sizes). z.passes) c.sizes-sizes.ensures) c.deref.ensures.value (c.are_all.ensures.0 c.if-not-are_all.false)

pub returns-clause-whole : goal.returns-clause-whole
returns-clause-whole c =
    are_still _ _ _ _ (ap (λ (z : Sizes). z.passes) c.sizes-sizes.ensures) c.deref.ensures.value (c.are_all.ensures.0 c.if-not-are_all.false)
