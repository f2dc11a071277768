-- All targets are released, and the copy alone is made, or no node.
use Rattle.std.proofs.Common.{◌≡◌, Bool, ℕ, true, false, None, refl, sym, ap, ◌∙◌, subst, arith}
use Rattle.art_plan.specs.Apply.{IsReleasing, so_many}
use Rattle.art_plan.specs.Changes.{filled_at, targets}
use Rattle.art_plan.specs.Whole.{filled_ends, made_at}
use Rattle.art_plan.proofs.Told.{two_are}
use Rattle.art_plan.proofs.apply.released.Goals as goal

pub returns-in-None-clause-fits : goal.returns-in-None-clause-fits
returns-in-None-clause-fits c u v releasing =
    let ch = c.args.change.now in
    let all : c.args.count ≡ targets ch = let few = c.requires.few in let is = c.len.ensures.value in let past = c.if-count-len.false in omega arith in
    let none : made_at false ch ≡ None = sym c.made.ensures ∙ c.in-None.is in
    let same : filled_ends ch ≡ so_many 0 (filled_ends ch true) = two_are (filled_ends ch) (so_many 0 (filled_ends ch true)) (ap (filled_at ch) none) refl in
    c.release_copy.ensures.fits u v (subst (λ (f : Bool → ℕ). IsReleasing u ch (targets ch) f v) same (subst (λ (i : ℕ). IsReleasing u ch i (filled_ends ch) v) all releasing))
