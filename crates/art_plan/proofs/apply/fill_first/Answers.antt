-- The copy alone is made, or no node.
use Rattle.std.proofs.Common.{◌≡◌, ℕ, true, false, [], None, sym, ap, ◌∙◌, subst}
use Rattle.art_plan.specs.Apply.{IsLocking, claim_of, claims, so_many}
use Rattle.art_plan.specs.Changes.{filled_at, targets}
use Rattle.art_plan.specs.Whole.{filled_ends, made_at}
use Rattle.art_plan.proofs.apply.fill_first.Goals as goal

pub returns-in-None-clause-fits : goal.returns-in-None-clause-fits
returns-in-None-clause-fits c u v locking =
    let ch = c.args.change.now in
    let none : made_at false ch ≡ None = sym c.made.ensures ∙ c.in-None.is in
    let same : claims ch false ≡ filled_ends ch false = ap claim_of none ∙ sym (ap (filled_at ch) none) in
    c.fill_copy.ensures.fits u v (subst (λ (k : ℕ). IsLocking u ch (targets ch) [] (so_many k (claims ch true)) v) same locking)
