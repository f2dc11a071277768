-- No copy is made.
use Rattle.std.proofs.Common.{◌≡◌, ℕ, true, false, [], sym, ap, ◌∙◌, subst}
use Rattle.art_plan.specs.Apply.{IsLocking, claim_of, claims, so_many}
use Rattle.art_plan.specs.Changes.{targets}
use Rattle.art_plan.proofs.apply.claim_copy.Goals as goal

pub returns-in-None-clause-fits : goal.returns-in-None-clause-fits
returns-in-None-clause-fits c u v locking =
    let ch = c.args.change.now in
    let none : claims ch true ≡ 0 = ap claim_of (sym c.copied.ensures ∙ c.in-None.is) in
    c.fill_first.ensures.fits u v (subst (λ (k : ℕ). IsLocking u ch (targets ch) [] (so_many (claims ch false) k) v) (sym none) locking)
