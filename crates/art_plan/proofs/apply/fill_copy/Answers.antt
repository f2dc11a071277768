-- No copy is made.
use Rattle.std.proofs.Common.{◌≡◌, Bool, ℕ, true, false, [], None, refl, sym, ap, ◌∙◌, subst}
use Rattle.art_plan.specs.Apply.{IsLocking, claim_of, claims, so_many}
use Rattle.art_plan.specs.Changes.{filled_at, targets}
use Rattle.art_plan.specs.Whole.{filled_ends, made_at}
use Rattle.art_plan.proofs.Told.{two_are}
use Rattle.art_plan.proofs.apply.fill_copy.Goals as goal

pub returns-in-None-clause-fits : goal.returns-in-None-clause-fits
returns-in-None-clause-fits c u v locking =
    let ch = c.args.change.now in
    let none : made_at true ch ≡ None = sym c.copied.ensures ∙ c.in-None.is in
    let same : so_many (filled_ends ch false) (claims ch true) ≡ filled_ends ch = two_are (so_many (filled_ends ch false) (claims ch true)) (filled_ends ch) refl (ap claim_of none ∙ sym (ap (filled_at ch) none)) in
    c.written.ensures.fits u v (subst (λ (f : Bool → ℕ). IsLocking u ch (targets ch) [] f v) same locking)
