-- The other node is claimed next, or none is left.
use Rattle.std.proofs.Common.{Bool, [], subst}
use Rattle.art_plan.specs.Apply.{IsLocking, claimed_so}
use Rattle.art_plan.specs.Changes.{targets}
use Rattle.art_plan.proofs.apply.claimed.Goals as goal

pub returns-then-copy-clause-fits : goal.returns-then-copy-clause-fits
returns-then-copy-clause-fits c u v locking =
    let ch = c.args.change.now in
    c.fill_first.ensures.fits u v (subst (λ (b : Bool). IsLocking u ch (targets ch) [] (claimed_so ch b) v) c.if-copy.true locking)

pub returns-else-copy-clause-fits : goal.returns-else-copy-clause-fits
returns-else-copy-clause-fits c u v locking =
    let ch = c.args.change.now in
    c.claim_copy.ensures.fits u v (subst (λ (b : Bool). IsLocking u ch (targets ch) [] (claimed_so ch b) v) c.if-copy.false locking)
