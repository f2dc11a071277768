-- The copy is released next, or nothing is held.
use Rattle.std.proofs.Common.{Bool, subst}
use Rattle.art_plan.specs.Apply.{IsReleasing, released_so, so_many}
use Rattle.art_plan.specs.Changes.{targets}
use Rattle.art_plan.proofs.Committing.{released_all}
use Rattle.art_plan.proofs.Holding.{none_filled}
use Rattle.art_plan.proofs.apply.released_node.Goals as goal

pub returns-then-copy-clause-fits : goal.returns-then-copy-clause-fits
returns-then-copy-clause-fits c u v releasing =
    let ch = c.args.change.now in
    released_all u ch (so_many 0 0) v none_filled (subst (λ (b : Bool). IsReleasing u ch (targets ch) (released_so ch b) v) c.if-copy.true releasing)

pub returns-else-copy-clause-fits : goal.returns-else-copy-clause-fits
returns-else-copy-clause-fits c u v releasing =
    let ch = c.args.change.now in
    c.release_copy.ensures.fits u v (subst (λ (b : Bool). IsReleasing u ch (targets ch) (released_so ch b) v) c.if-copy.false releasing)
