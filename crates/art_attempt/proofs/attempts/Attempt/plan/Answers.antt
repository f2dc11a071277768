use Rattle.std.proofs.Common.{refl, subst}
use Rattle.art_attempt.proofs.CaseCells.{seen_here}
use Rattle.art_attempt.proofs.attempts.Attempt.plan.Goals as goal
use Rattle.art_attempt.specs.Attempts.{IsKnown, IsValidating}
use Rattle.art_attempt.specs.declared.attempts.Case.{Case as CaseOf}
use Rattle.art_attempt.specs.declared.validate.Validate.TheVariants.{Ended as validated}
use Rattle.art_attempt.specs.declared.validate.Validated.TheVariants.{Unchanged as unchanged}

-- the words of such a node are never seen by a check that succeeded
pub unreachable-requires : goal.unreachable-requires
unreachable-requires c =
    let q = c.requires in
    let m = c.args.self.now in
    let t = c.args.position.now in
    let r = c.args.room.now in
    let known = subst (λ (d : CaseOf). IsKnown q.0 q.1 d t r q.2) c.in-Torn.is q.4.known in
    known.1.1 r.read_set refl (seen_here q.0 q.1 m.job t c.args.case r q.2 q.4 known.0)

pub plan_new-requires : goal.plan_new-requires
plan_new-requires c =
    let q = c.requires in
    (q.0, q.1, q.2, q.3, subst (λ (d : CaseOf). IsValidating q.0 q.1 c.args.self.now.job c.args.position.now d (validated unchanged) c.args.room.now q.2) c.in-NewLeaf.is q.4)

pub returns-in-NewLeaf-clause-fits : goal.returns-in-NewLeaf-clause-fits
returns-in-NewLeaf-clause-fits c z u v room h =
    c.plan_new.ensures.fits z u v room (subst (λ (d : CaseOf). IsValidating z u c.args.self.now.job c.args.position.now d (validated unchanged) c.args.room.now v) c.in-NewLeaf.is h)

pub plan_stays-requires : goal.plan_stays-requires
plan_stays-requires c =
    let q = c.requires in
    (q.0, q.1, q.2, q.3, subst (λ (d : CaseOf). IsValidating q.0 q.1 c.args.self.now.job c.args.position.now d (validated unchanged) c.args.room.now q.2) c.in-DropLeaf.is q.4)

pub returns-in-DropLeaf-clause-fits : goal.returns-in-DropLeaf-clause-fits
returns-in-DropLeaf-clause-fits c z u v room h =
    c.plan_stays.ensures.fits z u v room (subst (λ (d : CaseOf). IsValidating z u c.args.self.now.job c.args.position.now d (validated unchanged) c.args.room.now v) c.in-DropLeaf.is h)

pub plan_shrinks-requires : goal.plan_shrinks-requires
plan_shrinks-requires c =
    let q = c.requires in
    (q.0, q.1, q.2, q.3, subst (λ (d : CaseOf). IsValidating q.0 q.1 c.args.self.now.job c.args.position.now d (validated unchanged) c.args.room.now q.2) c.in-Shrink.is q.4)

pub returns-in-Shrink-clause-fits : goal.returns-in-Shrink-clause-fits
returns-in-Shrink-clause-fits c z u v room h =
    c.plan_shrinks.ensures.fits z u v room (subst (λ (d : CaseOf). IsValidating z u c.args.self.now.job c.args.position.now d (validated unchanged) c.args.room.now v) c.in-Shrink.is h)

pub plan_merges-requires : goal.plan_merges-requires
plan_merges-requires c =
    let q = c.requires in
    (q.0, q.1, q.2, q.3, subst (λ (d : CaseOf). IsValidating q.0 q.1 c.args.self.now.job c.args.position.now d (validated unchanged) c.args.room.now q.2) c.in-MergeLeaf.is q.4)

pub returns-in-MergeLeaf-clause-fits : goal.returns-in-MergeLeaf-clause-fits
returns-in-MergeLeaf-clause-fits c z u v room h =
    c.plan_merges.ensures.fits z u v room (subst (λ (d : CaseOf). IsValidating z u c.args.self.now.job c.args.position.now d (validated unchanged) c.args.room.now v) c.in-MergeLeaf.is h)

pub plan_lowers-requires : goal.plan_lowers-requires
plan_lowers-requires c =
    let q = c.requires in
    (q.0, q.1, q.2, q.3, subst (λ (d : CaseOf). IsValidating q.0 q.1 c.args.self.now.job c.args.position.now d (validated unchanged) c.args.room.now q.2) c.in-MergeNode.is q.4)

pub returns-in-MergeNode-clause-fits : goal.returns-in-MergeNode-clause-fits
returns-in-MergeNode-clause-fits c z u v room h =
    c.plan_lowers.ensures.fits z u v room (subst (λ (d : CaseOf). IsValidating z u c.args.self.now.job c.args.position.now d (validated unchanged) c.args.room.now v) c.in-MergeNode.is h)
