use Rattle.std.proofs.Common.{◌≡◌, ◌∙◌, Some, ap, sym, subst}
use Rattle.art_attempt.proofs.CaseCells.{stands_begins}
use Rattle.art_attempt.proofs.Names.{named_as, naming_changed, naming_so}
use Rattle.art_attempt.proofs.Ends.{anywhere}
use Rattle.art_attempt.proofs.attempts.Attempt.named.Goals as goal
use Rattle.art_attempt.specs.Cases.{IsCaseOf}
use Rattle.art_attempt.specs.declared.attempts.Job.{Job}
use Rattle.art_attempt.specs.declared.attempts.Case.TheVariants.{MergeNode, NewLeaf}
use Rattle.art_attempt.specs.Naming.{StageFits, ended_at}
use Rattle.art_attempt.specs.declared.naming.Named.{Named}
use Rattle.art_attempt.specs.declared.naming.Named.TheVariants.{Unchanged}
use Rattle.art_attempt.specs.declared.naming.Naming.{Naming}
use Rattle.art_attempt.specs.declared.naming.Naming.TheVariants.{Ended}
use Rattle.art_plan.specs.declared.choose_remove.Lower.{Lower}

pub returns-in-Unchanged-clause-fits : goal.returns-in-Unchanged-clause-fits
returns-in-Unchanged-clause-fits c z u v s room h is =
    let m = c.args.self.now in
    let r = c.args.room.now in
    let k = r.row.key.items in
    let t = c.args.position.now in
    let n = c.args.node in
    let x = c.in-Unchanged.stamp in
    let ended : ended_at s ≡ Some (Unchanged x) = is ∙ ap (λ (e : Named). Some e) c.in-Unchanged.is in
    let fits : StageFits z k t n (Ended (Unchanged x)) r.read_set r.lower h.early v = subst (λ (q : Naming). StageFits z k t n q r.read_set r.lower h.early v) (named_as s (Unchanged x) ended) h.fits.stage in
    let so = naming_so z u m.job t c.args.byte n s r v h in
    let names = fits.0 in
    let l : Lower = record { stamp = x; node = n; byte = c.args.byte } in
    c.validate.ensures.fits z u v room so (subst (λ (j : Job). IsCaseOf j (MergeNode l)) (sym h.job) tt) names.stands.standing (h.leaf, (names.whole, h.leaves))
    (record { stands = stands_begins z u 21702 t r v so names.stands.standing; whole = names.whole; here = names.here; is = names.is; named = names.named }, fits.1, fits.2)

pub returns-in-Changed-clause-fits : goal.returns-in-Changed-clause-fits
returns-in-Changed-clause-fits c z u v s room h is =
    let m = c.args.self.now in
    let r = c.args.room.now in
    let so = naming_changed z u m.job c.args.position.now c.args.byte c.args.node s r v h (is ∙ ap (λ (e : Named). Some e) c.in-Changed.is) in
    record { room = room; stage = record { position = anywhere; case = NewLeaf; ends = (record { still = so.0.still; spent = so.0.spent; has = so.0.has }, so.1) } }
