use Rattle.std.proofs.Common.{sym, subst}
use Rattle.art_attempt.proofs.Validates.{checks_begin, each_of}
use Rattle.art_attempt.specs.Validate.{Fits, HasLeft, KnowsWords, Until, left_after}
use Rattle.art_attempt.specs.declared.validate.Role.{Role}
use Rattle.art_attempt.specs.declared.validate.Validate.{Validate}
use Rattle.art_attempt.proofs.validate.from_below.Goals as goal

pub returns-in-Above-clause-fits : goal.returns-in-Above-clause-fits
returns-in-Above-clause-fits c z k u v knows until words left =
    let so = KnowsWords c.args.position.now c.args.cells.now c.args.read_set.now c.args.lower.now in
    c.from_here.ensures.fits z k u v knows (subst (λ (q : Role). so q) c.in-Above.is words) (subst (λ (q : Role). HasLeft u v (left_after q) 798) c.in-Above.is left)

pub returns-in-Here-clause-fits : goal.returns-in-Here-clause-fits
returns-in-Here-clause-fits c z k u v knows until words left =
    let so = KnowsWords c.args.position.now c.args.cells.now c.args.read_set.now c.args.lower.now in
    c.from_lower.ensures.fits z k u v knows (subst (λ (q : Role). Until so q) c.in-Here.is until) (subst (λ (q : Role). so q) c.in-Here.is words)
    (subst (λ (q : Role). HasLeft u v (left_after q) 798) c.in-Here.is left)

pub returns-in-Lower-clause-fits : goal.returns-in-Lower-clause-fits
returns-in-Lower-clause-fits c z k u v knows until words left =
    let t = c.args.position.now in
    let o = c.args.cells.now in
    let read_set = c.args.read_set.now in
    let lower = c.args.lower.now in
    let so = KnowsWords t o read_set lower in
    let above = subst (λ (q : Role). Until so q) c.in-Lower.is until in
    subst (λ (m : Validate). Fits z k t o m read_set lower u v) (sym c.first_check.ensures)
    (checks_begin z k t o read_set lower u v knows (each_of so above.0 above.1 (subst (λ (q : Role). so q) c.in-Lower.is words)) (subst (λ (q : Role). HasLeft u v (left_after q) 798) c.in-Lower.is left))
