use Rattle.std.proofs.Common.{sym, subst, arith}
use Rattle.art_attempt.proofs.Validates.{checks_begin, each_of, left_less}
use Rattle.art_attempt.specs.Validate.{Fits, KnowsWords}
use Rattle.art_attempt.specs.declared.validate.Validate.{Validate}
use Rattle.art_attempt.proofs.validate.from_lower.Goals as goal

pub returns-in-Some-clause-fits : goal.returns-in-Some-clause-fits
returns-in-Some-clause-fits c z k u v knows above here left =
    c.from_header.ensures.fits z k c.args.cells.now u v knows (above, here) (c.in-Some.ensures.fits z k u v knows) left

pub returns-in-None-clause-fits : goal.returns-in-None-clause-fits
returns-in-None-clause-fits c z k u v knows above here left =
    let t = c.args.position.now in
    let o = c.args.cells.now in
    let read_set = c.args.read_set.now in
    let lower = c.args.lower.now in
    subst (λ (m : Validate). Fits z k t o m read_set lower u v) (sym c.first_check.ensures)
    (checks_begin z k t o read_set lower u v knows (each_of (KnowsWords t o read_set lower) above here (c.in-None.ensures.whole z k u v knows)) (left_less u v 268 3 798 (omega arith) left))
