use Rattle.std.proofs.Common.{◌∙◌, ap, sym, subst}
use Rattle.art_attempt.specs.Naming.{Fits, asks}
use Rattle.art_attempt.specs.declared.naming.Naming.{Naming}
use Rattle.art_attempt.proofs.naming.Naming.told.Goals as goal

pub returns-in-Begin-clause-fits : goal.returns-in-Begin-clause-fits
returns-in-Begin-clause-fits c z k t n read_set deed u v w asked fits is row =
    c.begun.ensures.fits z k t c.in-Begin.field-0 n read_set deed u v w asked (subst (λ (m : Naming). Fits z k t n m read_set c.args.lower.now u v) c.in-Begin.is fits) (sym (ap (asks t) c.in-Begin.is) ∙ is) row

pub returns-in-Check-clause-fits : goal.returns-in-Check-clause-fits
returns-in-Check-clause-fits c z k t n read_set deed u v w asked fits is row =
    c.checked.ensures.fits z k t n read_set c.args.lower.now deed u v w asked (subst (λ (m : Naming). Fits z k t n m read_set c.args.lower.now u v) c.in-Check.is fits) (sym (ap (asks t) c.in-Check.is) ∙ is) row
