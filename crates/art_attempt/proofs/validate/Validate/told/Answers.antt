use Rattle.std.proofs.Common.{◌∙◌, ap, sym, subst}
use Rattle.art_attempt.proofs.LongPaths.{torn_told}
use Rattle.art_attempt.proofs.Validates.{check_told}
use Rattle.art_attempt.specs.Validate.{Fits, after_check, asks}
use Rattle.art_attempt.specs.declared.validate.Validate.{Validate}
use Rattle.art_attempt.proofs.validate.Validate.told.Goals as goal

pub returns-in-Read-clause-fits : goal.returns-in-Read-clause-fits
returns-in-Read-clause-fits c z k deed u v w asked fits is row =
    let t = c.args.position.now in
    let o = c.args.cells.now in
    c.read_told.ensures.fits z k deed u v w asked (subst (λ (m : Validate). Fits z k t o m c.args.read_set.now c.args.lower.now u v) c.in-Read.is fits) (sym (ap (asks t o) c.in-Read.is) ∙ is) row

pub returns-in-Header-clause-fits : goal.returns-in-Header-clause-fits
returns-in-Header-clause-fits c z k deed u v w asked fits is row =
    let t = c.args.position.now in
    let o = c.args.cells.now in
    c.header_told.ensures.fits z k deed u v w asked (subst (λ (m : Validate). Fits z k t o m c.args.read_set.now c.args.lower.now u v) c.in-Header.is fits) (sym (ap (asks t o) c.in-Header.is) ∙ is) row

pub returns-in-Torn-clause-fits : goal.returns-in-Torn-clause-fits
returns-in-Torn-clause-fits c z k deed u v w asked fits is row =
    let t = c.args.position.now in
    let o = c.args.cells.now in
    let read_set = c.args.read_set.now in
    let lower = c.args.lower.now in
    torn_told z k t o read_set lower u v w deed asked c.args.answer (subst (λ (m : Validate). Fits z k t o m read_set lower u v) c.in-Torn.is fits) (sym (ap (asks t o) c.in-Torn.is) ∙ is) row

pub returns-in-Check-clause-fits : goal.returns-in-Check-clause-fits
returns-in-Check-clause-fits c z k deed u v w asked fits is row =
    let t = c.args.position.now in
    let o = c.args.cells.now in
    let read_set = c.args.read_set.now in
    let lower = c.args.lower.now in
    subst (λ (m : Validate). Fits z k t o m read_set lower u w) (sym (c.checked.ensures ∙ ap (after_check c.args.answer) c.next_check.ensures))
    (check_told z k t o read_set lower u v w c.in-Check.role deed asked c.args.answer (subst (λ (m : Validate). Fits z k t o m read_set lower u v) c.in-Check.is fits) (sym (ap (asks t o) c.in-Check.is) ∙ is) row)
