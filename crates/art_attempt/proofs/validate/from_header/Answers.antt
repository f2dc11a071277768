use Rattle.std.proofs.Common.{◌≡◌, ◌∙◌, ◌≤◌, None, refl, sym, subst, arith}
use Rattle.art_attempt.proofs.LongPaths.{after_few, after_fits, after_goes, header_fits, others_fit}
use Rattle.art_attempt.specs.Validate.{Fits, ended_at, path_below, steps_left}
use Rattle.art_attempt.specs.declared.validate.Role.TheVariants.{Lower}
use Rattle.art_attempt.specs.declared.validate.Validate.{Validate}
use Rattle.art_attempt.specs.declared.validate.Validate.TheVariants.{Read}
use Rattle.art_attempt.proofs.validate.from_header.Goals as goal

pub returns-in-None-clause-fits : goal.returns-in-None-clause-fits
returns-in-None-clause-fits c z k o u v knows until reading left =
    header_fits z k c.args.position.now o c.args.read_set.now c.args.lower.now u v knows until c.args.rereading reading left (sym c.get.ensures ∙ c.in-None.is)

pub returns-in-Some-clause-going : goal.returns-in-Some-clause-going
returns-in-Some-clause-going c =
    subst (λ (m : Validate). ended_at m ≡ None) (sym c.after_header.ensures)
    (after_goes (path_below c.args.position.now c.args.read_set.now c.args.lower.now) (Read Lower c.args.rereading) refl)

pub returns-in-Some-clause-few : goal.returns-in-Some-clause-few
returns-in-Some-clause-few c =
    let some = c.requires in
    subst (λ (m : Validate). steps_left m ≤ 268) (sym c.after_header.ensures)
    (after_few (path_below c.args.position.now c.args.read_set.now c.args.lower.now) 268 (Read Lower c.args.rereading) (omega arith) (omega (arith, some)))

pub returns-in-Some-clause-fits : goal.returns-in-Some-clause-fits
returns-in-Some-clause-fits c z k o u v knows until reading left =
    let t = c.args.position.now in
    let read_set = c.args.read_set.now in
    let lower = c.args.lower.now in
    subst (λ (m : Validate). Fits z k t o m read_set lower u v) (sym c.after_header.ensures)
    (after_fits z k t o read_set lower u v knows until (Read Lower c.args.rereading) reading.stamp c.in-Some.field-0 268 reading.is (sym c.get.ensures ∙ c.in-Some.is) (omega arith) left
    (others_fit z k t o read_set lower u v knows until c.args.rereading reading left))
