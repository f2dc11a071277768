use Rattle.std.proofs.Common.{◌∙◌, ap, sym, subst, Some}
use Rattle.art_attempt.proofs.CaseCells.{validated_as}
use Rattle.art_attempt.proofs.Stages.{knows_at, stays_at}
use Rattle.art_attempt.specs.Attempts.{IsValidating}
use Rattle.art_attempt.specs.Parts.{validated_in}
use Rattle.art_attempt.specs.declared.attempts.Part.{Part}
use Rattle.art_attempt.specs.declared.attempts.Part.TheVariants as parts
use Rattle.art_attempt.specs.declared.attempts.Stage.TheVariants as stages
use Rattle.art_attempt.specs.declared.validate.Validate.{Validate}
use Rattle.art_attempt.specs.declared.validate.Validated.{Validated}
use Rattle.art_attempt.proofs.attempts.Attempt.validate_on.Goals as goal

pub validated-requires : goal.validated-requires
validated-requires c =
    let m = c.args.self.now in
    let r = c.args.room.now in
    let t = c.in-Placed.position in
    let k = c.in-Validate.case in
    let s = c.in-Validate.validate in
    let q = c.requires.validating in
    let h = knows_at q.0 q.1 m r q.2 t c.in-Placed.part (parts.Validate k s) c.in-Placed.is c.in-Validate.is q.4 in
    let is = validated_as s c.in-Some.validated (sym c.ended.ensures.at ∙ c.in-Some.is) in
    (q.0, q.1, q.2, q.3, subst (λ (s : Validate). IsValidating q.0 q.1 m.job t k s r q.2) is h)

pub returns-in_default-ended-clause-fits : goal.returns-in_default-ended-clause-fits
returns-in_default-ended-clause-fits c z u v room h =
    let m = c.args.self.now in
    let r = c.args.room.now in
    let t = c.in-Placed.position in
    let p = c.in-Placed.part in
    let here = parts.Validate c.in-Validate.case c.in-Validate.validate in
    stays_at z u m r v t p here c.in-Placed.is c.in-Validate.is room
    (knows_at z u m r v t p here c.in-Placed.is c.in-Validate.is h, sym c.ended.ensures.at ∙ c.in_default-ended.is)

pub returns-clause-anew : goal.returns-clause-anew
returns-clause-anew c anew =
    let at = c.in-Placed.is ∙ ap (λ (p : Part). stages.Placed c.in-Placed.position p) c.in-Validate.is in
    ap validated_in at ∙ (sym c.ended.ensures.at ∙ (c.in-Some.is ∙ ap (λ (e : Validated). Some e) (c.validated.ensures.anew anew)))

pub returns-clause-fits : goal.returns-clause-fits
returns-clause-fits c z u v room h =
    let m = c.args.self.now in
    let r = c.args.room.now in
    let t = c.in-Placed.position in
    let k = c.in-Validate.case in
    let s = c.in-Validate.validate in
    let so = knows_at z u m r v t c.in-Placed.part (parts.Validate k s) c.in-Placed.is c.in-Validate.is h in
    let is = validated_as s c.in-Some.validated (sym c.ended.ensures.at ∙ c.in-Some.is) in
    c.validated.ensures.fits z u v room (subst (λ (s : Validate). IsValidating z u m.job t k s r v) is so)
