use Rattle.std.proofs.Common.{◌≡◌, ◌∙◌, true, false, refl, sym, subst}
use Rattle.std.proofs.lemmas.Option.{same_Some}
use Rattle.art_attempt.proofs.LowerBegins.{name_told}
use Rattle.art_attempt.specs.declared.naming.Named.TheVariants.{Unchanged}
use Rattle.art_attempt.specs.declared.naming.Naming.TheVariants.{Ended}
use Rattle.art_step.specs.Acting.{Answers, passed, telling}
use Rattle.art_step.specs.declared.actions.Action.{Action}
use Rattle.art_step.specs.declared.actions.Action.TheVariants as action
use Rattle.art_attempt.proofs.naming.checked.Goals as goal

pub returns-then-passed-clause-fits : goal.returns-then-passed-clause-fits
returns-then-passed-clause-fits c z k t n read_set lower deed u v w asked fits is row =
    let at : action.Check t.stamp ≡ asked = same_Some {A = Action} (action.Check t.stamp) asked is in
    let on : passed c.args.answer ≡ true = sym c.passed.ensures ∙ c.if-passed.true in
    name_told z k t n read_set lower deed c.args.stamp u v w fits c.args.answer (Ended (Unchanged c.args.stamp)) (λ yes. refl) (λ no. let both : true ≡ false = sym on ∙ no in cc)
    (subst (λ (q : Action). Answers z (telling deed) q c.args.answer v w) (sym at) row)
