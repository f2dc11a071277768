-- A target was locked, or it was not.
use Rattle.std.proofs.Common.{ap, subst, ◌∙◌, arith}
use Rattle.art_plan.specs.Apply.{brings}
use Rattle.art_step.specs.Acting.{Answers}
use Rattle.art_step.specs.declared.actions.Answer.{Answer}
use Rattle.art_step.specs.declared.actions.Answer.TheVariants.{Upgraded}
use Rattle.art_step.specs.declared.actions.Action.TheVariants.{Upgrade}
use Rattle.art_plan.proofs.Locking.{lock_on, lock_fails}
use Rattle.art_plan.proofs.apply.upgraded.Goals as goal

pub returns-in-Ok-clause-fits : goal.returns-in-Ok-clause-fits
returns-in-Ok-clause-fits c z u v w x planned at was row =
    let ch = c.args.change.now in
    c.locked.ensures.fits u w (lock_on z u ch planned c.args.index x at v w was (subst (λ (r : Answer). Answers z (brings ch) (Upgrade x.stamp) r v w) (c.in-Upgraded.is ∙ ap Upgraded c.in-Ok.is) row))

pub returns-in-Err-clause-fits : goal.returns-in-Err-clause-fits
returns-in-Err-clause-fits c z u v w x planned at was row =
    let ch = c.args.change.now in
    c.given_up.ensures.fits ch u w (let few = c.requires.few in omega arith) (lock_fails z u ch planned c.args.index x at v w was c.in-Err.fault (subst (λ (r : Answer). Answers z (brings ch) (Upgrade x.stamp) r v w) (c.in-Upgraded.is ∙ ap Upgraded c.in-Err.is) row))
