use Rattle.std.proofs.Common.{◌≡◌, ◌∙◌, sym, refl, Option, Some, None}
use Rattle.std.specs.Prelude.{IfSome}
use Rattle.art_attempt.proofs.Finds.{finding_allowed, finding_going}
use Rattle.art_attempt.proofs.Given.{look_may}
use Rattle.art_attempt.proofs.attempts.Attempt.find_next.Goals as goal
use Rattle.art_attempt.specs.Asking.{IsAllowed}
use Rattle.art_attempt.specs.Attempts.{deed_by}
use Rattle.art_step.specs.declared.actions.Action.{Action}

pub returns-clause-going : goal.returns-clause-going
returns-clause-going c z u v r f = let k = finding_going c.args.self.now.job c.args.finding.now f.going in (k.0, c.finding_asked.ensures ∙ k.1)

pub returns-clause-allowed : goal.returns-clause-allowed
returns-clause-allowed c z u v r f = by_answer c.finding_asked.result refl
  where
    by_answer : (o : Option Action) → c.finding_asked.result ≡ o → IfSome o (IsAllowed z (deed_by c.args.self.now.job c.args.finding.now r) r.change v)
    by_answer None is = tt
    by_answer (Some a) is =
        let d = deed_by c.args.self.now.job c.args.finding.now r in
        look_may z d r.change v a (finding_allowed z u c.args.self.now.job c.args.finding.now r v f a (sym c.finding_asked.ensures ∙ is))
