use Rattle.std.proofs.Common.{◌≡◌, ◌∙◌, sym, refl, Option, Some, None}
use Rattle.std.specs.Prelude.{IfSome}
use Rattle.art_attempt.proofs.Given.{made_may}
use Rattle.art_plan.proofs.Keeping.{asks_made}
use Rattle.art_attempt.proofs.attempts.Attempt.make_next.Goals as goal
use Rattle.art_attempt.specs.Asking.{IsAllowed}
use Rattle.art_step.specs.declared.actions.Action.{Action}
use Rattle.art_plan.proofs.Told.{allowed}

pub returns-clause-allowed : goal.returns-clause-allowed
returns-clause-allowed c z u v d h = by_answer c.next.result refl
  where
    by_answer : (o : Option Action) → c.next.result ≡ o → IfSome o (IsAllowed z d c.args.room.now.change v)
    by_answer None is = tt
    by_answer (Some a) is =
        let change = c.args.room.now.change in
        let apply = c.args.apply.now in
        let asks = sym c.next.ensures.asks ∙ is in
        made_may z d change v a (asks_made change apply a asks) (allowed z h.early v change apply a h.fits asks)

pub returns-clause-going : goal.returns-clause-going
returns-clause-going c z u v h going = c.next.ensures.going z h.early v h.fits going
