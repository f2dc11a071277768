use Rattle.std.proofs.Common.{◌≢◌, ℕ, Option, subst}
use Rattle.std.specs.Prelude.{IfSome}
use Rattle.art_change.proofs.callers.Caller.run.Goals as goal
use Rattle.art_change.specs.Calls.{HasCalled, IsCalling, StaysApart, Wish, restarts_in}
use Rattle.art_change.specs.declared.outcomes.Outcome.{Outcome}
use Rattle.art_change.specs.declared.outcomes.Outcome.TheVariants.{Overlaps as overlaps}
use Rattle.art_step.specs.declared.views.Sizes.{Sizes}
use Rattle.art_step.specs.declared.views.View.{View}

pub returns-clause-called : goal.returns-clause-called
returns-clause-called g c w given turns u calling =
    let z = g.S.Steps.sizes c.args.steps.now in
    let a = c.finish.new.self in
    subst (λ (o : Option Outcome). IfSome o (λ x. (z : Sizes) (w : Wish) (given turns : ℕ) (u v : View) → IsCalling z w given turns u a v → HasCalled z w given turns (restarts_in a) u a x v))
    c.unwrap.ensures c.outcome.ensures.called z w given turns u (g.S.Steps.view c.finish.new.steps) (c.finish.ensures.calling w given turns u calling)

pub returns-clause-apart : goal.returns-clause-apart
returns-clause-apart g c keys a =
    subst (λ (o : Option Outcome). IfSome o (λ x. StaysApart c.finish.new.self → x ≢ overlaps)) c.unwrap.ensures c.outcome.ensures.apart (c.finish.ensures.apart keys a)
