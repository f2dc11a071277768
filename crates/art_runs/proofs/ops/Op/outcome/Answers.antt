use Rattle.std.proofs.Common.{ℕ, IfSome, subst}
use Rattle.art_change.specs.Calls.{HasCalled, IsCalling, Wish, restarts_in}
use Rattle.art_change.specs.declared.callers.Caller.{Caller}
use Rattle.art_step.specs.declared.views.Sizes.{Sizes}
use Rattle.art_step.specs.declared.views.View.{View}
use Rattle.art_runs.proofs.ops.Op.outcome.Goals as goal

pub returns-clause-called : goal.returns-clause-called
returns-clause-called c =
    subst (λ (a : Caller). IfSome c.outcome.result (λ o. (z : Sizes) (w : Wish) (given turns : ℕ) (u v : View) → IsCalling z w given turns u a v → HasCalled z w given turns (restarts_in a) u a o v))
    c.deref.ensures c.outcome.ensures.called
