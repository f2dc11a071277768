-- What is asked may be done, and something is asked until the end.
use Rattle.std.proofs.Common.{sym, ◌≡◌, ◌∙◌, Some, None}
use Rattle.std.specs.Prelude.{Option, IfSome}
use Rattle.art_step.specs.Acting.{IsAllowed}
use Rattle.art_plan.specs.Apply.{Fits, asks, brings}
use Rattle.art_step.specs.declared.actions.Action.{Action}
use Rattle.art_plan.specs.declared.apply.Apply.{Apply}
use Rattle.art_plan.proofs.Told.{allowed, going}
use Rattle.art_plan.specs.declared.changes.Change.{Change}
use Rattle.art_step.specs.declared.views.Sizes.{Sizes}
use Rattle.art_step.specs.declared.views.View.{View}
use Rattle.art_plan.proofs.apply.Apply.next.Goals as goal

each : (z : Sizes) (u v : View) (c : Change) (m : Apply) (o : Option Action) → o ≡ asks c m → Fits z c m u v → IfSome o (IsAllowed z (brings c) v)
each z u v c m None is fits = tt
each z u v c m (Some a) is fits = allowed z u v c m a fits (sym is)

pub returns-clause-allowed : goal.returns-clause-allowed
returns-clause-allowed c z u v fits = each z u v c.args.change.now c.args.self.now c.asked.result c.asked.ensures fits

pub returns-clause-going : goal.returns-clause-going
returns-clause-going c z u v fits on = let k = going z u v c.args.change.now c.args.self.now fits on in (k.0, c.asked.ensures ∙ k.1)
