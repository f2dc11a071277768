use Rattle.std.proofs.Common.{Option, subst, sym}
use Rattle.std.specs.Prelude.{IfSome, None}
use Rattle.art_attempt.proofs.Reserves.{allowed}
use Rattle.art_attempt.proofs.reserve.Reserve.next.Goals as goal
use Rattle.art_step.specs.Acting.{IsAllowed}
use Rattle.art_step.specs.declared.actions.Action.{Action}

pub returns-clause-allowed : goal.returns-clause-allowed
returns-clause-allowed c z u v demand fits =
    subst (λ (o : Option Action). IfSome o (IsAllowed z None v)) (sym c.asked.ensures)
    (allowed z demand c.args.key.now c.args.value c.args.self.now c.args.stock.now u v c.requires.few fits.stage)
