use Rattle.std.proofs.Common.{subst}
use Rattle.std.specs.Prelude.{Result}
use Rattle.art_step.specs.Acting.{Answers, telling}
use Rattle.art_step.specs.declared.actions.Answer.TheVariants.{Checked}
use Rattle.art_look.specs.Looks.{deed_at}
use Rattle.art_step.specs.declared.faults.Changed.{Changed}
use Rattle.art_look.proofs.looks.Look.check_told.Goals as goal

pub returns-in-Ok-clause-fits : goal.returns-in-Ok-clause-fits
returns-in-Ok-clause-fits c = λ z lo hi t u v w asked fits is row.
    c.checked_at.ensures.fits z lo hi t u v w asked fits is (subst (λ (r : Result (Unit {0}) Changed). Answers z (telling (deed_at lo hi t c.args.self.now.stage)) asked (Checked r) v w) c.in-Ok.is row)
