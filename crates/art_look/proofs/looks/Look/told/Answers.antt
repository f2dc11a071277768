use Rattle.std.proofs.Common.{subst}
use Rattle.art_step.specs.Acting.{Answers, telling}
use Rattle.art_step.specs.declared.actions.Answer.{Answer}
use Rattle.art_look.specs.Looks.{deed_at}
use Rattle.art_look.proofs.looks.Look.told.Goals as goal

pub returns-in-Checked-clause-fits : goal.returns-in-Checked-clause-fits
returns-in-Checked-clause-fits c = λ z hi u v w asked fits is row.
    let lo = c.args.lo.now in
    let t = c.args.path_buffer.now in
    c.check_told.ensures.fits z lo hi t u v w asked fits is (subst (λ (a : Answer). Answers z (telling (deed_at lo hi t c.args.self.now.stage)) asked a v w) c.in-Checked.is row)
