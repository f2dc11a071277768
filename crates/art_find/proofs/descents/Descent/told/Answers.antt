use Rattle.std.proofs.Common.{subst}
use Rattle.art_step.specs.Acting.{Answers, telling}
use Rattle.art_find.specs.Descents.{answer_at}
use Rattle.art_step.specs.declared.actions.Answer.{Answer}
use Rattle.art_find.proofs.descents.Descent.told.Goals as goal

pub returns-in-Word-clause-fits : goal.returns-in-Word-clause-fits
returns-in-Word-clause-fits c = λ z what u v w asked fits is row.
    c.read_at.ensures.fits z what u v w asked fits is (subst (λ (a : Answer). Answers z (telling (what (answer_at c.args.self.now.stage))) asked a v w) c.in-Word.is row)

pub returns-in-Checked-clause-fits : goal.returns-in-Checked-clause-fits
returns-in-Checked-clause-fits c = λ z what u v w asked fits is row.
    c.check_told.ensures.fits z c.args.key.now what u v w asked fits is (subst (λ (a : Answer). Answers z (telling (what (answer_at c.args.self.now.stage))) asked a v w) c.in-Checked.is row)
