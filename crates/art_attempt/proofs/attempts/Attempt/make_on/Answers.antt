use Rattle.std.proofs.Common.{◌∙◌, sym}
use Rattle.art_attempt.proofs.attempts.Attempt.make_on.Goals as goal

pub returns-in-None-clause-fits : goal.returns-in-None-clause-fits
returns-in-None-clause-fits c z u v room h = record { room = room; stage = (h, sym c.ended.ensures ∙ c.in-None.is) }

pub returns-in-Some-clause-fits : goal.returns-in-Some-clause-fits
returns-in-Some-clause-fits c z u v room h = c.made.ensures.fits z u v c.args.apply room h (sym c.ended.ensures ∙ c.in-Some.is)
