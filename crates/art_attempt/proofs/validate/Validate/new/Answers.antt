use Rattle.std.proofs.Common.{refl, arith}
use Rattle.art_attempt.proofs.validate.Validate.new.Goals as goal

pub returns-in-None-clause-fits : goal.returns-in-None-clause-fits
returns-in-None-clause-fits c z k u knows =
    c.from_here.ensures.fits z k u u knows (c.in-None.ensures.whole z k u u knows) (record { failures = refl; steps = omega arith })
