use Rattle.std.proofs.Common.{arith}
use Rattle.art_attempt.proofs.Validates.{left_less}
use Rattle.art_attempt.proofs.validate.from_here.Goals as goal

pub returns-in-None-clause-fits : goal.returns-in-None-clause-fits
returns-in-None-clause-fits c z k u v knows above left =
    c.from_lower.ensures.fits z k u v knows above (c.in-None.ensures.whole z k u v knows) (left_less u v 533 268 798 (omega arith) left)
