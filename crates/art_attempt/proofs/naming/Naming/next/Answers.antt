use Rattle.std.proofs.Common.{subst}
use Rattle.art_attempt.proofs.LowerBegins.{allowed}
use Rattle.art_attempt.specs.Naming.{StageFits}
use Rattle.art_attempt.specs.declared.naming.Naming.{Naming}
use Rattle.art_attempt.specs.declared.naming.Naming.TheVariants.{Begin}
use Rattle.art_attempt.proofs.naming.Naming.next.Goals as goal

pub returns-in-Begin-clause-allowed : goal.returns-in-Begin-clause-allowed
returns-in-Begin-clause-allowed c z k n read_set lower u v fits =
    let t = c.args.position.now in
    allowed z k t n read_set lower u v (Begin c.in-Begin.node) (subst (λ (m : Naming). StageFits z k t n m read_set lower u v) c.in-Begin.is fits.stage)
