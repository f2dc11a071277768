use Rattle.std.proofs.Common.{◌≡◌, ◌∙◌, ℕ, List, Option, ap, subst, sym}
use Rattle.std.specs.Prelude.{Ok}
use Rattle.art_attempt.proofs.LowerBegins.{begun_told}
use Rattle.art_attempt.specs.Naming.{Fits}
use Rattle.art_attempt.specs.declared.naming.Naming.TheVariants.{Check}
use Rattle.art_step.specs.declared.actions.Answer.TheVariants.{Begun}
use Rattle.art_attempt.proofs.naming.begun.Goals as goal

pub returns-in-Ok-clause-fits : goal.returns-in-Ok-clause-fits
returns-in-Ok-clause-fits c z k t m n read_set deed u v w asked fits is row =
    let x = c.in-Ok.stamp in
    let told : c.args.answer ≡ Begun (Ok x) = c.in-Begun.is ∙ ap Begun c.in-Ok.is in
    subst (λ (reads : List (Option ℕ)). Fits z k t n (Check x) read_set reads u w) (sym c.clear.ensures)
    (begun_told z k t m n read_set c.args.lower.now deed asked c.args.answer x u v w fits is told row)
