-- A look that settles nothing needs no effects.
use Rattle.std.specs.Prelude.{⊤}
use Rattle.art_step.proofs.AnswerKinds.{answers_any}
use Rattle.art_step.specs.Acting.{telling}
use Rattle.art_find.proofs.Looks.{allowed_look}
use Rattle.art_find.proofs.driver.look.Goals as goal

pub perform-requires-clause-allowed : goal.perform-requires-clause-allowed
perform-requires-clause-allowed g c =
    allowed_look (g.S.Steps.sizes c.args.steps.now) (g.S.Steps.view c.args.steps.now) (λ s. ⊤) c.args.action c.in_default.not-Settle c.requires.allowed

pub returns-in_default-clause-row : goal.returns-in_default-clause-row
returns-in_default-clause-row g c d =
    answers_any (g.S.Steps.sizes c.args.steps.now) (telling d) c.args.action c.perform.result (g.S.Steps.view c.args.steps.now) (g.S.Steps.view c.perform.new.steps) c.perform.ensures.row
