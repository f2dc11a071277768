-- What is shown.
use Rattle.art_step.specs.declared.views.Holding.{Holding}
use Rattle.art_step.specs.Steps.Commit as commit
use Rattle.art_step.specs.Tokens.{links_of}
use Rattle.art_step.specs.Views.{IsHolding}
use Rattle.art_shared.specs.Passes.{view_in}
use Rattle.art_shared.proofs.steps.StepperSteps.commit.Given as goal

abbrev pub ghosts-add : goal.ghosts-add
ghosts-add a = record { shown = λ n v w. (k : Holding) → IsHolding v a._about.now.0 k → commit.Outcome v w a._about.now.2.now (links_of a._about.now.4.now) (commit.coming v a._about.now.3) k; happens = λ n. commit.UnlocksFirst (view_in a.self.now.seat.me.0) a._about.now.0 a._about.now.1 }
