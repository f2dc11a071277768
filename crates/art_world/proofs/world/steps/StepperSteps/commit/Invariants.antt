-- The first release of a change, and its event.
use Rattle.art_step.specs.declared.views.Holding.{Holding}
use Rattle.art_step.specs.Steps.Commit as commit
use Rattle.art_step.specs.Tokens.{links_of}
use Rattle.art_step.specs.Views.{IsHolding}
use Rattle.art_step.specs.WordRows.{view_at}
use Rattle.art_world.proofs.world.steps.StepperSteps.commit.Given as goal

abbrev pub ghosts-put : goal.ghosts-put
ghosts-put a = record { shown = λ v w. (h : Holding) → IsHolding v a._about.now.0 h → commit.Outcome v w a._about.now.2.now (links_of a._about.now.4.now) (commit.coming v a._about.now.3) h; happens = commit.UnlocksFirst (view_at a.self.now.views a.pass) a._about.now.0 a._about.now.1 }
