-- What is shown.
use Rattle.std.specs.Option.{option_map}
use Rattle.art_step.specs.Effects.{FindsUnchanged}
use Rattle.art_step.specs.Steps.Check as check
use Rattle.art_shared.specs.Passes.{view_in}
use Rattle.art_shared.proofs.CellTurns.{AtFound, ByFound}
use Rattle.art_shared.proofs.steps.StepperSteps.check.Given as goal

abbrev pub ghosts-load : goal.ghosts-load
ghosts-load a = record { shown = ByFound a._about.now.0 (λ v w. check.Unchanged a.shared.now.basis.sizes v w a._about.now.0 (option_map (λ d. d.now) a._about.now.1)); happens = AtFound a._about.now.0 (FindsUnchanged a.shared.now.basis.sizes (view_in a.self.now.seat.me.0) a._about.now.0) }
