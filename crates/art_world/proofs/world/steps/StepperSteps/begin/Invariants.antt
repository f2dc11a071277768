-- What is found of a cell.
use Rattle.art_step.specs.Effects.{FindsVersion}
use Rattle.art_step.specs.Steps.Begin as begin
use Rattle.std.proofs.Common.{◌≡◌}
use Rattle.art_world.proofs.world.steps.StepperSteps.begin.Given as goal

abbrev pub ghosts-find : goal.ghosts-find
ghosts-find a = record { shown = λ v w. w ≡ begin.view_after a.self.now.sizes v a._about.now.0 a._about.now.1; happens = FindsVersion a._about.now.0 a._about.now.1 }
