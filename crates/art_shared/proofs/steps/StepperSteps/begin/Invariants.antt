-- What is shown.
use Rattle.std.specs.Prelude.{◌≡◌}
use Rattle.art_step.specs.Effects.{FindsVersion}
use Rattle.art_step.specs.Steps.Begin as begin
use Rattle.art_shared.proofs.steps.StepperSteps.begin.Given as goal

abbrev pub ghosts-load : goal.ghosts-load
ghosts-load a = record { shown = λ n v w. w ≡ begin.view_after a.shared.now.basis.sizes v a._about.now n; happens = λ n. FindsVersion a._about.now n }
