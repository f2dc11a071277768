-- So far the steps of the change are made.
use Rattle.std.proofs.Common.{◌≡◌, ◌-◌, ◌<◌, true}
use Rattle.art_plan.specs.Apply.{Fits, Runs, is_begun, most_steps}
use Rattle.art_step.specs.declared.views.View.{View}
use Rattle.art_plan.proofs.apply.Apply.run.Given as goal

abbrev pub invariant-loop-self : goal.invariant-loop-self
invariant-loop-self g l = record {
  only : g.S.Steps.only l.fn.steps l.steps;
  sizes : g.S.Steps.sizes l.steps ≡ g.S.Steps.sizes l.fn.steps;
  runs : Runs l.fn.self l.self (g.S.Steps.view l.fn.steps) (g.S.Steps.view l.steps) l.fn.left l.left;
  some : is_begun l.self ≡ true → 0 < l.left;
  here : (u : View) × Fits (g.S.Steps.sizes l.fn.steps) l.change l.self u (g.S.Steps.view l.steps);
  fits : (u : View) → Fits (g.S.Steps.sizes l.fn.steps) l.change l.fn.self u (g.S.Steps.view l.fn.steps) →
      Fits (g.S.Steps.sizes l.fn.steps) l.change l.self u (g.S.Steps.view l.steps);
}

abbrev pub decreases-loop-self : goal.decreases-loop-self
decreases-loop-self g l = 580 - most_steps l.self
