-- So far this new node is filled.
use Rattle.std.proofs.Common.{◌≡◌, ◌-◌, []}
use Rattle.art_plan.specs.Apply.{Fits, IsLocking, OnlyWrites, at_fill}
use Rattle.art_plan.specs.declared.apply.Apply.TheVariants.{Filling}
use Rattle.art_plan.specs.Changes.{targets}
use Rattle.art_step.specs.declared.views.Sizes.{Sizes}
use Rattle.art_step.specs.declared.views.View.{View}
use Rattle.art_plan.proofs.apply.fill.Given as goal

abbrev pub invariant-loop-index : goal.invariant-loop-index
invariant-loop-index g l = record {
  only : g.S.Steps.only l.fn.steps l.steps;
  sizes : g.S.Steps.sizes l.steps ≡ g.S.Steps.sizes l.fn.steps;
  held : l.held ≡ l.initial.held;
  made : OnlyWrites (g.S.Steps.view l.fn.steps) (g.S.Steps.view l.steps) (l.index - l.fn.place);
  filled : (z : Sizes) (u : View) → Fits z l.fn.change (Filling l.fn.copy l.fn.place) u (g.S.Steps.view l.fn.steps) →
      IsLocking u l.fn.change (targets l.fn.change) [] (at_fill l.fn.change l.fn.copy l.index) (g.S.Steps.view l.steps);
}
