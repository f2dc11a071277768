-- So far the words are put.
use Rattle.std.proofs.Common.{◌≡◌, ◌-◌, take}
use Rattle.art_plan.specs.Apply.{IsLocking, OnlyWrites}
use Rattle.art_plan.specs.Changes.{targets}
use Rattle.art_plan.specs.Whole.{IsWhole, filled_ends}
use Rattle.art_step.specs.declared.views.Sizes.{Sizes}
use Rattle.art_step.specs.declared.views.View.{View}
use Rattle.art_plan.proofs.apply.put_from.Given as goal

abbrev pub invariant-loop-index : goal.invariant-loop-index
invariant-loop-index g l = record {
  only : g.S.Steps.only l.fn.steps l.steps;
  sizes : g.S.Steps.sizes l.steps ≡ g.S.Steps.sizes l.fn.steps;
  made : OnlyWrites (g.S.Steps.view l.fn.steps) (g.S.Steps.view l.steps) (l.index - l.fn.from);
  put : (z : Sizes) (u : View) → IsWhole z u l.fn.change →
      IsLocking u l.fn.change (targets l.fn.change) (take l.fn.from l.fn.change.puts.items) (filled_ends l.fn.change) (g.S.Steps.view l.fn.steps) →
      IsLocking u l.fn.change (targets l.fn.change) (take l.index l.fn.change.puts.items) (filled_ends l.fn.change) (g.S.Steps.view l.steps);
}
