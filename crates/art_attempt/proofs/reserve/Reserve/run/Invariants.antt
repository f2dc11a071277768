-- So far numbers come in, and words of the leaf are written.
use Rattle.std.proofs.Common.{◌≡◌}
use Rattle.art_attempt.specs.Reserve.{Fits, HasLeafWords}
use Rattle.art_step.specs.Turns.{Spends}
use Rattle.art_step.specs.declared.views.View.{View}
use Rattle.art_attempt.proofs.reserve.Reserve.run.Given as goal

abbrev pub invariant-loop-left : goal.invariant-loop-left
invariant-loop-left g l = record {
  only : g.S.Steps.only l.fn.steps l.steps;
  sizes : g.S.Steps.sizes l.steps ≡ g.S.Steps.sizes l.fn.steps;
  turns : Spends (g.S.Steps.view l.fn.steps) (g.S.Steps.view l.steps) l.fn.left l.left;
  keeps : HasLeafWords l.fn.stock → HasLeafWords l.stock;
  here : (u : View) × Fits (g.S.Steps.sizes l.fn.steps) l.demand l.key l.value l.self l.stock u (g.S.Steps.view l.steps);
  fits : (u : View) → Fits (g.S.Steps.sizes l.fn.steps) l.demand l.key l.value l.fn.self l.fn.stock u (g.S.Steps.view l.fn.steps) →
      Fits (g.S.Steps.sizes l.fn.steps) l.demand l.key l.value l.self l.stock u (g.S.Steps.view l.steps);
}

abbrev pub decreases-loop-left : goal.decreases-loop-left
decreases-loop-left g l = l.left
