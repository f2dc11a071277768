-- So far words of the leaf are written.
use Rattle.std.proofs.Common.{◌≡◌}
use Rattle.art_attempt.specs.Reserve.{Fits}
use Rattle.art_attempt.specs.declared.reserve.Reserve.TheVariants.{LeafWriter}
use Rattle.art_attempt.specs.declared.reserve.Demand.{Demand}
use Rattle.art_step.specs.Turns.{Spends}
use Rattle.art_step.specs.declared.views.View.{View}
use Rattle.art_attempt.proofs.reserve.Reserve.pack_on.Given as goal

abbrev pub invariant-loop-left : goal.invariant-loop-left
invariant-loop-left g l = record {
  only : g.S.Steps.only l.fn.steps l.steps;
  sizes : g.S.Steps.sizes l.steps ≡ g.S.Steps.sizes l.fn.steps;
  turns : Spends (g.S.Steps.view l.fn.steps) (g.S.Steps.view l.steps) l.fn.left l.left;
  here : (demand : Demand) × (u : View) × Fits (g.S.Steps.sizes l.fn.steps) demand l.key l.value (LeafWriter l.leaf_writer) l.stock u (g.S.Steps.view l.steps);
  fits : (demand : Demand) (u : View) → Fits (g.S.Steps.sizes l.fn.steps) demand l.key l.value l.fn.self l.stock u (g.S.Steps.view l.fn.steps)
      → Fits (g.S.Steps.sizes l.fn.steps) demand l.key l.value (LeafWriter l.leaf_writer) l.stock u (g.S.Steps.view l.steps);
}

abbrev pub decreases-loop-left : goal.decreases-loop-left
decreases-loop-left g l = l.left
