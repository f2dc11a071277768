-- So far cells are read and checked.
use Rattle.std.proofs.Common.{◌≡◌, ◌+◌, List, ℕ}
use Rattle.art_attempt.specs.Reserve.{StayFound}
use Rattle.art_attempt.specs.Validate.{Fits, NodeStays, steps_left}
use Rattle.art_step.specs.Turns.{Spends}
use Rattle.art_step.specs.declared.views.View.{View}
use Rattle.art_attempt.proofs.validate.Validate.run.Given as goal

abbrev pub invariant-loop-left : goal.invariant-loop-left
invariant-loop-left g l = record {
  only : g.S.Steps.only l.fn.steps l.steps;
  sizes : g.S.Steps.sizes l.steps ≡ g.S.Steps.sizes l.fn.steps;
  turns : Spends (g.S.Steps.view l.fn.steps) (g.S.Steps.view l.steps) l.fn.left l.left;
  found : StayFound (g.S.Steps.view l.fn.steps) (g.S.Steps.view l.steps);
  node : NodeStays l.position l.fn.read_set l.read_set;
  now : (k : List ℕ) × (u : View) × Fits (g.S.Steps.sizes l.fn.steps) k l.position l.cells l.self l.read_set l.lower u (g.S.Steps.view l.steps);
  fits : (k : List ℕ) (u : View) → Fits (g.S.Steps.sizes l.fn.steps) k l.position l.cells l.fn.self l.fn.read_set l.fn.lower u (g.S.Steps.view l.fn.steps) →
      Fits (g.S.Steps.sizes l.fn.steps) k l.position l.cells l.self l.read_set l.lower u (g.S.Steps.view l.steps);
}

-- a cell is read on, or a turn is taken
abbrev pub decreases-loop-left : goal.decreases-loop-left
decreases-loop-left g l = steps_left l.self + l.left
