-- The machine fits what the pass did so far.
use Rattle.std.proofs.Common.{◌≡◌, ◌+◌, ◌-◌, ◌*◌}
use Rattle.art_epoch.specs.Taking.{Fits}
use Rattle.art_world_uses.proofs.free_numbers.counted_take.Given as goal

abbrev pub invariant-loop-asked : goal.invariant-loop-asked
invariant-loop-asked g l = record {
  sizes : g.S.Steps.sizes l.steps ≡ g.S.Steps.sizes l.initial.steps;
  words : l.taking.words ≡ l.initial.taking.words;
  fits : Fits (g.S.Steps.sizes l.initial.steps) (g.S.Steps.view l.initial.steps) l.taking (g.S.Steps.view l.steps);
}

-- each step counts, and so many are made at most
abbrev pub decreases-loop-asked : goal.decreases-loop-asked
decreases-loop-asked g l = (g.S.Steps.view l.initial.steps).steps + 2 * l.initial.taking.words - (g.S.Steps.view l.steps).steps
