-- The machine fits what the pass did so far.
use Rattle.std.proofs.Common.{◌≡◌, ◌+◌, ◌-◌, ◌*◌}
use Rattle.art_epoch.specs.Taking.{Fits}
use Rattle.art_epoch.proofs.stocks.take.Given as goal

abbrev pub invariant-loop-action : goal.invariant-loop-action
invariant-loop-action g l = record {
  only : g.S.Steps.only l.initial.steps l.steps;
  sizes : g.S.Steps.sizes l.steps ≡ g.S.Steps.sizes l.initial.steps;
  pool : l.taking.pool ≡ l.fn.pool;
  words : l.taking.words ≡ l.initial.taking.words;
  first : l.taking.first ≡ 0;
  fits : Fits (g.S.Steps.sizes l.initial.steps) (g.S.Steps.view l.initial.steps) l.taking (g.S.Steps.view l.steps);
}

-- each step counts, and so many are made at most
abbrev pub decreases-loop-action : goal.decreases-loop-action
decreases-loop-action g l = (g.S.Steps.view l.initial.steps).steps + 2 * l.initial.taking.words - (g.S.Steps.view l.steps).steps
