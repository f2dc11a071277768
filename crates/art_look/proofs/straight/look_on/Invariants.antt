-- So far the look goes on, or restarted.
use Rattle.std.proofs.Common.{◌≡◌, ◌+◌, ◌<◌, ◌≤◌, false}
use Rattle.art_key.specs.declared.bounds.Bound.{Bound as KeyBound}
use Rattle.art_look.specs.Driven.{LookFits}
use Rattle.art_look.specs.Looks.{has_ended}
use Rattle.art_look.specs.Straight.{IsUnderWay}
use Rattle.art_step.specs.declared.views.View.{View}
use Rattle.art_look.proofs.straight.look_on.Given as goal

abbrev pub invariant-loop-tally : goal.invariant-loop-tally
invariant-loop-tally g l = record {
  only : g.S.Steps.only l.fn.steps l.steps;
  some : 0 < l.tally.left;
  less : l.tally.left ≤ l.fn.tally.left;
  few : l.tally.restarts + l.tally.left ≤ 4294967295;
  made : (g.S.Steps.view l.steps).steps + l.tally.left ≡ (g.S.Steps.view l.fn.steps).steps + l.fn.tally.left;
  going : has_ended l.look.stage ≡ false;
  here : IsUnderWay (g.S.Steps.sizes l.steps) l.lo (g.S.Steps.view l.steps) l.look l.path_buffer l.tally;
  fits : (hi : KeyBound) (u : View) →
      LookFits (g.S.Steps.sizes l.fn.steps) l.fn.lo hi u (g.S.Steps.view l.fn.steps) l.fn.look l.fn.path_buffer l.fn.tally.restarts →
      LookFits (g.S.Steps.sizes l.fn.steps) l.fn.lo hi u (g.S.Steps.view l.steps) l.look l.path_buffer l.tally.restarts;
}

abbrev pub decreases-loop-tally : goal.decreases-loop-tally
decreases-loop-tally g l = l.tally.left
