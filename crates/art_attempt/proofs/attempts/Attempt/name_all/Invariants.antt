-- So far steps of the naming are made.
use Rattle.std.proofs.Common.{◌≡◌, ◌≢◌, Some, true}
use Rattle.art_attempt.specs.declared.attempts.Ending.TheVariants.{Overlaps}
use Rattle.art_attempt.specs.Attempts.{Fits, ended_at, is_free}
use Rattle.art_attempt.specs.Parts.{Prepares}
use Rattle.art_step.specs.declared.views.View.{View}
use Rattle.art_attempt.proofs.attempts.Attempt.name_all.Given as goal

abbrev pub invariant-loop-left : goal.invariant-loop-left
invariant-loop-left g l = record {
  only : g.S.Steps.only l.fn.steps l.steps;
  sizes : g.S.Steps.sizes l.steps ≡ g.S.Steps.sizes l.fn.steps;
  apart : ended_at l.self ≢ Some Overlaps;
  free : is_free l.self ≡ true;
  here : (u : View) × Fits (g.S.Steps.sizes l.fn.steps) u l.self l.room (g.S.Steps.view l.steps);
  prepared : Prepares (g.S.Steps.sizes l.fn.steps) l.fn.self l.fn.room l.fn.left (g.S.Steps.view l.fn.steps) l.self l.room l.left
      (g.S.Steps.view l.steps);
}

abbrev pub decreases-loop-left : goal.decreases-loop-left
decreases-loop-left g l = l.left
