-- So far the steps of the opening follow one another.
use Rattle.std.proofs.Common.{◌≡◌, ◌+◌, ◌≤◌, List}
use Rattle.art_attempt.specs.Attempts.{IsRoom}
use Rattle.art_change.proofs.writes.Write.enter_all.Given as goal
use Rattle.art_change.specs.Writes.{Fits, IsUntried, SameRow}
use Rattle.art_epoch.specs.Enter.{EnterFits, steps_left}
use Rattle.art_epoch.specs.Limbo.{places_of}
use Rattle.art_epoch.specs.declared.limbo.Place.{Place}
use Rattle.art_step.specs.declared.views.View.{View}

abbrev pub invariant-loop-asked : goal.invariant-loop-asked
invariant-loop-asked g l = record {
  only : g.S.Steps.only l.fn.steps l.steps;
  sizes : g.S.Steps.sizes l.steps ≡ g.S.Steps.sizes l.fn.steps;
  row : SameRow l.fn.room l.room;
  later : (g.S.Steps.view l.fn.steps).steps ≤ (g.S.Steps.view l.steps).steps;
  left : (g.S.Steps.view l.steps).steps + steps_left l.running (places_of l.limbo) ≤
      (g.S.Steps.view l.fn.steps).steps + steps_left l.initial.running (places_of l.fn.limbo);
  fits : (u : View) (ps : List Place) →
      Fits (g.S.Steps.sizes l.fn.steps) u ps l.fn.self l.fn.room (places_of l.fn.limbo) (g.S.Steps.view l.fn.steps) →
      IsRoom (g.S.Steps.sizes l.fn.steps) l.room ×
      EnterFits (g.S.Steps.sizes l.fn.steps) u ps l.running (places_of l.limbo) (g.S.Steps.view l.steps) ×
      IsUntried (g.S.Steps.sizes l.fn.steps) u l.fn.self l.room (g.S.Steps.view l.steps);
}

abbrev pub decreases-loop-asked : goal.decreases-loop-asked
decreases-loop-asked g l = steps_left l.running (places_of l.limbo)
