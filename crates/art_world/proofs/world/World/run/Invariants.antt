use Rattle.std.proofs.Common.{◌≡◌, ◌≤◌, ℕ, length, take, Some}
use Rattle.std.specs.List.{slice_get}
use Rattle.art_world.specs.Turns.{IsRun}
use Rattle.art_step.specs.WordRows.{view_at}
use Rattle.art_world.proofs.world.World.run.Given as goal

abbrev pub invariant-loop-turn : goal.invariant-loop-turn
invariant-loop-turn g l = record {
  run : IsRun g.T.Actor.fits g.T.Actor.has_ended g.T.Actor.makes (take l.turn-index l.turns) l.initial.self l.initial.actors l.self l.actors;
  sizes : l.self.sizes ≡ l.initial.self.sizes;
  passes : length l.self.views ≡ length l.initial.self.views;
  actors : length l.actors ≡ length l.initial.actors;
  fits : (p : ℕ) (a : g.row.T.Denot) → slice_get l.actors p ≡ Some a → g.T.Actor.fits a l.self.sizes (view_at l.self.views p);
  others : (q : ℕ) → length l.initial.actors ≤ q → view_at l.self.views q ≡ view_at l.initial.self.views q;
}
