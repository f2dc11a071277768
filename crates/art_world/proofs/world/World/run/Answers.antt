use Rattle.std.proofs.Common.{◌≤◌, ℕ, List, sym, ◌∙◌, subst}
use Rattle.art_world.proofs.TakenTurns.{run_more, turn_actors, turn_passes, turn_past, turn_sizes}
use Rattle.art_world.proofs.world.World.run.Goals as goal

pub loop-turn-preserved : goal.loop-turn-preserved
loop-turn-preserved g c =
    let fits = g.T.Actor.fits in
    let ended = g.T.Actor.has_ended in
    let makes = g.T.Actor.makes in
    let ts : List ℕ = c.args.turns.now in
    let at : ℕ = c.loop-turn.turn-index in
    let low = c.loop-turn-test.true in
    let k = c.loop-turn.self in
    let xs = c.loop-turn.actors in
    let l = c.take_turn.new.self in
    let ys = c.take_turn.new.actors in
    let i = c.loop-turn.invariant in
    let t = c.take_turn.ensures.is_turn in
    record {
      run = run_more fits ended makes k xs l ys ts at _ _ low i.run t;
      sizes = turn_sizes fits ended makes _ k xs l ys t ∙ i.sizes;
      passes = turn_passes fits ended makes _ k xs l ys t ∙ i.passes;
      actors = turn_actors fits ended makes _ k xs l ys t ∙ i.actors;
      fits = c.take_turn.ensures.fits;
      others = λ q past. turn_past fits ended makes _ k xs l ys t q (subst (λ (n : ℕ). n ≤ q) (sym i.actors) past) ∙ i.others q past;
    }
