-- So far the seek goes on.
use Rattle.art_look.proofs.driver.finish.Given as goal
use Rattle.art_look.specs.Seeks.{GoesTo, steps_left}

abbrev pub invariant-loop-seek : goal.invariant-loop-seek
invariant-loop-seek g l = record {
  only : g.S.Steps.only l.fn.steps l.steps;
  goes : GoesTo (g.S.Steps.sizes l.fn.steps) l.key l.hi l.fn.seek l.fn.path_buffer (g.S.Steps.view l.fn.steps) l.seek l.path_buffer (g.S.Steps.view l.steps);
}

abbrev pub decreases-loop-seek : goal.decreases-loop-seek
decreases-loop-seek g l = steps_left l.seek
