-- So far words are read.
use Rattle.std.proofs.Common.{◌≡◌, ◌+◌, ◌<◌, ℕ, get_or, length}
use Rattle.art_find.specs.Kept.{WasReadAt}
use Rattle.art_find.specs.Runs.{HasReadOnly}
use Rattle.art_find.proofs.read_sets.read_run.Given as goal

abbrev pub invariant-loop-index : goal.invariant-loop-index
invariant-loop-index g l = record {
  only : g.S.Steps.only l.fn.steps l.steps;
  sizes : g.S.Steps.sizes l.steps ≡ g.S.Steps.sizes l.fn.steps;
  long : length l.words ≡ length l.fn.words;
  after : HasReadOnly (g.S.Steps.view l.fn.steps) (g.S.Steps.view l.steps) l.index;
  read : (i : ℕ) → i < l.index → WasReadAt (g.S.Steps.sizes l.fn.steps) (g.S.Steps.view l.steps) l.stamp (l.place + i) (get_or l.words i 0);
}
