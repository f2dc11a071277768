-- The numbers so far are counted.
use Rattle.std.proofs.Common.{◌≡◌, ◌≤◌}
use Rattle.std.specs.List.{count_by}
use Rattle.art_step.specs.Views.{is_free}
use Rattle.art_closed.specs.Cells.{memory_in}
use Rattle.art_closed.specs.Counts.{first_numbers}
use Rattle.art_closed.proofs.counts.free_numbers.Given as goal

abbrev pub invariant-loop-number : goal.invariant-loop-number
invariant-loop-number l = record {
  few : l.free ≤ l.number;
  counted : l.free ≡ count_by (is_free (memory_in l.reader.sizes l.reader.words.now)) (first_numbers l.pool l.number);
}
