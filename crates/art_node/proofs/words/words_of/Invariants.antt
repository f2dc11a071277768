use Rattle.std.proofs.Common.{◌≡◌, length, map}
use Rattle.std.specs.List.{range_with_len}
use Rattle.art_cell.specs.Leaves.{leaf_word}
use Rattle.art_node.proofs.words.words_of.Given as goal

abbrev pub invariant-loop-place : goal.invariant-loop-place
invariant-loop-place l = record {
  few : length l.writes.items ≡ l.place;
  items : l.writes.items ≡ map (λ place. record { place = place; value = leaf_word l.key l.value place }) (range_with_len 0 l.place);
}
