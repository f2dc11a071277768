use Rattle.std.proofs.Common.{◌≡◌, ◌-◌, length}
use Rattle.art_cell.specs.Leaves.{key_read}
use Rattle.art_node.proofs.KeyBytes.{after_front}
use Rattle.art_node.proofs.words.key_in.Given as goal

abbrev pub invariant-loop-at : goal.invariant-loop-at
invariant-loop-at l = record {
  few : length l.key.items ≡ l.at;
  read : after_front l.key.items (key_read l.reads l.at (l.length - l.at)) ≡ key_read l.reads 0 l.length;
}
