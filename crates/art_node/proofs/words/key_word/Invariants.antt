use Rattle.std.proofs.Common.{◌≡◌, ℕ, ◌+◌, ◌<◌, length, get_or}
use Rattle.art_node.proofs.words.key_word.Given as goal

abbrev pub invariant-loop-at : goal.invariant-loop-at
invariant-loop-at l = record {
  eight : length l.bytes ≡ 8;
  filled : (i : ℕ) → i < l.at → get_or l.bytes i 0 ≡ get_or l.key (l.from + i) 0;
}
