-- The header and the first words of the prefix are written, and the words past the prefix are as they were.
use Rattle.std.proofs.Common.{◌≡◌, ℕ, ◌+◌, ◌*◌, ◌/◌, ◌%◌, ◌^◌, ◌<◌, ◌≤◌, length, get_or}
use Rattle.art_cell.specs.Leaves.{word_of_bytes}
use Rattle.art_node.proofs.words.set_prefix.Given as goal

abbrev pub invariant-loop-at : goal.invariant-loop-at
invariant-loop-at l = record {
  all : length l.body.words ≡ 266;
  layout : l.body.layout ≡ l.fn.body.layout;
  header : get_or l.body.words 1 0 ≡ get_or l.fn.body.words 1 0 / 65536 * 65536 + 512 * length l.prefix + get_or l.fn.body.words 1 0 % 512;
  words : (i : ℕ) → i < l.at → get_or l.body.words (2 + i) 0 ≡ word_of_bytes l.prefix (8 * i);
  rest : (p : ℕ) → 10 ≤ p → get_or l.body.words p 0 ≡ get_or l.fn.body.words p 0;
  version : get_or l.body.words 0 0 ≡ get_or l.fn.body.words 0 0;
  fits : (p : ℕ) → get_or l.body.words p 0 < 2 ^ 64;
}
