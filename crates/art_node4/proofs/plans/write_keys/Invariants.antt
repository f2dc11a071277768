use Rattle.std.proofs.Common.{◌≡◌, ℕ, ◌<◌, ◌≤◌, ◌^◌, ◌-◌, ◌*◌}
use Rattle.art_cell.specs.Words.{key_byte}
use Rattle.art_cell.specs.Reads.{word_of}
use Rattle.art_node4.specs.Sorted.{entry_or_none}
use Rattle.art_node4.proofs.plans.write_keys.Given as goal

abbrev pub invariant-loop-place : goal.invariant-loop-place
invariant-loop-place l = record {
  keys : (i : ℕ) → i < (l.place - 10) * 8 → key_byte (word_of l.body) i ≡ (entry_or_none l.list.items i).byte;
  before : (p : ℕ) → p < 10 → word_of l.body p ≡ word_of l.initial.body p;
  after : (p : ℕ) → l.place ≤ p → word_of l.body p ≡ word_of l.initial.body p;
  fits : ((p : ℕ) → word_of l.initial.body p < 2 ^ 64) → (p : ℕ) → word_of l.body p < 2 ^ 64;
  layout : l.body.layout ≡ l.initial.body.layout;
}
