use Rattle.std.proofs.Common.{◌≡◌, ℕ, ◌+◌, ◌<◌, ◌≤◌, ◌^◌}
use Rattle.art_cell.specs.Reads.{word_of}
use Rattle.art_node4.specs.Sorted.{entry_or_none}
use Rattle.art_node4.proofs.plans.write_children.Given as goal

abbrev pub invariant-loop-index : goal.invariant-loop-index
invariant-loop-index l = record {
  children : (i : ℕ) → i < l.index → word_of l.body (l.first_child + i) ≡ (entry_or_none l.list.items i).child;
  before : (p : ℕ) → p < l.first_child → word_of l.body p ≡ word_of l.initial.body p;
  after : (p : ℕ) → l.first_child + l.index ≤ p → word_of l.body p ≡ word_of l.initial.body p;
  fits : ((p : ℕ) → word_of l.initial.body p < 2 ^ 64) → (p : ℕ) → word_of l.body p < 2 ^ 64;
  layout : l.body.layout ≡ l.initial.body.layout;
}
