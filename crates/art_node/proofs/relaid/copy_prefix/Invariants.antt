use Rattle.std.proofs.Common.{◌≡◌, ℕ, ◌<◌, ◌≤◌}
use Rattle.art_cell.specs.Reads.{word_of}
use Rattle.art_node.proofs.relaid.copy_prefix.Given as goal

abbrev pub invariant-loop-place : goal.invariant-loop-place
invariant-loop-place l = record {
  layout : l.after.layout ≡ l.initial.after.layout;
  first : (p : ℕ) → p < 2 → word_of l.after p ≡ word_of l.initial.after p;
  copied : (p : ℕ) → 2 ≤ p → p < l.place → word_of l.after p ≡ word_of l.body p;
}
