use Rattle.std.proofs.Common.{◌≡◌, ℕ, ◌<◌, ◌≤◌, ◌^◌, get_or}
use Rattle.art_node.proofs.relaid.clear.Given as goal

abbrev pub invariant-loop-place : goal.invariant-loop-place
invariant-loop-place l = record {
  below : (p : ℕ) → p < l.fn.from → get_or l.words p 0 ≡ get_or l.initial.words p 0;
  here : (p : ℕ) → l.fn.from ≤ p → p < l.place → get_or l.words p 0 ≡ 0;
  fits : (p : ℕ) → get_or l.words p 0 < 2 ^ 64;
}
