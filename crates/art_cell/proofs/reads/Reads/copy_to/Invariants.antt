-- So far groups are copied, and what stands behind them stays.
use Rattle.std.proofs.Common.{◌≡◌, ◌*◌, ◌<◌, ◌≤◌, ℕ, get_or}
use Rattle.std.specs.Prelude.{min, unwrap_or}
use Rattle.art_cell.specs.Reads.{word_read}
use Rattle.art_cell.proofs.reads.Reads.copy_to.Given as goal

abbrev pub invariant-loop-group : goal.invariant-loop-group
invariant-loop-group l = record {
  copied : (p : ℕ) → p < min l.count (64 * l.group) → get_or l.words p 0 ≡ unwrap_or (word_read l.self p) 0;
  behind : (p : ℕ) → min l.count (64 * l.group) ≤ p → get_or l.words p 0 ≡ get_or l.fn.words p 0;
}
