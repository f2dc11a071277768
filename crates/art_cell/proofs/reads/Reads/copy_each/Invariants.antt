-- So far words are copied.
use Rattle.std.proofs.Common.{◌≡◌, ◌≤◌, ◌<◌, ℕ, length, get_or}
use Rattle.std.specs.Prelude.{unwrap_or}
use Rattle.art_cell.specs.Reads.{word_read}
use Rattle.art_cell.proofs.reads.Reads.copy_each.Given as goal

abbrev pub invariant-loop-place : goal.invariant-loop-place
invariant-loop-place l = (length l.words ≡ 266) × ((p : ℕ) → p < l.from → get_or l.words p 0 ≡ get_or l.fn.words p 0)
    × ((p : ℕ) → l.from ≤ p → p < l.place → get_or l.words p 0 ≡ unwrap_or (word_read l.self p) 0)
    × ((p : ℕ) → l.to ≤ p → get_or l.words p 0 ≡ get_or l.fn.words p 0)
