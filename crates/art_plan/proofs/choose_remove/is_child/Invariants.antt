use Rattle.std.proofs.Common.{◌≡◌, ◌≢◌, ◌≤◌, ◌<◌, ℕ, Some}
use Rattle.art_cell.specs.Reads.{word_read}
use Rattle.art_cell.specs.Words.{first_child, size}
use Rattle.art_plan.proofs.choose_remove.is_child.Given as goal

abbrev pub invariant-loop-place : goal.invariant-loop-place
invariant-loop-place l = (first_child l.fn.layout ≤ l.place) × (l.place-end ≡ size l.fn.layout)
    × ((i : ℕ) → first_child l.fn.layout ≤ i → i < l.place → word_read l.reads i ≢ Some l.word)
