-- The children of a map that has two.
use Rattle.std.proofs.Common.{◌≡◌, ◌≢◌, ℕ, ◌<◌, ◌≤◌, length, Option, Some, sym, ◌∙◌, arith}
use Rattle.art_cell.specs.Lemmas.Entries.{listed_some, one_less_listed, without_elsewhere, without_here}
use Rattle.art_cell.specs.Reads.{without_child}
use Rattle.art_cell.specs.Words.{listed}

-- two bytes with a child are two at least
pub two_listed : (child : ℕ → Option ℕ) (a b c d : ℕ) → a < 256 → b < 256 → a ≢ b → child a ≡ Some c → child b ≡ Some d → 2 ≤ length (listed child 0 256)
two_listed child a b c d a-low b-low apart a-is b-is =
    let less = one_less_listed child (without_child child a) a c 0 256 (omega arith) a-low a-is (without_here child a) (without_elsewhere child a 0 256) in
    let some = listed_some (without_child child a) b d 0 256 (omega arith) b-low (without_elsewhere child a 0 256 b (omega arith) b-low (λ e. apart (sym e)) ∙ b-is) in
    omega (arith, less, some)
