-- What two texts have in common at their beginning.
use Rattle.std.specs.Prelude.{◌≡◌, ◌≢◌, ℕ, ◌<◌, ◌≤◌, List, length, get_or, take}

-- so many bytes are within both and the same in both, and no more are
pub record IsCommon (xs ys : List ℕ) (n : ℕ) : Type 0 where
  pub within_one : n ≤ length xs
  pub within_other : n ≤ length ys
  pub same : take n xs ≡ take n ys
  pub longest : n < length xs → n < length ys → get_or xs n 0 ≢ get_or ys n 0
