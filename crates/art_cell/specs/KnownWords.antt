-- Words by their places, where a bit for each place says whether its word is known.
use Rattle.std.specs.Prelude.{ℕ, ◌/◌, ◌%◌, List, map, get_or, ◌==◌, if◌then◌else◌, Option, Some, None}
use Rattle.std.specs.List.{range_with_len}
use Rattle.std.specs.Int.{bit_at}

-- 64 places a word of bits, the first in the lowest bit
abbrev pub known_bit : List ℕ → ℕ → ℕ
known_bit bits place = bit_at (get_or bits (place / 64) 0) (place % 64)

abbrev pub known_word : List ℕ → List ℕ → ℕ → Option ℕ
known_word words bits place = if known_bit bits place == 1 then Some (get_or words place 0) else None

-- the words that are known, of 266 places
unfoldable pub known_words : List ℕ → List ℕ → List (Option ℕ)
known_words words bits = map (known_word words bits) (range_with_len 0 266)
