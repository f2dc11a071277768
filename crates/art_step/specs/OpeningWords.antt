-- The words of a world at its opening, place by place.
use Rattle.std.specs.Prelude.{ℕ, ◌+◌, ◌-◌, ◌*◌, ◌%◌, ◌^◌, ◌==◌, List, map, nat_lt, if◌then◌else◌}
use Rattle.std.specs.List.{range_with_len}
use Rattle.art_cell.specs.declared.cells.Pool.TheVariants.{Leaves, N4, N16, N48, N256}
use Rattle.art_step.specs.declared.views.Sizes.{Sizes}
use Rattle.art_step.specs.WordPlaces.{cells_end, epoch_place, first_cell, first_free_word, free_words_end, word_count}

-- the first word of each cell of so many words has this version, and the others are 0
abbrev pub version_or_zero : ℕ → ℕ → ℕ → ℕ
version_or_zero i each version = if i % each == 0 then version else 0

-- a word with its first bits set, so many of them
abbrev pub first_bits : ℕ → ℕ
first_bits n = if nat_lt n 64 then 2 ^ n - 1 else 2 ^ 64 - 1

-- the words of nodes: obsolete, with a counter that begins at k
abbrev pub opening_node_word : Sizes → ℕ → ℕ → ℕ
opening_node_word z k place =
    if nat_lt place (first_cell z N16) then version_or_zero (place - first_cell z N4) 15 (4 * k + 1)
    else if nat_lt place (first_cell z N48) then version_or_zero (place - first_cell z N16) 28 (4 * k + 1)
    else if nat_lt place (first_cell z N256) then version_or_zero (place - first_cell z N48) 90 (4 * k + 1)
    else version_or_zero (place - first_cell z N256) 266 (4 * k + 1)

-- the words of free numbers: all are free
abbrev pub opening_free_word : Sizes → ℕ → ℕ
opening_free_word z place =
    if nat_lt place (first_free_word z N4) then first_bits (z.leaves - 64 * (place - first_free_word z Leaves))
    else if nat_lt place (first_free_word z N16) then first_bits (z.n4 - 64 * (place - first_free_word z N4))
    else if nat_lt place (first_free_word z N48) then first_bits (z.n16 - 64 * (place - first_free_word z N16))
    else if nat_lt place (first_free_word z N256) then first_bits (z.n48 - 64 * (place - first_free_word z N48))
    else first_bits (z.n256 - 64 * (place - first_free_word z N256))

-- the anchor, which is clear and names no root; leaves of zeros; nodes; free numbers; the epoch, which is 1; and
-- the words of the passes, which are idle. In the gaps stands 0.
abbrev pub opening_word : Sizes → ℕ → ℕ → ℕ
opening_word z k place =
    if place == 0 then 4 * k
    else if nat_lt place (first_cell z N4) then 0
    else if nat_lt place (cells_end z) then opening_node_word z k place
    else if nat_lt place (free_words_end z) then opening_free_word z place
    else if place == epoch_place z then 1
    else 0

unfoldable pub opening_words : Sizes → ℕ → List ℕ
opening_words z k = map (opening_word z k) (range_with_len 0 (word_count z))
