-- Which words a child that comes, goes or is another one changes.
use Rattle.std.specs.Prelude.{ℕ, ◌+◌, ◌==◌, List, [], ◌∷◌, if◌then◌else◌}
use Rattle.art_cell.specs.declared.cells.Write.{Write}

-- the header and the child word of the byte, in ascending place
abbrev pub both_words : ℕ → ℕ → ℕ → List Write
both_words header byte child = record { place = 1; value = header } ∷ record { place = 10 + byte; value = child } ∷ []

-- the child word of the byte, where it had another one
abbrev pub child_words : ℕ → ℕ → ℕ → List Write
child_words had byte child = if had == child then [] else record { place = 10 + byte; value = child } ∷ []
