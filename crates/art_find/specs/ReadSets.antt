-- What stands in a read set.
use Rattle.std.specs.Prelude.{ℕ, List, Option, None, false, replicate, if◌then◌else◌}
use Rattle.art_find.specs.declared.read_sets.ReadSet.{ReadSet}

-- the words of the cell where the finding stands, and of the one above it
abbrev pub node_of : ReadSet → List (Option ℕ)
node_of read_set = if read_set.turned then read_set.second else read_set.first

abbrev pub above_of : ReadSet → List (Option ℕ)
above_of read_set = if read_set.turned then read_set.first else read_set.second

-- with these words of the two
abbrev pub with_words : List (Option ℕ) → List (Option ℕ) → ReadSet
with_words node above = record { first = node; second = above; turned = false }

abbrev pub no_words : ReadSet
no_words = with_words (replicate 266 None) (replicate 266 None)
