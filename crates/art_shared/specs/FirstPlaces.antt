-- Where the nodes of each layout begin, and the words of each pool's free numbers.
use Rattle.std.specs.Prelude.{ℕ, List, [], ◌∷◌}
use Rattle.art_cell.specs.declared.cells.Pool.TheVariants.{Leaves, N4, N16, N48, N256}
use Rattle.art_step.specs.declared.views.Sizes.{Sizes}
use Rattle.art_step.specs.WordPlaces.{first_cell, first_free_word}

-- the place of the first word of each layout's first node, from the smallest layout to the largest
abbrev pub first_nodes : Sizes → List ℕ
first_nodes z = first_cell z N4 ∷ first_cell z N16 ∷ first_cell z N48 ∷ first_cell z N256 ∷ []

-- the place of the first word of each pool's free numbers: of leaves, and then of nodes from the smallest layout to the largest
abbrev pub first_free_words : Sizes → List ℕ
first_free_words z =
    first_free_word z Leaves ∷ first_free_word z N4 ∷ first_free_word z N16 ∷ first_free_word z N48 ∷ first_free_word z N256 ∷ []
