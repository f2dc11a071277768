-- What words in a row mean, and views in a row: those of all passes, in the order of their numbers.
use Rattle.std.specs.Prelude.{ℕ, zero, suc, ◌+◌, List, [], ◌∷◌, get_or, slice_index_or, nat_lt, if◌then◌else◌}
use Rattle.std.specs.List.{slice_get}
use Rattle.art_cell.specs.declared.cells.Cell.{Cell}
use Rattle.art_cell.specs.declared.cells.Cell.TheVariants as cell
use Rattle.art_cell.specs.declared.cells.Pool.{Pool}
use Rattle.art_step.specs.declared.views.Sizes.{Sizes}
use Rattle.art_step.specs.declared.views.View.{View}
use Rattle.art_step.specs.Opening.{newcomer}
use Rattle.art_step.specs.Views.{Memory, Views, size_of}
use Rattle.art_step.specs.WordPlaces.{epoch_place, first_free_word, first_place, free_words, is_inside, pass_place, place_of, pool_size}

abbrev pub version_in : Sizes → List ℕ → Cell → ℕ
version_in z ws cell.Anchor = get_or ws 0 0
version_in z ws (cell.Leaf l) = 1
version_in z ws (cell.Node n) = if is_inside z (cell.Node n) then get_or ws (place_of z (cell.Node n)) 0 else 1

-- the word at a place of the cell, and 0 at one that it does not have
abbrev pub word_in : Sizes → List ℕ → Cell → ℕ → ℕ
word_in z ws c i = if is_inside z c then (if nat_lt i (first_place c) then 0 else if nat_lt i (size_of c) then get_or ws (place_of z c + i) 0 else 0) else 0

-- the word of free numbers at an index of the pool, and 0 at one that there is not. A word may have bits above the pool's last
-- number: one that is set there would show as free a number that there is not, which the invariant rules out
abbrev pub free_word_in : Sizes → List ℕ → Pool → ℕ → ℕ
free_word_in z ws pool i = if nat_lt i (free_words (pool_size z pool)) then get_or ws (first_free_word z pool + i) 0 else 0

abbrev pub pass_word_in : Sizes → List ℕ → ℕ → ℕ
pass_word_in z ws p = if nat_lt p z.passes then get_or ws (pass_place z p) 0 else 0

abbrev pub memory_of : Sizes → List ℕ → Memory
memory_of z ws = record {
  version = version_in z ws;
  words = word_in z ws;
  free_word = free_word_in z ws;
  epoch = get_or ws (epoch_place z) 0;
  pass_word = pass_word_in z ws;
}

-- ---- views, in the order of their passes

abbrev pub views_of : List View → Views
views_of vs p = slice_get vs p

abbrev pub view_at : List View → ℕ → View
view_at vs p = slice_index_or vs p (newcomer p)

-- so many passes that know nothing, from a number on
abbrev pub newcomers : ℕ → ℕ → List View
newcomers p zero = []
newcomers p (suc n) = newcomer p ∷ newcomers (suc p) n
