-- The cells that the words of a closed table mean.
use Rattle.std.specs.Prelude.{◌≡◌, List, length}
use Rattle.art_step.specs.declared.views.Sizes.{Sizes}
use Rattle.art_step.specs.Views.{Memory}
use Rattle.art_step.specs.WordPlaces.{word_count}
use Rattle.art_step.specs.WordRows.{memory_of}
use Rattle.art_tree.specs.Heaps.{Cells, heap_of}
use Rattle.art_tree.specs.Tree.{Heap}
use Rattle.art_key.specs.declared.columns.Column.{Column}
use Rattle.art_shared.specs.declared.ended.Ended.{Ended}
use Rattle.art_shared.specs.Ended.{basis_left, words_of}

-- what the table was opened with: its sizes, and what spelled the keys
abbrev pub sizes_left : Ended → Sizes
sizes_left e = (basis_left e).sizes

abbrev pub schema_left : Ended → List Column
schema_left e = (basis_left e).schema

-- there are as many words as the sizes say
abbrev pub HasAllWords : Sizes → Ended → Type 0
HasAllWords z e = length (words_of e) ≡ word_count z

-- what the words mean: numbers and all, the words of cells, and the heap
abbrev pub memory_in : Sizes → Ended → Memory
memory_in z e = memory_of z (words_of e)

abbrev pub cells_in : Sizes → Ended → Cells
cells_in z e = (memory_in z e).words

abbrev pub heap_in : Sizes → Ended → Heap
heap_in z e = heap_of (cells_in z e)
