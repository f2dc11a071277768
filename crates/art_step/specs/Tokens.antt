-- What the values that stand for a locked cell, and for a number in hand, stand for.
use Rattle.std.specs.Prelude.{List, ℕ, filter_map}
use Rattle.art_cell.specs.Children.{link_in_pool, link_of}
use Rattle.art_cell.specs.declared.cells.Cell.{Cell}
use Rattle.art_cell.specs.declared.cells.Link.{Link}
use Rattle.art_step.specs.declared.numbers.Number.{Number}
use Rattle.art_step.specs.declared.held.Held.{Held}

abbrev pub cell_held : Held → Cell
cell_held h = h.cell

abbrev pub link_of_number : Number → Link
link_of_number n = link_in_pool n.pool n.number

-- the cells that these words name
abbrev pub links_of : List ℕ → List Link
links_of words = filter_map link_of words
