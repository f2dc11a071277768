-- Where the words of a world stand, in a row: the anchor's, the leaves', the nodes' layout by layout, the words of free numbers
-- pool by pool, the epoch, and the words of the passes. The anchor, the epoch and the word of each pass have a gap of words that
-- nothing reads after them, and so has the last word of free numbers: no two of them share a cache line.
use Rattle.std.specs.Prelude.{ℕ, ◌+◌, ◌*◌, ◌/◌, ◌<◌, nat_lt, Bool, true, ⊤}
use Rattle.art_cell.specs.declared.cells.Layout.TheVariants.{Node4, Node16, Node48, Node256}
use Rattle.art_cell.specs.declared.cells.Pool.{Pool}
use Rattle.art_cell.specs.declared.cells.Pool.TheVariants.{Leaves, N4, N16, N48, N256}
use Rattle.art_cell.specs.declared.cells.Cell.{Cell}
use Rattle.art_cell.specs.declared.cells.Cell.TheVariants as cell
use Rattle.art_cell.specs.declared.cells.Link.TheVariants.{Leaf as leaf, Node as node}
use Rattle.art_step.specs.declared.views.Sizes.{Sizes}
use Rattle.art_step.specs.Views.{size_of, nodes_of, pool_of_layout, IsNumber}
use Rattle.art_cell.specs.Words.{size}

-- how many numbers a pool has
abbrev pub pool_size : Sizes → Pool → ℕ
pool_size z Leaves = z.leaves
pool_size z N4 = nodes_of z Node4
pool_size z N16 = nodes_of z Node16
pool_size z N48 = nodes_of z Node48
pool_size z N256 = nodes_of z Node256

-- how many words a cell of the pool has
abbrev pub words_each : Pool → ℕ
words_each Leaves = size_of (cell.Leaf 0)
words_each N4 = size Node4
words_each N16 = size Node16
words_each N48 = size Node48
words_each N256 = size Node256

-- How many words from one word that passes write often to the next: two cache lines of 64 bytes, as processors fetch lines in pairs.
abbrev pub line_gap : ℕ
line_gap = 16

-- the place of the first word of a pool's cells
abbrev pub first_cell : Sizes → Pool → ℕ
first_cell z Leaves = line_gap
first_cell z N4 = line_gap + words_each Leaves * z.leaves
first_cell z N16 = line_gap + words_each Leaves * z.leaves + words_each N4 * z.n4
first_cell z N48 = line_gap + words_each Leaves * z.leaves + words_each N4 * z.n4 + words_each N16 * z.n16
first_cell z N256 = line_gap + words_each Leaves * z.leaves + words_each N4 * z.n4 + words_each N16 * z.n16 + words_each N48 * z.n48

-- the place after the last cell
abbrev pub cells_end : Sizes → ℕ
cells_end z = first_cell z N256 + words_each N256 * z.n256

-- a word of free numbers has a bit for each of 64
abbrev pub free_words : ℕ → ℕ
free_words n = (n + 63) / 64

-- the place of the first word of a pool's free numbers
abbrev pub first_free_word : Sizes → Pool → ℕ
first_free_word z Leaves = cells_end z
first_free_word z N4 = cells_end z + free_words z.leaves
first_free_word z N16 = cells_end z + free_words z.leaves + free_words z.n4
first_free_word z N48 = cells_end z + free_words z.leaves + free_words z.n4 + free_words z.n16
first_free_word z N256 = cells_end z + free_words z.leaves + free_words z.n4 + free_words z.n16 + free_words z.n48

-- the place after the last word of free numbers
abbrev pub free_words_end : Sizes → ℕ
free_words_end z = first_free_word z N256 + free_words z.n256

abbrev pub epoch_place : Sizes → ℕ
epoch_place z = free_words_end z + line_gap

abbrev pub pass_place : Sizes → ℕ → ℕ
pass_place z p = epoch_place z + line_gap * (1 + p)

-- how many words there are, with the gap after the last pass's
abbrev pub word_count : Sizes → ℕ
word_count z = pass_place z z.passes

-- ---- what they mean

-- there is such a cell
abbrev pub IsInside : Sizes → Cell → Type 0
IsInside z cell.Anchor = ⊤
IsInside z (cell.Leaf l) = IsNumber z (leaf l)
IsInside z (cell.Node n) = IsNumber z (node n)

-- there is such a word of free numbers
abbrev pub HasFreeWord : Sizes → Pool → ℕ → Type 0
HasFreeWord z pool i = i < free_words (pool_size z pool)

-- there is such a cell, and it has a version word
abbrev pub HasVersion : Sizes → Cell → Type 0
HasVersion z cell.Anchor = ⊤
HasVersion z (cell.Leaf l) = ⊥
HasVersion z (cell.Node n) = IsNumber z (node n)

abbrev pub is_inside : Sizes → Cell → Bool
is_inside z cell.Anchor = true
is_inside z (cell.Leaf l) = nat_lt l z.leaves
is_inside z (cell.Node n) = nat_lt n.number (pool_size z (pool_of_layout n.layout))

-- the place of a cell's first word
abbrev pub place_of : Sizes → Cell → ℕ
place_of z cell.Anchor = 0
place_of z (cell.Leaf l) = first_cell z Leaves + words_each Leaves * l
place_of z (cell.Node n) = first_cell z (pool_of_layout n.layout) + words_each (pool_of_layout n.layout) * n.number

-- the place of the first word that is no version word
abbrev pub first_place : Cell → ℕ
first_place cell.Anchor = 1
first_place (cell.Leaf l) = 0
first_place (cell.Node n) = 1
