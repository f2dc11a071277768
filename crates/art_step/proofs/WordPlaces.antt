-- The words of a world do not overlap: cells lie in regions one after the other, and so do the words of free numbers after them.
use Rattle.std.proofs.Common.{◌≡◌, ℕ, zero, suc, ◌+◌, ◌*◌, ◌/◌, ◌<◌, ◌≤◌, ◌↔◌, true, List, [], ◌∷◌, get_or, sym, refl, ap, ap₂, map, ◌∙◌, ⊎_elim, arith}
use Rattle.std.proofs.lemmas.Bool.{cases_order, lt-ltb, ltb-true}
use Rattle.std.proofs.lemmas.Nat.{div-mul-add}
use Rattle.art_cell.specs.declared.cells.Layout.{Layout}
use Rattle.art_cell.specs.declared.cells.Layout.TheVariants.{Node4, Node16, Node48, Node256}
use Rattle.art_cell.specs.declared.cells.Pool.{Pool}
use Rattle.art_cell.specs.declared.cells.Pool.TheVariants.{Leaves, N4, N16, N48, N256}
use Rattle.art_cell.specs.declared.cells.Cell.{Cell}
use Rattle.art_cell.specs.declared.cells.Cell.TheVariants as cell
use Rattle.art_cell.specs.declared.cells.Link.{Link}
use Rattle.art_cell.specs.declared.cells.Link.TheVariants.{Leaf as leaf, Node as node}
use Rattle.art_step.specs.declared.views.Sizes.{Sizes}
use Rattle.art_step.specs.Views.{size_of, nodes_of, free_index, pool_of, pool_of_layout, pool_rank, IsNumber}
use Rattle.art_cell.specs.Words.{size}
use Rattle.art_cell.specs.Children.{number_of}
use Rattle.art_step.specs.WordPlaces.{pool_size, words_each, HasFreeWord, IsInside, is_inside}
use Rattle.art_step.specs.WordPlaces.{first_cell, cells_end, free_words, first_free_word, free_words_end, word_count, place_of}

-- ---- numbers inside

nodes_again : (z : Sizes) (k : Layout) → pool_size z (pool_of_layout k) ≡ nodes_of z k
nodes_again z k = elim k as (λ k. pool_size z (pool_of_layout k) ≡ nodes_of z k) [ Node4 ↦ refl | _ ↦ refl ]

-- there is such a number just where its pool has so many
pub is_number : (z : Sizes) (d : Link) → IsNumber z d ↔ (number_of d < pool_size z (pool_of d))
is_number z (leaf l) = (λ h. h, λ h. h)
is_number z (node n) = let e = nodes_again z n.layout in (λ h. omega (arith, e), λ h. omega (arith, e))

-- the words of its pool have one with its bit
pub has_free_word : (z : Sizes) (d : Link) → IsNumber z d → HasFreeWord z (pool_of d) (free_index d)
has_free_word z d inside = let few = (is_number z d).0 inside in omega arith

-- the test of a cell is true of each that there is
pub is_inside_true : (z : Sizes) (c : Cell) → IsInside z c → is_inside z c ≡ true
is_inside_true z cell.Anchor h = refl
is_inside_true z (cell.Leaf l) h = lt-ltb l z.leaves h
is_inside_true z (cell.Node n) h = lt-ltb n.number (pool_size z (pool_of_layout n.layout)) ((is_number z (node n)).0 h)

-- and of no other
pub is_inside_of : (z : Sizes) (c : Cell) → is_inside z c ≡ true → IsInside z c
is_inside_of z cell.Anchor e = tt
is_inside_of z (cell.Leaf l) e = ltb-true l z.leaves e
is_inside_of z (cell.Node n) e = (is_number z (node n)).1 (ltb-true n.number (pool_size z (pool_of_layout n.layout)) e)

-- ---- regions one after the other, of so many words each

-- where a region starts
start : List ℕ → ℕ → ℕ
start [] r = 0
start (w ∷ ws) zero = 0
start (w ∷ ws) (suc r) = w + start ws r

starts_rise : (ws : List ℕ) (r s : ℕ) → r < s → start ws r + get_or ws r 0 ≤ start ws s
unfolding start
starts_rise [] r s before = omega arith
starts_rise (w ∷ ws) r zero before = absurd (omega arith)
starts_rise (w ∷ ws) zero (suc s) before = omega arith
starts_rise (w ∷ ws) (suc r) (suc s) before = let rest = starts_rise ws r s (omega arith) in omega (arith, rest)

-- one place is in one region
one_region : (ws : List ℕ) (r s k j : ℕ) → k < get_or ws r 0 → j < get_or ws s 0 → start ws r + k ≡ start ws s + j → (r ≡ s) × (k ≡ j)
one_region ws r s k j low small same = ⊎_elim
    (λ (e : r ≡ s). let f : start ws r ≡ start ws s = ap (start ws) e in (e, omega arith))
    (⊎_elim
    (λ (before : r < s). let up = starts_rise ws r s before in absurd (omega (arith, up)))
    (λ (after : s < r). let up = starts_rise ws s r after in absurd (omega (arith, up))))
    (cases_order r s)

-- ---- cells: the anchor, the leaves, and the nodes layout by layout

region_of : Layout → ℕ
region_of Node4 = 2
region_of Node16 = 3
region_of Node48 = 4
region_of Node256 = 5

region : Cell → ℕ
region cell.Anchor = 0
region (cell.Leaf l) = 1
region (cell.Node n) = region_of n.layout

number : Cell → ℕ
number cell.Anchor = 0
number (cell.Leaf l) = l
number (cell.Node n) = n.number

-- the cells of a number, region by region
numbered : ℕ → List Cell
numbered i = cell.Anchor ∷ cell.Leaf i ∷ map (λ k. cell.Node (record { layout = k; number = i })) (Node4 ∷ Node16 ∷ Node48 ∷ Node256 ∷ [])

cell_again : (c : Cell) → get_or (numbered (number c)) (region c) cell.Anchor ≡ c
unfolding numbered number region region_of
cell_again cell.Anchor = refl
cell_again (cell.Leaf l) = refl
cell_again (cell.Node n) = elim n.layout as (λ k. get_or (numbered n.number) (region_of k) cell.Anchor ≡ cell.Node (record { layout = k; number = n.number })) [ Node4 ↦ refl | _ ↦ refl ]

-- cells of one region and one number are one
same_cell_at : (c d : Cell) → region c ≡ region d → number c ≡ number d → c ≡ d
same_cell_at c d e f = sym (cell_again c) ∙ (ap₂ (λ (i r : ℕ). get_or (numbered i) r cell.Anchor) f e ∙ cell_again d)

-- how many words a cell of each region has
word_counts : List ℕ
word_counts = 2 ∷ 10 ∷ 15 ∷ 28 ∷ 90 ∷ 266 ∷ []

size_again : (c : Cell) → get_or word_counts (region c) 0 ≡ size_of c
unfolding word_counts region region_of
size_again cell.Anchor = refl
size_again (cell.Leaf l) = refl
size_again (cell.Node n) = elim n.layout as (λ k. get_or word_counts (region_of k) 0 ≡ size k) [ Node4 ↦ refl | _ ↦ refl ]

region_below : (c : Cell) → region c < 6
unfolding region region_of
region_below cell.Anchor = omega arith
region_below (cell.Leaf l) = omega arith
region_below (cell.Node n) = elim n.layout as (λ k. region_of k < 6) [ Node4 ↦ omega arith | _ ↦ omega arith ]

-- how many words the cells of each region have, with the gap after the anchor's
cell_words : Sizes → List ℕ
cell_words z = 16 ∷ 10 * z.leaves ∷ 15 * z.n4 ∷ 28 * z.n16 ∷ 90 * z.n48 ∷ 266 * z.n256 ∷ []

cells_stop : (z : Sizes) → start (cell_words z) 6 ≡ cells_end z
unfolding start cell_words
cells_stop z = omega arith

-- a word of a cell stands in the cell's region, after the words of the lower numbers
abbrev StandsIn : Sizes → ℕ → ℕ → ℕ → Type 0
StandsIn z place r k = (place ≡ start (cell_words z) r + k) × (k < get_or (cell_words z) r 0)

node_stands : (z : Sizes) (k : Layout) (m i : ℕ) → m < nodes_of z k → i < size k → StandsIn z (first_cell z (pool_of_layout k) + words_each (pool_of_layout k) * m + i) (region_of k) (size k * m + i)
unfolding start cell_words region_of
node_stands z Node4 m i low small = omega arith
node_stands z Node16 m i low small = omega arith
node_stands z Node48 m i low small = omega arith
node_stands z Node256 m i low small = omega arith

cell_stands : (z : Sizes) (c : Cell) (i : ℕ) → IsInside z c → i < size_of c → StandsIn z (place_of z c + i) (region c) (size_of c * number c + i)
unfolding start cell_words region number
cell_stands z cell.Anchor i inside small = omega arith
cell_stands z (cell.Leaf l) i inside small = omega arith
cell_stands z (cell.Node n) i inside small = node_stands z n.layout n.number i inside small

-- the words of a cell lie before the end of the cells
pub cell_below : (z : Sizes) (c : Cell) (i : ℕ) → IsInside z c → i < size_of c → place_of z c + i < cells_end z
cell_below z c i inside small =
    let at = cell_stands z c i inside small in
    let up = starts_rise (cell_words z) (region c) 6 (region_below c) in
    omega (arith, at.0, at.1, up, cells_stop z)

-- and so there are so many words, each of them in the row
pub word_below : (z : Sizes) (c : Cell) (i : ℕ) → IsInside z c → i < size_of c → place_of z c + i < word_count z
word_below z c i inside small = let low = cell_below z c i inside small in omega arith

-- the words of cells of one size, number after number, do not overlap
one_number : (e m n i j : ℕ) → i < e → j < e → e * m + i ≡ e * n + j → (m ≡ n) × (i ≡ j)
one_number e m n i j low small same =
    let same_place : m * e + i ≡ n * e + j = omega (arith, same) in
    let same_number : m ≡ n = sym (div-mul-add m e i low) ∙ (ap (λ (k : ℕ). k / e) same_place ∙ div-mul-add n e j small) in
    let same_words : m * e ≡ n * e = ap (λ (k : ℕ). k * e) same_number in
    (same_number, omega arith)

-- two cells share no word
pub places_apart : (z : Sizes) (c d : Cell) (i j : ℕ) → IsInside z c → IsInside z d → i < size_of c → j < size_of d → place_of z c + i ≡ place_of z d + j → (c ≡ d) × (i ≡ j)
places_apart z c d i j inside within low small same =
    let at = cell_stands z c i inside low in
    let to = cell_stands z d j within small in
    let one = one_region (cell_words z) (region c) (region d) (size_of c * number c + i) (size_of d * number d + j) at.1 to.1 (sym at.0 ∙ (same ∙ to.0)) in
    let long : size_of d ≡ size_of c = sym (size_again d) ∙ (ap (λ (r : ℕ). get_or word_counts r 0) (sym one.0) ∙ size_again c) in
    let fits : j < size_of c = omega (arith, long, small) in
    let both = one_number (size_of c) (number c) (number d) i j low fits (one.1 ∙ ap (λ (e : ℕ). e * number d + j) long) in
    (same_cell_at c d one.0 both.0, both.1)

-- ---- the words of free numbers, after all cells, pool by pool

-- how many words the free numbers of each region have, none for the anchor
bit_words : Sizes → List ℕ
bit_words z = 0 ∷ free_words z.leaves ∷ free_words z.n4 ∷ free_words z.n16 ∷ free_words z.n48 ∷ free_words z.n256 ∷ []

abbrev BitStandsIn : Sizes → ℕ → ℕ → ℕ → Type 0
BitStandsIn z place r k = (place ≡ cells_end z + start (bit_words z) r + k) × (k < get_or (bit_words z) r 0)

bit_stands : (z : Sizes) (pool : Pool) (i : ℕ) → HasFreeWord z pool i → BitStandsIn z (first_free_word z pool + i) (1 + pool_rank pool) i
unfolding start bit_words
bit_stands z Leaves i low = omega arith
bit_stands z N4 i low = omega arith
bit_stands z N16 i low = omega arith
bit_stands z N48 i low = omega arith
bit_stands z N256 i low = omega arith

rank_below : (pool : Pool) → 1 + pool_rank pool < 6
rank_below Leaves = omega arith
rank_below N4 = omega arith
rank_below N16 = omega arith
rank_below N48 = omega arith
rank_below N256 = omega arith

bits_stop : (z : Sizes) → cells_end z + start (bit_words z) 6 ≡ free_words_end z
unfolding start bit_words
bits_stop z = omega arith

-- the words of free numbers lie after all cells, and before the gap in front of the epoch
pub free_below : (z : Sizes) (pool : Pool) (i : ℕ) → HasFreeWord z pool i → (cells_end z ≤ first_free_word z pool + i) × (first_free_word z pool + i < free_words_end z)
free_below z pool i low =
    let at = bit_stands z pool i low in
    let up = starts_rise (bit_words z) (1 + pool_rank pool) 6 (rank_below pool) in
    (omega (arith, at.0), omega (arith, at.0, at.1, up, bits_stop z))

-- a pool is told by its rank
ranked : List Pool
ranked = Leaves ∷ N4 ∷ N16 ∷ N48 ∷ N256 ∷ []

pool_again : (pool : Pool) → get_or ranked (pool_rank pool) Leaves ≡ pool
unfolding ranked
pool_again pool = elim pool as (λ k. get_or ranked (pool_rank k) Leaves ≡ k) [ Leaves ↦ refl | _ ↦ refl ]

pub same_pool : (pool q : Pool) → pool_rank pool ≡ pool_rank q → pool ≡ q
same_pool pool q e = sym (pool_again pool) ∙ (ap (λ (r : ℕ). get_or ranked r Leaves) e ∙ pool_again q)

-- two of them share no place
pub free_words_apart : (z : Sizes) (pool q : Pool) (i j : ℕ) → HasFreeWord z pool i → HasFreeWord z q j → first_free_word z pool + i ≡ first_free_word z q + j → (pool ≡ q) × (i ≡ j)
free_words_apart z pool q i j inside within same =
    let at = bit_stands z pool i inside in
    let to = bit_stands z q j within in
    let one = one_region (bit_words z) (1 + pool_rank pool) (1 + pool_rank q) i j at.1 to.1 (omega (arith, at.0, to.0, same)) in
    (same_pool pool q (omega (arith, one.0)), one.1)
