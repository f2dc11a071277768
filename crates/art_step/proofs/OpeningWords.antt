-- The words of a world that just opened: what stands at the places of cells, of free numbers, of the epoch and of the passes,
-- and what all of them mean.
use Rattle.std.proofs.Common.{◌≡◌, ◌≢◌, ℕ, ◌+◌, ◌-◌, ◌*◌, ◌/◌, ◌%◌, ◌<◌, ◌≤◌, ◌==◌, if◌then◌else◌, true, false, List, Some, zero, suc, length, get_or, nat_lt, sym, refl, ap, ◌∙◌, ⊎_elim, arith, le-ltb, ltb-false, ne_eqb, false}
use Rattle.std.proofs.lemmas.Bool.{cases_Bool, cases_lt, ltb-true, eqb-true, cond-false, cond_both}
use Rattle.std.proofs.lemmas.Bool.Decides.{nat_tests}
use Rattle.std.proofs.lemmas.List.FromFn.{get_or-map-range_with_len, length-map-range_with_len}
use Rattle.std.proofs.lemmas.Option.{same_Some}
use Rattle.std.proofs.lemmas.Nat.Bits.{bit_at_ones, bit_at_ones_above}
use Rattle.std.proofs.Math.Nat.{mul-mod_right, mul-add-mod_self_left, mod-eq_of_lt}
use Rattle.art_cell.specs.Words.{size}
use Rattle.art_cell.specs.declared.cells.Layout.{Layout}
use Rattle.art_cell.specs.declared.cells.Layout.TheVariants.{Node4, Node16, Node48, Node256}
use Rattle.art_cell.specs.declared.cells.Pool.{Pool}
use Rattle.art_cell.specs.declared.cells.Pool.TheVariants.{Leaves, N4, N16, N48, N256}
use Rattle.art_cell.specs.declared.cells.Node.{Node}
use Rattle.art_cell.specs.declared.cells.Cell.{Cell}
use Rattle.art_cell.specs.declared.cells.Cell.TheVariants as cell
use Rattle.art_cell.specs.declared.cells.Link.{Link}
use Rattle.art_cell.specs.declared.cells.Link.TheVariants.{Node as node}
use Rattle.art_step.specs.declared.views.Sizes.{Sizes}
use Rattle.art_step.specs.declared.views.View.{View}
use Rattle.art_step.specs.OpeningWords.{version_or_zero, first_bits, opening_word, opening_words}
use Rattle.art_step.specs.Opening.{Opens, newcomer}
use Rattle.art_step.specs.Views.{IsNumber, size_of, bit_of, free_index, is_free, last_counter, pool_of, pool_of_layout}
use Rattle.art_cell.specs.Children.{number_of}
use Rattle.art_step.specs.WordPlaces.{HasFreeWord, pool_size, words_each, first_cell, free_words, first_free_word, epoch_place, pass_place, word_count}
use Rattle.art_step.specs.WordRows.{newcomers, version_in, word_in, free_word_in, memory_of, views_of}
use Rattle.art_step.specs.WordPlaces.{IsInside, first_place, is_inside, place_of}
use Rattle.art_step.proofs.WordRows.{version_found, free_word_found, pass_word_found, version_below}
use Rattle.art_step.proofs.WordPlaces.{is_number, has_free_word, is_inside_of, free_below, cell_below}

-- each place has its word
pub opening_at : (z : Sizes) (k place : ℕ) → place < word_count z → get_or (opening_words z k) place 0 ≡ opening_word z k place
unfolding opening_words
opening_at z k place low = get_or-map-range_with_len (opening_word z k) 0 (word_count z) place place 0 low (omega arith)

-- ---- the words of nodes

-- the first word of each node has the version
first_word : (each number version : ℕ) → version_or_zero (each * number) each version ≡ version
first_word each number version = ap (λ (i : ℕ). if i == 0 then version else 0) (mul-mod_right each number)

-- the nodes of a layout have their words from its first cell on
node_word_at : (z : Sizes) (k number : ℕ) (l : Layout) → number < pool_size z (pool_of_layout l)
    → opening_word z k (first_cell z (pool_of_layout l) + words_each (pool_of_layout l) * number)
    ≡ version_or_zero (words_each (pool_of_layout l) * number) (words_each (pool_of_layout l)) (4 * k + 1)
node_word_at z k number Node4 low = grind (arith, nat_tests)
node_word_at z k number Node16 low = grind (arith, nat_tests)
node_word_at z k number Node48 low = grind (arith, nat_tests)
node_word_at z k number Node256 low = grind (arith, nat_tests)

-- and so the others, which are 0
node_words_at : (z : Sizes) (k number i : ℕ) (l : Layout) → number < pool_size z (pool_of_layout l) → i < words_each (pool_of_layout l)
    → opening_word z k (first_cell z (pool_of_layout l) + words_each (pool_of_layout l) * number + i)
    ≡ version_or_zero (words_each (pool_of_layout l) * number + i) (words_each (pool_of_layout l)) (4 * k + 1)
node_words_at z k number i Node4 low few = grind (arith, nat_tests)
node_words_at z k number i Node16 low few = grind (arith, nat_tests)
node_words_at z k number i Node48 low few = grind (arith, nat_tests)
node_words_at z k number i Node256 low few = grind (arith, nat_tests)

later_word : (each number i version : ℕ) → 0 < i → i < each → version_or_zero (each * number + i) each version ≡ 0
later_word each number i version late few = cond-false _ version 0 (ap (λ (j : ℕ). j == 0) (mul-add-mod_self_left each number i ∙ mod-eq_of_lt few) ∙ ne_eqb i 0 (λ e. omega arith))

few_words : (l : Layout) (i : ℕ) → i < size l → i < words_each (pool_of_layout l)
few_words Node4 i few = few
few_words Node16 i few = few
few_words Node48 i few = few
few_words Node256 i few = few

-- ---- the words of free numbers

-- a word with its first n bits set has each of them, as far as its 64 go
bit_at_first : (n i : ℕ) → i < n → i < 64 → bit_of (first_bits n) i ≡ 1
bit_at_first n i low few = cond_both (nat_lt n 64) _ _ (λ (word : ℕ). bit_of word i ≡ 1) (λ _. bit_at_ones n i low) (λ _. bit_at_ones 64 i few)

-- and no other
no_bit_after : (n i : ℕ) → n ≤ i → i < 64 → bit_of (first_bits n) i ≡ 0
no_bit_after n i high few = cond_both (nat_lt n 64) _ _ (λ (word : ℕ). bit_of word i ≡ 0) (λ _. bit_at_ones_above n i high) (λ e. let many = ltb-false n 64 e in absurd (omega arith))

-- the numbers of a pool have their words from its first word on
free_word_at : (z : Sizes) (k i : ℕ) (p : Pool) → i < free_words (pool_size z p) → opening_word z k (first_free_word z p + i) ≡ first_bits (pool_size z p - 64 * i)
free_word_at z k i Leaves low = grind (arith, nat_tests)
free_word_at z k i N4 low = grind (arith, nat_tests)
free_word_at z k i N16 low = grind (arith, nat_tests)
free_word_at z k i N48 low = grind (arith, nat_tests)
free_word_at z k i N256 low = grind (arith, nat_tests)

-- ---- the words after them

-- the epoch is 1
epoch_word : (z : Sizes) (k : ℕ) → opening_word z k (epoch_place z) ≡ 1
epoch_word z k = grind (arith, nat_tests)

-- the words of the passes are 0
late_word : (z : Sizes) (k place : ℕ) → epoch_place z < place → opening_word z k place ≡ 0
late_word z k place late = grind (arith, nat_tests)

-- ---- passes that know nothing

-- there are so many
pub length_newcomers : (p n : ℕ) → length (newcomers p n) ≡ n
length_newcomers p zero = refl
length_newcomers p (suc n) = ap suc (length_newcomers (suc p) n)

newcomer_from : (from n p : ℕ) (v : View) → views_of (newcomers from n) p ≡ Some v → (p < n) × (v ≡ newcomer (from + p))
newcomer_from from zero p v e = absurd (cc)
newcomer_from from (suc n) zero v e = (omega arith, sym (same_Some (newcomer from) v e) ∙ ap newcomer (omega arith))
newcomer_from from (suc n) (suc p) v e = let rest = newcomer_from (suc from) n p v e in (omega (arith, rest.0), rest.1 ∙ ap newcomer (omega arith))

-- each of the first n passes is one that knows nothing, and there are no others
pub newcomer_at : (n p : ℕ) (v : View) → views_of (newcomers 0 n) p ≡ Some v → (p < n) × (v ≡ newcomer p)
newcomer_at n p v e = let at = newcomer_from 0 n p v e in (at.0, at.1 ∙ ap newcomer (omega arith))

-- ---- what all of them mean

-- there is a word for each place
pub length-opening_words : (z : Sizes) (k : ℕ) → length (opening_words z k) ≡ word_count z
unfolding opening_words
length-opening_words z k = length-map-range_with_len (opening_word z k) 0 (word_count z)

module _ (z : Sizes) (k : ℕ) where
  abbrev opened : List ℕ
  opened = opening_words z k

  found_epoch : get_or opened (epoch_place z) 0 ≡ 1
  found_epoch = opening_at z k (epoch_place z) (omega arith) ∙ epoch_word z k

  found_late : (p : ℕ) → p < z.passes → get_or opened (pass_place z p) 0 ≡ 0
  found_late p low = opening_at z k (pass_place z p) (omega arith) ∙ late_word z k (pass_place z p) (omega arith)

  pub anchor_version : version_in z opened cell.Anchor ≡ 4 * k
  anchor_version = opening_at z k 0 (omega arith)

  pub node_version : (n : Node) → IsNumber z (node n) → version_in z opened (cell.Node n) ≡ 4 * k + 1
  node_version n inside =
      let below = version_below z (cell.Node n) inside in
      version_found z opened (cell.Node n) inside (λ l e. cc)
      ∙ (opening_at z k (place_of z (cell.Node n)) (omega arith)
      ∙ (node_word_at z k n.number n.layout ((is_number z (node n)).0 inside) ∙ first_word (words_each (pool_of_layout n.layout)) n.number (4 * k + 1)))

  -- a node that there is not counts as obsolete, as a leaf does
  obsolete : k ≤ last_counter → (c : Cell) → c ≢ cell.Anchor → (j : ℕ) × (j ≤ last_counter) × (version_in z opened c ≡ 4 * j + 1)
  obsolete low cell.Anchor other = absurd (other refl)
  obsolete low (cell.Leaf l) other = (0, omega arith, refl)
  obsolete low (cell.Node n) other = ⊎_elim
      (λ (e : is_inside z (cell.Node n) ≡ true). (k, low, node_version n (is_inside_of z (cell.Node n) e)))
      (λ (e : is_inside z (cell.Node n) ≡ false). (0, omega arith, cond-false _ _ 1 e))
      (cases_Bool (is_inside z (cell.Node n)))

  -- the words of a cell behind its first are 0
  later_words : (c : Cell) (i : ℕ) → 0 < i → i < size_of c → IsInside z c → get_or opened (place_of z c + i) 0 ≡ 0
  later_words cell.Anchor i late few inside = opening_at z k (place_of z cell.Anchor + i) (omega arith) ∙ grind (arith, nat_tests)
  later_words (cell.Leaf l) i late few inside =
      let below = cell_below z (cell.Leaf l) i inside few in
      opening_at z k (place_of z (cell.Leaf l) + i) (omega arith) ∙ grind (arith, nat_tests)
  later_words (cell.Node n) i late few inside =
      let below = cell_below z (cell.Node n) i inside few in
      let each : ℕ = words_each (pool_of_layout n.layout) in
      opening_at z k (place_of z (cell.Node n) + i) (omega arith)
      ∙ (node_words_at z k n.number i n.layout ((is_number z (node n)).0 inside) (few_words n.layout i few)
      ∙ later_word each n.number i (4 * k + 1) late (few_words n.layout i few))

  -- and 0 stands where a cell has no word
  no_words : (c : Cell) (i : ℕ) → 0 < i → word_in z opened c i ≡ 0
  no_words c i late = cond_both (is_inside z c) _ _ (λ (w : ℕ). w ≡ 0)
      (λ inside. cond_both (nat_lt i (first_place c)) _ _ (λ (w : ℕ). w ≡ 0)
      (λ _. refl)
      (λ _. cond_both (nat_lt i (size_of c)) _ _ (λ (w : ℕ). w ≡ 0) (λ few. later_words c i late (ltb-true i (size_of c) few) (is_inside_of z c inside)) (λ _. refl)))
      (λ _. refl)

  -- how many numbers the pool has from the first of the number's word on
  abbrev rest : Link → ℕ
  rest d = pool_size z (pool_of d) - 64 * (number_of d / 64)

  -- so many bits of the word are set
  word_of : (d : Link) → HasFreeWord z (pool_of d) (free_index d) → free_word_in z opened (pool_of d) (free_index d) ≡ first_bits (rest d)
  word_of d has =
      let below = free_below z (pool_of d) (free_index d) has in
      free_word_found z opened (pool_of d) (free_index d) has ∙ (opening_at z k (first_free_word z (pool_of d) + free_index d) (omega (arith, below.1)) ∙ free_word_at z k (free_index d) (pool_of d) has)

  all_free : (d : Link) → IsNumber z d → is_free (memory_of z opened) d ≡ true
  all_free d inside =
      let i : ℕ = number_of d in
      let few = (is_number z d).0 inside in
      let has = has_free_word z d inside in
      let bit = ap (λ (w : ℕ). bit_of w (i % 64)) (word_of d has) ∙ bit_at_first (rest d) (i % 64) (omega arith) (omega arith) in
      ap (λ (b : ℕ). b == 1) bit

  -- no bit above the pool's numbers is set
  no_other_free : (d : Link) → is_free (memory_of z opened) d ≡ true → IsNumber z d
  no_other_free d free =
      let i : ℕ = number_of d in
      let set = eqb-true _ 1 free in
      ⊎_elim
      (λ (few : i < pool_size z (pool_of d)). (is_number z d).1 few)
      (λ (high : pool_size z (pool_of d) ≤ i). absurd (⊎_elim
      (λ (has : free_index d < free_words (pool_size z (pool_of d))).
      let clear = ap (λ (w : ℕ). bit_of w (i % 64)) (word_of d has) ∙ no_bit_after (rest d) (i % 64) (omega arith) (omega arith) in omega arith)
      (λ (past : free_words (pool_size z (pool_of d)) ≤ free_index d).
      let none : free_word_in z opened (pool_of d) (free_index d) ≡ 0 = cond-false _ _ 0 (le-ltb (free_index d) (free_words (pool_size z (pool_of d))) past) in
      let clear : bit_of (free_word_in z opened (pool_of d) (free_index d)) (i % 64) ≡ 0 = ap (λ (w : ℕ). bit_of w (i % 64)) none ∙ no_bit_after 0 (i % 64) (omega arith) (omega arith) in omega arith)
      (cases_lt (free_index d) (free_words (pool_size z (pool_of d))))))
      (cases_lt i (pool_size z (pool_of d)))

  -- so all is as at opening
  pub opens : k ≤ last_counter → Opens z (memory_of z opened) (views_of (newcomers 0 z.passes))
  opens low = record {
    words = no_words;
    anchor = (k, low, anchor_version);
    cells = obsolete low;
    free = λ d. (no_other_free d, all_free d);
    epoch = found_epoch;
    pass_word = λ p few. pass_word_found z opened p few ∙ found_late p few;
    views = newcomer_at z.passes;
  }
