-- What a world's words mean where one of them changes: the words of cells and of version words.
use Rattle.std.proofs.Common.{◌≡◌, ◌≢◌, ℕ, ◌+◌, ◌<◌, ◌≤◌, Bool, true, false, if◌then◌else◌, List, [], length, map, get_or, set, nat_lt, sym, refl, ap, ap₂, ◌∙◌, subst, ⊎_elim}
use Rattle.std.proofs.Common.{arith, get_or-set_same, get_or-set_other, lt-ltb, le-ltb, ltb-true, ltb-false}
use Rattle.std.specs.List.{range_with_len}
use Rattle.std.proofs.lemmas.Bool.{cases_lt, cond-true, cond-false, cond_both}
use Rattle.std.proofs.lemmas.List.FromFn.{get_or-map-range_with_len, length-map-range_with_len}
use Rattle.std.proofs.lemmas.List.{get_or_past}
use Rattle.art_cell.specs.declared.cells.Layout.TheVariants.{Node4}
use Rattle.art_cell.specs.declared.cells.Pool.{Pool}
use Rattle.art_cell.specs.declared.cells.Cell.{Cell}
use Rattle.art_cell.specs.declared.cells.Cell.TheVariants as cell
use Rattle.art_cell.specs.declared.cells.Link.{Link}
use Rattle.art_cell.specs.declared.cells.Link.TheVariants.{Leaf as leaf, Node as node}
use Rattle.art_step.specs.declared.views.Sizes.{Sizes}
use Rattle.art_tree.specs.Heaps.{Cells}
use Rattle.art_step.specs.Effects.{SetsEpoch, SetsFreeWord, SetsPassWord, SetsVersion, SetsWord}
use Rattle.art_step.specs.Steps.Upgrade.{IsCopy}
use Rattle.art_step.specs.Steps.Take.{IsTaken}
use Rattle.art_step.specs.Views.{Memory, size_of, words_in}
use Rattle.art_cell.specs.Words.{Words, size}
use Rattle.art_step.specs.WordPlaces.{pool_size, cells_end, first_free_word, free_words, epoch_place, pass_place, word_count, HasFreeWord, HasVersion, IsInside, is_inside, place_of, first_place}
use Rattle.art_step.specs.WordRows.{version_in, word_in, free_word_in, pass_word_in, memory_of}
use Rattle.art_step.proofs.WordPlaces.{is_inside_true, is_inside_of, cell_below, free_below, free_words_apart, places_apart}

-- ---- choices

then_same : {A : Type 0} (b : Bool) (x y other : A) → (b ≡ true → x ≡ y) → (if b then x else other) ≡ (if b then y else other)
then_same true x y other h = h refl
then_same false x y other h = refl

else_same : {A : Type 0} (b : Bool) (x y other : A) → (b ≡ false → x ≡ y) → (if b then other else x) ≡ (if b then other else y)
else_same true x y other h = refl
else_same false x y other h = h refl

-- ---- words that are the same mean the same

-- the cell is the anchor or a node, so that it has a version word
abbrev pub IsNoLeaf : Cell → Type 0
IsNoLeaf c = (l : ℕ) → c ≢ cell.Leaf l

-- a cell with a version word is one that there is, and no leaf
pub inside_of : (z : Sizes) (c : Cell) → HasVersion z c → IsInside z c
inside_of z cell.Anchor h = tt
inside_of z (cell.Leaf l) h = absurd h
inside_of z (cell.Node n) h = h

pub plain_of : (z : Sizes) (c : Cell) → HasVersion z c → IsNoLeaf c
plain_of z cell.Anchor h l e = cc
plain_of z (cell.Leaf k) h l e = absurd h
plain_of z (cell.Node n) h l e = cc

module _ (z : Sizes) (ws us : List ℕ) where
  -- a version word is the first word of an anchor or node that there is, and else does not hang on the words
  pub same_version : (c : Cell) → (IsInside z c → IsNoLeaf c → get_or us (place_of z c) 0 ≡ get_or ws (place_of z c) 0) → version_in z us c ≡ version_in z ws c
  same_version cell.Anchor h = h tt (λ l e. cc)
  same_version (cell.Leaf l) h = refl
  same_version (cell.Node n) h = then_same (is_inside z (cell.Node n)) _ _ 1 (λ e. h (is_inside_of z (cell.Node n) e) (λ l f. cc))

  -- a word at a place that a cell has is in the row, and is 0 at each other
  pub same_word : (c : Cell) (i : ℕ) → (IsInside z c → first_place c ≤ i → i < size_of c → get_or us (place_of z c + i) 0 ≡ get_or ws (place_of z c + i) 0) → word_in z us c i ≡ word_in z ws c i
  same_word c i h = then_same (is_inside z c) _ _ 0 (λ e. else_same (nat_lt i (first_place c)) _ _ 0 (λ late.
      then_same (nat_lt i (size_of c)) _ _ 0 (λ low. h (is_inside_of z c e) (ltb-false i (first_place c) late) (ltb-true i (size_of c) low))))

  -- each word of free numbers that there is stands in the row
  pub same_free_word : (pool : Pool) (i : ℕ) → (HasFreeWord z pool i → get_or us (first_free_word z pool + i) 0 ≡ get_or ws (first_free_word z pool + i) 0) → free_word_in z us pool i ≡ free_word_in z ws pool i
  same_free_word pool i h = then_same (nat_lt i (free_words (pool_size z pool))) _ _ 0 (λ e. h (ltb-true _ _ e))

  -- each pass that there is has a word
  pub same_pass_word : (p : ℕ) → (p < z.passes → get_or us (pass_place z p) 0 ≡ get_or ws (pass_place z p) 0) → pass_word_in z us p ≡ pass_word_in z ws p
  same_pass_word p h = then_same (nat_lt p z.passes) _ _ 0 (λ e. h (ltb-true p z.passes e))

-- ---- places of one cell

-- each cell has a word that is no version word
first_below : (c : Cell) → first_place c < size_of c
first_below cell.Anchor = omega arith
first_below (cell.Leaf l) = omega arith
first_below (cell.Node n) = elim n.layout as (λ k. 1 < size k) [ Node4 ↦ omega arith | _ ↦ omega arith ]

first_one : (c : Cell) → IsNoLeaf c → first_place c ≡ 1
first_one cell.Anchor h = refl
first_one (cell.Leaf l) h = absurd (h l refl)
first_one (cell.Node n) h = refl

-- version words lie before the end of the cells
pub version_below : (z : Sizes) (c : Cell) → IsInside z c → place_of z c < cells_end z
version_below z c inside = let low = first_below c in let at = cell_below z c 0 inside (omega arith) in omega arith

-- a version word is no other word of a cell, and no other version word
version_apart : (z : Sizes) (c d : Cell) (i : ℕ) → IsInside z c → IsInside z d → IsNoLeaf c → first_place d ≤ i → i < size_of d → place_of z d + i ≢ place_of z c
version_apart z c d i inside within plain late low e =
    let some = first_below c in
    let same = places_apart z d c i 0 within inside low (omega arith) (omega arith) in
    let one = first_one d (λ l f. plain l (sym same.0 ∙ f)) in
    let none = same.1 in
    omega arith

versions_apart : (z : Sizes) (c d : Cell) → IsInside z c → IsInside z d → d ≢ c → place_of z d ≢ place_of z c
versions_apart z c d inside within other e =
    let some = first_below c in
    let more = first_below d in
    other (places_apart z d c 0 0 within inside (omega arith) (omega arith) (omega arith)).0

-- ---- one word changes

module _ (z : Sizes) (ws : List ℕ) (place x : ℕ) where
  -- a word of a cell is no word of free numbers
  pub frees_stay : place < cells_end z → free_word_in z (set ws place x) ≡ free_word_in z ws
  frees_stay low = (λ k pool i. same_free_word z ws (set ws place x) pool i (λ inside. get_or-set_other ws place (first_free_word z pool + i) x 0 (λ e. let high = (free_below z pool i inside).0 in omega arith)) k)

  -- nor is one after them
  pub frees_stay_late : epoch_place z ≤ place → free_word_in z (set ws place x) ≡ free_word_in z ws
  frees_stay_late late = (λ k pool i. same_free_word z ws (set ws place x) pool i (λ inside. get_or-set_other ws place (first_free_word z pool + i) x 0 (λ e. let low = (free_below z pool i inside).1 in omega arith)) k)

  -- a word before the epoch's is not the epoch's
  pub epoch_stays : place < epoch_place z → get_or (set ws place x) (epoch_place z) 0 ≡ get_or ws (epoch_place z) 0
  epoch_stays low = get_or-set_other ws place (epoch_place z) x 0 (λ e. omega arith)

  -- nor one of a pass
  pub pass_words_stay : place < epoch_place z → pass_word_in z (set ws place x) ≡ pass_word_in z ws
  pass_words_stay low = (λ k p. same_pass_word z ws (set ws place x) p (λ few. get_or-set_other ws place (pass_place z p) x 0 (λ e. omega arith)) k)

  -- a word after the cells is no version word
  pub versions_stay : cells_end z ≤ place → version_in z (set ws place x) ≡ version_in z ws
  versions_stay high = (λ k c. same_version z ws (set ws place x) c (λ inside plain. get_or-set_other ws place (place_of z c) x 0 (λ e. let low = version_below z c inside in omega arith)) k)

  -- nor any other word of a cell
  pub words_stay : cells_end z ≤ place → word_in z (set ws place x) ≡ word_in z ws
  words_stay high = (λ k c i. same_word z ws (set ws place x) c i (λ inside late low. get_or-set_other ws place (place_of z c + i) x 0 (λ e. let early = cell_below z c i inside low in omega arith)) k)

-- ---- what is found in the words

-- the version word of a cell is the first of its words
pub version_found : (z : Sizes) (ws : List ℕ) (c : Cell) → IsInside z c → IsNoLeaf c → version_in z ws c ≡ get_or ws (place_of z c) 0
version_found z ws cell.Anchor inside plain = refl
version_found z ws (cell.Leaf l) inside plain = absurd (plain l refl)
version_found z ws (cell.Node n) inside plain = ap (λ (b : Bool). if b then get_or ws (place_of z (cell.Node n)) 0 else 1) (is_inside_true z (cell.Node n) inside)

-- the words after it stand at their places
pub word_found : (z : Sizes) (ws : List ℕ) (c : Cell) (i : ℕ) → IsInside z c → first_place c ≤ i → i < size_of c → word_in z ws c i ≡ get_or ws (place_of z c + i) 0
word_found z ws c i inside late low =
    let word = get_or ws (place_of z c + i) 0 in
    ap (λ (b : Bool). if b then (if nat_lt i (first_place c) then 0 else if nat_lt i (size_of c) then word else 0) else 0) (is_inside_true z c inside)
    ∙ (ap (λ (b : Bool). if b then 0 else if nat_lt i (size_of c) then word else 0) (le-ltb i (first_place c) late)
    ∙ ap (λ (b : Bool). if b then word else 0) (lt-ltb i (size_of c) low))

-- a word of free numbers stands at its place
pub free_word_found : (z : Sizes) (ws : List ℕ) (pool : Pool) (i : ℕ) → HasFreeWord z pool i → free_word_in z ws pool i ≡ get_or ws (first_free_word z pool + i) 0
free_word_found z ws pool i inside = cond-true _ _ 0 (lt-ltb i (free_words (pool_size z pool)) inside)

-- and so does the word of a pass
pub pass_word_found : (z : Sizes) (ws : List ℕ) (p : ℕ) → p < z.passes → pass_word_in z ws p ≡ get_or ws (pass_place z p) 0
pass_word_found z ws p inside = cond-true _ _ 0 (lt-ltb p z.passes inside)

-- ---- a word of free numbers changes, the epoch, or the word of a pass

-- to set a word of free numbers sets that word alone
pub sets_free_word : (z : Sizes) (ws : List ℕ) (pool : Pool) (i x : ℕ) → HasFreeWord z pool i → length ws ≡ word_count z → SetsFreeWord (memory_of z ws) pool i x (memory_of z (set ws (first_free_word z pool + i) x))
sets_free_word z ws pool i x inside long =
    let at : ℕ = first_free_word z pool + i in
    let us : List ℕ = set ws (first_free_word z pool + i) x in
    let low = free_below z pool i inside in
    let early : at < epoch_place z = omega (arith, low.1) in
    record {
      here = free_word_found z us pool i inside ∙ get_or-set_same ws at x 0 (omega (arith, long, low.1));
      there = λ q j other. same_free_word z ws us q j (λ within. get_or-set_other ws at (first_free_word z q + j) x 0 (λ e. let same = free_words_apart z q pool j i within inside e in other same.0 same.1));
      version = versions_stay z ws at x low.0;
      words = words_stay z ws at x low.0;
      epoch = epoch_stays z ws at x early;
      pass_word = pass_words_stay z ws at x early;
    }

-- to set the epoch's word sets the epoch alone
pub sets_epoch : (z : Sizes) (ws : List ℕ) (x : ℕ) → length ws ≡ word_count z → SetsEpoch (memory_of z ws) x (memory_of z (set ws (epoch_place z) x))
sets_epoch z ws x long =
    let at : ℕ = epoch_place z in
    let us : List ℕ = set ws (epoch_place z) x in
    let high : cells_end z ≤ epoch_place z = omega arith in
    record {
      here = get_or-set_same ws at x 0 (omega (arith, long));
      version = versions_stay z ws at x high;
      words = words_stay z ws at x high;
      free = frees_stay_late z ws at x (omega arith);
      pass_word = (λ k p. same_pass_word z ws us p (λ few. get_or-set_other ws at (pass_place z p) x 0 (λ e. omega arith)) k);
    }

-- to set the word of a pass sets that word alone
pub sets_pass_word : (z : Sizes) (ws : List ℕ) (p x : ℕ) → p < z.passes → length ws ≡ word_count z → SetsPassWord (memory_of z ws) p x (memory_of z (set ws (pass_place z p) x))
sets_pass_word z ws p x inside long =
    let at : ℕ = pass_place z p in
    let us : List ℕ = set ws (pass_place z p) x in
    let high : cells_end z ≤ pass_place z p = omega arith in
    record {
      here = pass_word_found z us p inside ∙ get_or-set_same ws at x 0 (omega (arith, long));
      there = λ q other. same_pass_word z ws us q (λ few. get_or-set_other ws at (pass_place z q) x 0 (λ e. other (omega arith)));
      version = versions_stay z ws at x high;
      words = words_stay z ws at x high;
      free = frees_stay_late z ws at x (omega arith);
      epoch = get_or-set_other ws at (epoch_place z) x 0 (λ e. omega arith);
    }

-- ---- a word of a cell changes

-- to set the first word of an anchor or node sets its version word alone
pub sets_version : (z : Sizes) (ws : List ℕ) (c : Cell) (x : ℕ) → IsInside z c → IsNoLeaf c → length ws ≡ word_count z → SetsVersion (memory_of z ws) c x (memory_of z (set ws (place_of z c) x))
sets_version z ws c x inside plain long =
    let at : ℕ = place_of z c in
    let us : List ℕ = set ws (place_of z c) x in
    let low : place_of z c < cells_end z = version_below z c inside in
    let early : place_of z c < epoch_place z = omega arith in
    record {
      here = version_found z us c inside plain ∙ get_or-set_same ws at x 0 (omega arith);
      there = λ d other. same_version z ws us d (λ within some. get_or-set_other ws at (place_of z d) x 0 (versions_apart z c d inside within other));
      words = (λ k d i. same_word z ws us d i (λ within late few. get_or-set_other ws at (place_of z d + i) x 0 (version_apart z c d i inside within plain late few)) k);
      free = frees_stay z ws at x low;
      epoch = epoch_stays z ws at x early;
      pass_word = pass_words_stay z ws at x early;
    }

-- to set a later word of a cell, or any of a leaf, sets that word alone
pub sets_word : (z : Sizes) (ws : List ℕ) (c : Cell) (i x : ℕ) → IsInside z c → first_place c ≤ i → i < size_of c → length ws ≡ word_count z → SetsWord (memory_of z ws) c i x (memory_of z (set ws (place_of z c + i) x))
sets_word z ws c i x inside late few long =
    let at : ℕ = place_of z c + i in
    let us : List ℕ = set ws (place_of z c + i) x in
    let low : place_of z c + i < cells_end z = cell_below z c i inside few in
    let early : place_of z c + i < epoch_place z = omega arith in
    record {
      here = word_found z us c i inside late few ∙ get_or-set_same ws at x 0 (omega arith);
      there = λ j other. same_word z ws us c j (λ within after less. get_or-set_other ws at (place_of z c + j) x 0 (λ e. other (omega arith)));
      others = λ d other. (λ k j. same_word z ws us d j (λ within after less. get_or-set_other ws at (place_of z d + j) x 0 (λ e. other (places_apart z d c j i within inside less few e).0)) k);
      version = (λ k d. same_version z ws us d (λ within plain. get_or-set_other ws at (place_of z d) x 0 (λ e. version_apart z d c i within inside plain late few (sym e))) k);
      free = frees_stay z ws at x low;
      epoch = epoch_stays z ws at x early;
      pass_word = pass_words_stay z ws at x early;
    }

-- the place and the word may be given otherwise
pub puts_version : (z : Sizes) (ws : List ℕ) (c : Cell) (x place word : ℕ) → IsInside z c → IsNoLeaf c → length ws ≡ word_count z → place ≡ place_of z c → word ≡ x → SetsVersion (memory_of z ws) c x (memory_of z (set ws place word))
puts_version z ws c x place word inside plain long at is = subst (λ (us : List ℕ). SetsVersion (memory_of z ws) c x (memory_of z us)) (sym (ap₂ (λ (i y : ℕ). set ws i y) at is)) (sets_version z ws c x inside plain long)

pub puts_word : (z : Sizes) (ws : List ℕ) (c : Cell) (i x first : ℕ) → IsInside z c → first_place c ≤ i → i < size_of c → length ws ≡ word_count z → first ≡ place_of z c → SetsWord (memory_of z ws) c i x (memory_of z (set ws (first + i) x))
puts_word z ws c i x first inside late few long at = subst (λ (from : ℕ). SetsWord (memory_of z ws) c i x (memory_of z (set ws (from + i) x))) (sym at) (sets_word z ws c i x inside late few long)

-- ---- copies of a cell's words

-- the words of a cell in a list, 0 for the version word
abbrev pub copy_of : Sizes → List ℕ → Cell → List ℕ
copy_of z ws c = map (word_in z ws c) (range_with_len 0 (size_of c))

-- there is no word after the last
no_word : (z : Sizes) (ws : List ℕ) (c : Cell) (i : ℕ) → size_of c ≤ i → word_in z ws c i ≡ 0
no_word z ws c i high =
    let last : (if nat_lt i (size_of c) then get_or ws (place_of z c + i) 0 else 0) ≡ 0 = cond-false (nat_lt i (size_of c)) _ 0 (le-ltb i (size_of c) high) in
    cond_both (is_inside z c) _ 0 (λ (word : ℕ). word ≡ 0) (λ e. cond_both (nat_lt i (first_place c)) 0 _ (λ (word : ℕ). word ≡ 0) (λ f. refl) (λ f. last)) (λ e. refl)

-- the list has the words of the cell
pub is_copy : (z : Sizes) (ws : List ℕ) (c : Cell) → IsCopy (memory_of z ws) c (copy_of z ws c)
is_copy z ws c = record {
  long = length-map-range_with_len (word_in z ws c) 0 (size_of c);
  words = (λ k i. ⊎_elim
      (λ (low : i < size_of c). sym (get_or-map-range_with_len (word_in z ws c) 0 (size_of c) i i 0 low (omega arith)))
      (λ (high : size_of c ≤ i). no_word z ws c i high ∙ sym (get_or_past (copy_of z ws c) i 0 (let long = length-map-range_with_len (word_in z ws c) 0 (size_of c) in omega (arith, long))))
      (cases_lt i (size_of c)) k);
}

-- no word of an anchor or node stands at the place of its version word
no_version : (z : Sizes) (ws : List ℕ) (c : Cell) → IsNoLeaf c → word_in z ws c 0 ≡ 0
no_version z ws c plain = cond_both (is_inside z c) _ 0 (λ (word : ℕ). word ≡ 0)
    (λ e. let one = first_one c plain in cond-true (nat_lt 0 (first_place c)) 0 _ (lt-ltb 0 (first_place c) (omega arith)))
    (λ e. refl)

-- so the list has 0 there
pub copy_version : (z : Sizes) (ws : List ℕ) (c : Cell) → IsNoLeaf c → words_in (copy_of z ws c) 0 ≡ 0
copy_version z ws c plain = ap (λ (w : Words). w 0) (sym (is_copy z ws c).words) ∙ no_version z ws c plain

-- the words that come into the hand with a number
pub words_taken : Sizes → List ℕ → Link → List ℕ
words_taken z ws (leaf l) = copy_of z ws (cell.Leaf l)
words_taken z ws (node n) = []

-- a number may be taken with them
pub is_taken : (z : Sizes) (ws : List ℕ) (d : Link) → IsTaken (memory_of z ws) d (words_taken z ws d)
unfolding words_taken
is_taken z ws (leaf l) = let copy = is_copy z ws (cell.Leaf l) in (copy.long, copy.words)
is_taken z ws (node n) = refl

-- as long as no cell's words change
pub taken_again : (m m' : Memory) (d : Link) (ws : List ℕ) → m'.words ≡ m.words → IsTaken m d ws → IsTaken m' d ws
taken_again m m' (leaf l) ws same copy = (copy.0, ap (λ (s : Cells). s (cell.Leaf l)) same ∙ copy.1)
taken_again m m' (node n) ws same none = none
