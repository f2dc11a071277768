-- Numbers that are taken and given back, over words in a row: the word with a number's bit, and the view after a step that sets it
-- or takes it away.
use Rattle.std.proofs.Common.{◌≡◌, ◌≢◌, ◌⊎◌, ℕ, ◌+◌, ◌*◌, ◌%◌, ◌^◌, ◌<◌, ◌≤◌, ◌==◌, Bool, true, false, if◌then◌else◌, List, [], ◌∷◌, length, slice_set, sym, refl, ap, ◌∙◌, subst, ⊎_elim, arith}
use Rattle.std.proofs.lemmas.Bool.{cases_Bool, eqb-false}
use Rattle.std.proofs.lemmas.Nat.{pow_below}
use Rattle.std.specs.Prelude.{Option, Some, None, IfSome}
use Rattle.art_cell.specs.declared.cells.Link.{Link}
use Rattle.art_cell.specs.declared.cells.Link.TheVariants.{Leaf as leaf, Node as node}
use Rattle.art_cell.specs.declared.cells.Pool.{Pool}
use Rattle.art_step.specs.declared.views.Retired.{Retired}
use Rattle.art_step.specs.declared.views.Sizes.{Sizes}
use Rattle.art_step.specs.declared.views.View.{View}
use Rattle.art_cell.specs.Lemmas.Headers.{bit_at_least, bit_more_below}
use Rattle.art_step.specs.Effects.{SetsBit, SetsFreeWord}
use Rattle.art_step.specs.Steps.Give as give
use Rattle.art_step.specs.Steps.Take as take_free
use Rattle.art_step.specs.Steps.Take.{IsTaken, taken, without_bit, word_count_of}
use Rattle.art_step.specs.Sound.{Whereabouts, InHandOf, InLimboOf, Nowhere, IsFree, IsSound}
use Rattle.art_step.specs.Steps.{IsTake, IsGive, IsFreed}
use Rattle.art_step.specs.Views.{IsNumber, Memory, Views, bit_of, free_bit, free_index, is_free, number_at, pool_of}
use Rattle.art_step.specs.WordPlaces.{HasFreeWord, first_free_word, word_count}
use Rattle.art_step.specs.WordRows.{memory_of}
use Rattle.art_step.proofs.Changing.{handed_over}
use Rattle.art_step.proofs.FreeBits.{free_is_number, set_is_free}
use Rattle.art_step.proofs.Gathered.{sifted}
use Rattle.art_step.proofs.Moves.{Moves, moved}
use Rattle.art_step.proofs.StepNumbers.{not_free}
use Rattle.art_step.proofs.WordPlaces.{free_below}
use Rattle.art_step.proofs.WordRows.{is_taken, sets_free_word, words_taken}
use Rattle.art_tree.proofs.Places.{same_link}

-- ---- bits of a word

-- a bit that is not set can be added
pub bit_room : (m : Memory) (d : Link) (x : ℕ) → x ≡ m.free_word (pool_of d) (free_index d) → is_free m d ≡ false → x < 2 ^ 64 → x + 2 ^ free_bit d < 2 ^ 64
bit_room m d x is none low =
    let clear = eqb-false _ 1 (ap (λ (w : ℕ). bit_of w (free_bit d) == 1) is ∙ none) in
    bit_more_below x (free_bit d) (omega arith) (omega arith) low

-- the power of a bit fits a word of 64 bits
pub bit_whole : (k : ℕ) → 1 * 2 ^ (k % 64) % 18446744073709551616 ≡ 2 ^ (k % 64)
bit_whole k = let few : 2 ^ (k % 64) < 2 ^ 64 = pow_below (k % 64) 64 (omega arith) in omega arith

-- one that is set can be subtracted
pub bit_within : (x k : ℕ) → bit_of x k ≡ 1 → 2 ^ k ≤ x
bit_within x k is = bit_at_least x k is

-- ---- the word of free numbers at an index of a pool

module _ (z : Sizes) (ws : List ℕ) (long : length ws ≡ word_count z) (pool : Pool) (i : ℕ) (inside : HasFreeWord z pool i) where
  -- it is one of the words
  pub free_word_low : first_free_word z pool + i < length ws
  free_word_low = let low = free_below z pool i inside in omega (arith, long, low.1)

  -- another word in its place
  pub puts_free_word : (place x y : ℕ) → place ≡ first_free_word z pool + i → x ≡ y → SetsFreeWord (memory_of z ws) pool i y (memory_of z (slice_set ws place x))
  puts_free_word place x y at is = rw (at, is) (sets_free_word z ws pool i y inside long)

  -- the same word as it was
  pub keeps_free_word : SetsFreeWord (memory_of z ws) pool i ((memory_of z ws).free_word pool i) (memory_of z ws)
  keeps_free_word = record { here = refl; there = λ q j other. refl; version = refl; words = refl; epoch = refl; pass_word = refl }

-- ---- the steps

-- the words of the number that is taken
words_for : Sizes → List ℕ → Option Link → List ℕ
words_for z ws None = []
words_for z ws (Some d) = words_taken z ws d

taken_words : (z : Sizes) (ws : List ℕ) (o : Option Link) → IfSome o (λ d. IsTaken (memory_of z ws) d (words_for z ws o))
unfolding words_for
taken_words z ws None = tt
taken_words z ws (Some d) = is_taken z ws d

words_of_link : (m : Memory) (d : Link) (words : List ℕ) → IsTaken m d words → length words ≡ word_count_of d
words_of_link m (leaf l) words copy = copy.0
words_of_link m (node n) words none = ap length none

words_counted : (m : Memory) (o : Option Link) (words : List ℕ) → IfSome o (λ d. IsTaken m d words) → IfSome o (λ d. length words ≡ word_count_of d)
words_counted m None words t = tt
words_counted m (Some d) words t = words_of_link m d words t

taking_pass : (v : View) (pool : Pool) (i : ℕ) (bit : Option ℕ) (x : ℕ) (ws : List ℕ) → (take_free.view_after v pool i bit x ws).pass ≡ v.pass
taking_pass v pool i None x ws = refl
taking_pass v pool i (Some k) x ws = ⊎_elim
    (λ (e : (bit_of x k == 1) ≡ true). rw e refl)
    (λ (e : (bit_of x k == 1) ≡ false). rw e refl)
    (cases_Bool (bit_of x k == 1))

module _ (z : Sizes) (ws : List ℕ) (f : Views) (p : ℕ) (v : View) (r : IsSound z (memory_of z ws) f) (at : f p ≡ Some v) (long : length ws ≡ word_count z) where
  abbrev m : Memory
  m = memory_of z ws

  -- a number that is somewhere else than among the free ones is one that there is, and not free
  abbrev pub IsInUse : Link → Type 0
  IsInUse d = IsNumber z d × (is_free (memory_of z ws) d ≡ false)

  elsewhere : (d : Link) (k : Whereabouts) → r.at d ≡ k → k ≢ Nowhere → k ≢ IsFree → IsInUse d
  elsewhere d k is some other = ((r.numbers.numbers d).0 (λ e. some (sym is ∙ e)), not_free z m f r d k is other)

  -- so is one in hand
  pub in_hand : (d : Link) → give.May v d → IsInUse d
  in_hand d may = let x = may.hand in elsewhere d (InHandOf p) (ap r.at (sym x.2) ∙ (r.numbers.accounts p v at).hand x.0 x.1) (λ e. cc) (λ e. cc)

  -- and one in limbo
  pub in_limbo : (d : Link) → give.MayFree z v d → IsInUse d
  in_limbo d may = elsewhere d (InLimboOf p) (ap r.at (sym may.link) ∙ (r.numbers.accounts p v at).limbo may.place may.limbo) (λ e. cc) (λ e. cc)

  pub in_use : (d : Link) → give.May v d ⊎ give.MayFree z v d → IsInUse d
  in_use d may = ⊎_elim (λ (a : give.May v d). in_hand d a) (λ (a : give.MayFree z v d). in_limbo d a) may

  -- a number that is taken is one that there is
  taken_number : (pool : Pool) (i : ℕ) (bit : Option ℕ) → IfSome bit (λ k. k < 64) → IfSome (taken pool i bit (m.free_word pool i)) (λ d. IsNumber z d)
  taken_number pool i None low = tt
  taken_number pool i (Some k) low = by_test (bit_of (m.free_word pool i) k == 1) refl
    where
      by_test : (b : Bool) → (bit_of (m.free_word pool i) k == 1) ≡ b → IfSome (if b then Some (number_at pool i k) else None) (λ d. IsNumber z d)
      by_test true is = free_is_number z m f (number_at pool i k) r (set_is_free m pool i k low is)
      by_test false is = tt

  -- a word of free numbers is found, and loses the bit
  pub moves_takes : (us : List ℕ) (pool : Pool) (i : ℕ) (bit : Option ℕ) (found : ℕ) → take_free.May z pool i bit → found ≡ m.free_word pool i → SetsFreeWord m pool i (without_bit bit found) (memory_of z us)
      → Moves z ws f p v us (λ v w. take_free.Outcome z v w pool i bit found) (take_free.Takes pool i bit found)
  moves_takes us pool i bit found may is sets =
      let x : ℕ = m.free_word pool i in
      let words : List ℕ = words_for z ws (taken pool i bit x) in
      let copied = taken_words z ws (taken pool i bit x) in
      let loses : SetsFreeWord m pool i (without_bit bit x) (memory_of z us) = subst (λ (y : ℕ). SetsFreeWord m pool i (without_bit bit y) (memory_of z us)) is sets in
      moved z ws f p v r at long us (λ v w. take_free.Outcome z v w pool i bit found) (take_free.Takes pool i bit found) (take_free.view_after v pool i bit x words) (taking_pass v pool i bit x words)
      record {
        words = words;
        there = subst (λ (y : ℕ). IfSome (taken pool i bit y) (λ d. IsNumber z d)) (sym is) (taken_number pool i bit may.low);
        long = subst (λ (y : ℕ). IfSome (taken pool i bit y) (λ d. length words ≡ word_count_of d)) (sym is) (words_counted m (taken pool i bit x) words copied);
        is = ap (λ (y : ℕ). take_free.view_after v pool i bit y words) (sym is);
      }
      (λ g t. IsTake record { pool = pool; index = i; bit = bit; copy = words; may = may; copied = copied; sets = loses; view = t })
      (λ g t. record { found = is; sets = sets })

  -- a number in hand is free again
  pub moves_gives : (us : List ℕ) (d : Link) → give.May v d → ((g : Views) → SetsBit d m f (memory_of z us) g)
      → Moves z ws f p v us (λ v w. give.Outcome v w d) (SetsBit d)
  moves_gives us d may sets =
      let k = handed_over v.hand (d ∷ []) in
      moved z ws f p v r at long us (λ v w. give.Outcome v w d) (SetsBit d) (give.view_after v k.0) refl record { hand = k.0; rest = k.1; is = refl }
      (λ g t. IsGive record { link = d; hand = k.0; may = may; rest = k.1; sets = sets g; view = t })
      (λ g t. sets g)

  -- a number in limbo is free again
  pub moves_frees : (us : List ℕ) (d : Link) → give.MayFree z v d → ((g : Views) → SetsBit d m f (memory_of z us) g)
      → Moves z ws f p v us (λ v w. give.FreeOutcome v w d) (SetsBit d)
  moves_frees us d may sets =
      let k = sifted (λ (e : Retired). e.link) (λ (e : Retired). e.link ≡ d) v.limbo (λ e. same_link e.link d) in
      let rest : give.LetsGo v.limbo d k.0 = record { was = λ e. (k.1 e).0; stays = λ e i other. (k.1 e).1 (i, other); once = k.2 } in
      moved z ws f p v r at long us (λ v w. give.FreeOutcome v w d) (SetsBit d) (give.view_freed v k.0) refl record { limbo = k.0; rest = rest; is = refl }
      (λ g t. IsFreed record { link = d; limbo = k.0; may = may; rest = rest; sets = sets g; view = t })
      (λ g t. sets g)

  -- a number is free again, wherever it was: it is not in hand and in limbo at once
  abbrev pub Frees : Link → View → View → Type 0
  Frees d v w = (give.May v d → give.Outcome v w d) × (give.MayFree z v d → give.FreeOutcome v w d)

  apart : (d : Link) → give.May v d → give.MayFree z v d → ⊥
  apart d hand limbo =
      let k = r.numbers.accounts p v at in
      let a : r.at d ≡ InHandOf p = ap r.at (sym hand.hand.2) ∙ k.hand hand.hand.0 hand.hand.1 in
      let b : r.at d ≡ InLimboOf p = ap r.at (sym limbo.link) ∙ k.limbo limbo.place limbo.limbo in
      let c : InHandOf p ≡ InLimboOf p = sym a ∙ b in cc

  pub moves_sets : (us : List ℕ) (d : Link) → give.May v d ⊎ give.MayFree z v d → ((g : Views) → SetsBit d m f (memory_of z us) g) → Moves z ws f p v us (λ v w. Frees d v w) (SetsBit d)
  moves_sets us d may sets = ⊎_elim
      (λ (a : give.May v d). let t = moves_gives us d a sets in record { view = t.view; pass = t.pass; row = (λ _. t.row, λ b. absurd (apart d a b)); step = t.step; sound = t.sound; was = t.was })
      (λ (b : give.MayFree z v d). let t = moves_frees us d b sets in record { view = t.view; pass = t.pass; row = (λ a. absurd (apart d a b), λ _. t.row); step = t.step; sound = t.sound; was = t.was })
      may
