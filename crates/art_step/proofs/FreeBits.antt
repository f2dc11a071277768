-- What the words of free numbers say where one bit of one of them changes.
use Rattle.std.proofs.Common.{◌≡◌, ◌≢◌, ℕ, ◌+◌, ◌-◌, ◌*◌, ◌^◌, ◌<◌, ◌==◌, Bool, true, false, sym, refl, ap, ap₂, ◌∙◌, ⊎_elim, subst, arith}
use Rattle.std.proofs.lemmas.Bool.{cases_eq, eqb-true, eqb-false}
use Rattle.art_cell.specs.declared.cells.Link.{Link}
use Rattle.art_cell.specs.declared.cells.Link.TheVariants.{Leaf as leaf, Node as node}
use Rattle.art_cell.specs.declared.cells.Layout.{Layout}
use Rattle.art_cell.specs.declared.cells.Layout.TheVariants.{Node4}
use Rattle.art_cell.specs.declared.cells.Pool.{Pool}
use Rattle.art_cell.specs.declared.cells.Pool.TheVariants.{Leaves}
use Rattle.art_cell.specs.Children.{link_in_pool, number_of}
use Rattle.art_cell.specs.Lemmas.Headers.{bit_more, bit_more_elsewhere, bit_less, bit_at_least}
use Rattle.art_step.specs.declared.views.Sizes.{Sizes}
use Rattle.art_step.specs.Sound.{IsSound}
use Rattle.art_step.specs.Effects.{SetsBit, SetsFreeWord}
use Rattle.art_step.specs.Views.{Memory, Views, IsNumber, bit_of, free_bit, free_index, is_free, number_at, pool_of, pool_of_layout, pool_rank}
use Rattle.art_step.proofs.WordPlaces.{same_pool}

-- ---- numbers, by pool, word and bit

pub pool_again : (pool : Pool) (n : ℕ) → pool_of (link_in_pool pool n) ≡ pool
pool_again pool n = elim pool as (λ k. pool_of (link_in_pool k n) ≡ k) [ Leaves ↦ refl | _ ↦ refl ]

pub number_again : (pool : Pool) (n : ℕ) → number_of (link_in_pool pool n) ≡ n
number_again pool n = elim pool as (λ k. number_of (link_in_pool k n) ≡ n) [ Leaves ↦ refl | _ ↦ refl ]

pub link_again : (d : Link) → link_in_pool (pool_of d) (number_of d) ≡ d
link_again (leaf l) = refl
link_again (node n) = elim n.layout as (λ (k : Layout). link_in_pool (pool_of_layout k) n.number ≡ node (record { layout = k; number = n.number })) [ Node4 ↦ refl | _ ↦ refl ]

-- the number at a bit of a word has this word and this bit
index_again : (pool : Pool) (i k : ℕ) → k < 64 → free_index (number_at pool i k) ≡ i
index_again pool i k low = let n = number_again pool (64 * i + k) in omega (arith, n)

bit_again : (pool : Pool) (i k : ℕ) → k < 64 → free_bit (number_at pool i k) ≡ k
bit_again pool i k low = let n = number_again pool (64 * i + k) in omega (arith, n)

-- a number is free where its bit is set
pub free_by_bit : (m : Memory) (pool : Pool) (i k : ℕ) → k < 64 → is_free m (number_at pool i k) ≡ (bit_of (m.free_word pool i) k == 1)
free_by_bit m pool i k low =
    let word : m.free_word (pool_of (number_at pool i k)) (free_index (number_at pool i k)) ≡ m.free_word pool i = ap₂ m.free_word (pool_again pool (64 * i + k)) (index_again pool i k low) in
    ap₂ (λ (x j : ℕ). bit_of x j == 1) word (bit_again pool i k low)

-- so a number whose bit is set is free
pub set_is_free : (m : Memory) (pool : Pool) (i k : ℕ) → k < 64 → (bit_of (m.free_word pool i) k == 1) ≡ true → is_free m (number_at pool i k) ≡ true
set_is_free m pool i k low is = free_by_bit m pool i k low ∙ is

-- two numbers of one pool, word and bit are one
same_number : (e d : Link) → pool_of e ≡ pool_of d → free_index e ≡ free_index d → free_bit e ≡ free_bit d → e ≡ d
same_number e d pool index bit =
    let number : number_of e ≡ number_of d = omega (arith, index, bit) in
    sym (link_again e) ∙ (ap₂ (λ (q : Pool) (n : ℕ). link_in_pool q n) pool number ∙ link_again d)

-- what is free is a number that there is, where all is sound
pub free_is_number : (z : Sizes) (m : Memory) (f : Views) (d : Link) → IsSound z m f → is_free m d ≡ true → IsNumber z d
free_is_number z m f d r free = (r.numbers.numbers d).0 (λ e. let is = (r.numbers.free d).1 free in cc)

-- ---- one number becomes free, or is no longer

-- and nothing else changes
pub record SetsFree (m : Memory) (d : Link) (b : Bool) (m' : Memory) : Type 0 where
  pub here : is_free m' d ≡ b
  pub there : (e : Link) → e ≢ d → is_free m' e ≡ is_free m e
  pub version : m'.version ≡ m.version
  pub words : m'.words ≡ m.words
  pub epoch : m'.epoch ≡ m.epoch
  pub pass_word : m'.pass_word ≡ m.pass_word

-- where one bit of its word changes
module _ (m m' : Memory) (d : Link) (x : ℕ) (sets : SetsFreeWord m (pool_of d) (free_index d) x m') where
  abbrev before : ℕ
  before = m.free_word (pool_of d) (free_index d)

  -- another number has another word, or another bit
  other_number : ((j : ℕ) → j ≢ free_bit d → bit_of x j ≡ bit_of before j) → (e : Link) → e ≢ d → is_free m' e ≡ is_free m e
  other_number bits e other = ⊎_elim
      (λ (rank : pool_rank (pool_of e) ≡ pool_rank (pool_of d)). ⊎_elim
      (λ (index : free_index e ≡ free_index d).
      let pool : pool_of e ≡ pool_of d = same_pool (pool_of e) (pool_of d) rank in
      let bit = bits (free_bit e) (λ same. other (same_number e d pool index same)) in
      let now : m'.free_word (pool_of e) (free_index e) ≡ x = ap₂ (λ (q : Pool) (i : ℕ). m'.free_word q i) pool index ∙ sets.here in
      let was : m.free_word (pool_of e) (free_index e) ≡ before = ap₂ (λ (q : Pool) (i : ℕ). m.free_word q i) pool index in
      ap (λ (word : ℕ). bit_of word (free_bit e) == 1) now ∙ (ap (λ (b : ℕ). b == 1) bit ∙ ap (λ (word : ℕ). bit_of word (free_bit e) == 1) (sym was)))
      (λ (apart : free_index e ≢ free_index d). stays e (λ pool index. apart index))
      (cases_eq (free_index e) (free_index d)))
      (λ (apart : pool_rank (pool_of e) ≢ pool_rank (pool_of d)). stays e (λ pool index. apart (ap pool_rank pool)))
      (cases_eq (pool_rank (pool_of e)) (pool_rank (pool_of d)))
    where
      stays : (e : Link) → (pool_of e ≡ pool_of d → free_index e ≡ free_index d → ⊥) → is_free m' e ≡ is_free m e
      stays e apart = ap (λ (word : ℕ). bit_of word (free_bit e) == 1) (sets.there (pool_of e) (free_index e) apart)

  sets_free : (b : Bool) → (bit_of x (free_bit d) == 1) ≡ b → ((j : ℕ) → j ≢ free_bit d → bit_of x j ≡ bit_of before j) → SetsFree m d b m'
  sets_free b bit others = record {
    here = ap (λ (word : ℕ). bit_of word (free_bit d) == 1) sets.here ∙ bit;
    there = other_number others;
    version = sets.version;
    words = sets.words;
    epoch = sets.epoch;
    pass_word = sets.pass_word;
  }

-- to add a number's bit frees it, where it is not free
pub frees_number : (m : Memory) (f : Views) (m' : Memory) (f' : Views) (d : Link) → is_free m d ≡ false → SetsBit d m f m' f' → SetsFree m d true m'
frees_number m f m' f' d taken sets =
    let k : ℕ = free_bit d in
    let h : ℕ = m.free_word (pool_of d) (free_index d) in
    let clear : bit_of h k ≡ 0 = let no = eqb-false _ 1 taken in omega arith in
    sets_free m m' d (h + 2 ^ k) sets true (ap (λ (bit : ℕ). bit == 1) (bit_more h k clear)) (λ j other. bit_more_elsewhere h k j clear other)

-- to subtract the bit of a free number takes it
takes_number : (m m' : Memory) (d : Link) → is_free m d ≡ true → SetsFreeWord m (pool_of d) (free_index d) (m.free_word (pool_of d) (free_index d) - 2 ^ free_bit d) m' → SetsFree m d false m'
takes_number m m' d free sets =
    let k : ℕ = free_bit d in
    let h : ℕ = m.free_word (pool_of d) (free_index d) in
    let full : bit_of h k ≡ 1 = eqb-true _ 1 free in
    let least = bit_at_least h k full in
    let back : h - 2 ^ k + 2 ^ k ≡ h = omega arith in
    let clear : bit_of (h - 2 ^ k) k ≡ 0 = bit_less (h - 2 ^ k) k (ap (λ (n : ℕ). bit_of n k) back ∙ full) in
    sets_free m m' d (h - 2 ^ k) sets false (ap (λ (bit : ℕ). bit == 1) clear) (λ j other. sym (bit_more_elsewhere (h - 2 ^ k) k j clear other) ∙ ap (λ (n : ℕ). bit_of n j) back)

-- to clear the bit k of the word i of a pool, where it is set, takes the number that has that bit
pub takes_bit : (m m' : Memory) (pool : Pool) (i k : ℕ) → k < 64 → (bit_of (m.free_word pool i) k == 1) ≡ true
    → SetsFreeWord m pool i (m.free_word pool i - 2 ^ k) m' → SetsFree m (number_at pool i k) false m'
takes_bit m m' pool i k low is sets =
    let d : Link = number_at pool i k in
    let same_pool : pool_of d ≡ pool = pool_again pool (64 * i + k) in
    let index : free_index d ≡ i = index_again pool i k low in
    let place : free_bit d ≡ k = bit_again pool i k low in
    let same : m.free_word (pool_of d) (free_index d) ≡ m.free_word pool i = ap₂ m.free_word same_pool index in
    let cleared : m.free_word (pool_of d) (free_index d) - 2 ^ free_bit d ≡ m.free_word pool i - 2 ^ k = ap₂ (λ (w j : ℕ). w - 2 ^ j) same place in
    let of_number : SetsFreeWord m (pool_of d) (free_index d) (m.free_word (pool_of d) (free_index d) - 2 ^ free_bit d) m' =
    subst (λ (y : Pool × ℕ × ℕ). SetsFreeWord m y.0 y.1 y.2 m') (λ j. (sym same_pool j, sym index j, sym cleared j)) sets in
    takes_number m m' d (set_is_free m pool i k low is) of_number
