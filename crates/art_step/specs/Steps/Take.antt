-- Take: a word of free numbers is found, and one of its bits is cleared, or none. Where the bit was set, its number comes into the
-- hand, a leaf's with its words; where it was not, though the pass last found it set, another pass took the number.
use Rattle.std.specs.Prelude.{List, ℕ, length, ◌≡◌, ◌+◌, ◌-◌, ◌^◌, ◌<◌, ◌==◌, [], ◌∷◌, if◌then◌else◌, Option, Some, None, IfSome}
use Rattle.art_cell.specs.declared.cells.Cell.TheVariants as cell
use Rattle.art_cell.specs.declared.cells.Link.TheVariants.{Leaf as leaf, Node as node}
use Rattle.art_cell.specs.declared.cells.Link.{Link}
use Rattle.art_cell.specs.declared.cells.Pool.{Pool}
use Rattle.art_step.specs.Effects.{SetsFreeWord}
use Rattle.art_step.specs.Sound.{KeepsSound}
use Rattle.art_step.specs.Views.{IsNumber, Memory, words_in, Views, SetsView, bit_of, number_at, pool_rank}
use Rattle.art_step.specs.WordPlaces.{HasFreeWord}
use Rattle.art_step.specs.declared.views.Found.{Found}
use Rattle.art_step.specs.declared.views.Sizes.{Sizes}
use Rattle.art_step.specs.declared.views.View.{View}
use Rattle.art_step.specs.declared.views.Word.{Word}
use Rattle.art_step.specs.declared.views.Word.TheVariants.{Version, Free, Pass}

-- there is such a word, and such a bit
pub record May (z : Sizes) (pool : Pool) (i : ℕ) (bit : Option ℕ) : Type 0 where
  pub word : HasFreeWord z pool i
  pub low : IfSome bit (λ k. k < 64)

-- ---- the word

-- the word without the bit
abbrev pub without_bit : Option ℕ → ℕ → ℕ
without_bit None x = x
without_bit (Some k) x = if bit_of x k == 1 then x - 2 ^ k else x

-- the number that is taken: the one whose bit was set
abbrev pub taken : Pool → ℕ → Option ℕ → ℕ → Option Link
taken pool i None x = None
taken pool i (Some k) x = if bit_of x k == 1 then Some (number_at pool i k) else None

-- a leaf's words, and none of a node
abbrev pub IsTaken : Memory → Link → List ℕ → Type 0
IsTaken m (leaf l) ws = (length ws ≡ 10) × (m.words (cell.Leaf l) ≡ words_in ws)
IsTaken m (node n) ws = ws ≡ []

-- ---- the view after it

-- the word as the pass last found it, 0 where it never did
abbrev pub if_word : Pool → ℕ → Word → ℕ → ℕ
if_word pool i (Free q j x) else_found = if pool_rank q == pool_rank pool then (if j == i then x else else_found) else else_found
if_word pool i (Version c x) else_found = else_found
if_word pool i (Pass q x) else_found = else_found

abbrev pub last_found : Pool → ℕ → List Found → ℕ
last_found pool i [] = 0
last_found pool i (x ∷ xs) = if_word pool i x.word (last_found pool i xs)

-- the word is noted
abbrev pub view_noted : View → Pool → ℕ → ℕ → View
view_noted v pool i x = record v { steps = v.steps + 1; found = record { word = Free pool i x; step = v.steps + 1 } ∷ v.found }

-- the number comes into the hand, with these words; a bit that was set before and is not now is a failure
abbrev pub view_after : View → Pool → ℕ → Option ℕ → ℕ → List ℕ → View
view_after v pool i None x ws = view_noted v pool i x
view_after v pool i (Some k) x ws =
    if bit_of x k == 1
    then record (view_noted v pool i x) { hand = record { link = number_at pool i k; words = ws } ∷ v.hand }
    else record (view_noted v pool i x) { failures = v.failures + bit_of (last_found pool i v.found) k }

pub record Step (z : Sizes) (p : ℕ) (v : View) (m : Memory) (f : Views) (m' : Memory) (f' : Views) : Type 0 where
  pub pool : Pool
  pub index : ℕ
  pub bit : Option ℕ
  pub copy : List ℕ
  pub may : May z pool index bit
  pub copied : IfSome (taken pool index bit (m.free_word pool index)) (λ d. IsTaken m d copy)
  pub sets : SetsFreeWord m pool index (without_bit bit (m.free_word pool index)) m'
  pub view : SetsView f p (view_after v pool index bit (m.free_word pool index) copy) f'

-- what happens at once: the word is x, and loses the bit
pub record Takes (pool : Pool) (i : ℕ) (bit : Option ℕ) (x : ℕ) (m : Memory) (f : Views) (m' : Memory) (f' : Views) : Type 0 where
  pub found : x ≡ m.free_word pool i
  pub sets : SetsFreeWord m pool i (without_bit bit x) m'

-- ten words of a leaf, and none of a node
abbrev pub word_count_of : Link → ℕ
word_count_of (leaf l) = 10
word_count_of (node n) = 0

-- a number that is taken is one that there is
pub record Outcome (z : Sizes) (v w : View) (pool : Pool) (i : ℕ) (bit : Option ℕ) (x : ℕ) : Type 0 where
  pub words : List ℕ
  pub there : IfSome (taken pool i bit x) (λ d. IsNumber z d)
  pub long : IfSome (taken pool i bit x) (λ d. length words ≡ word_count_of d)
  pub is : w ≡ view_after v pool i bit x words

abbrev pub Law : Type 0
Law = KeepsSound Step
