-- Taking a number of a pool: its free words are looked at in their order, and of one with a bit the lowest is taken.
use Rattle.std.specs.Prelude.{◌≡◌, ◌⊎◌, ℕ, ◌+◌, ◌-◌, ◌*◌, ◌^◌, ◌<◌, ◌≤◌, ◌==◌, nat_lt, if◌then◌else◌, List, ◌∷◌, length, Option, Some, None, ⊤}
use Rattle.std.proofs.Common.{w64}
use Rattle.std.specs.Int.{trailing_zeros}
use Rattle.art_cell.specs.declared.cells.Link.{Link}
use Rattle.art_cell.specs.declared.cells.Pool.{Pool}
use Rattle.art_step.specs.declared.actions.Action.{Action}
use Rattle.art_step.specs.declared.actions.Action.TheVariants.{ClearBit}
use Rattle.art_epoch.specs.declared.stocks.Search.{Search}
use Rattle.art_epoch.specs.declared.stocks.Search.TheVariants.{Looking, Clearing, Took}
use Rattle.art_epoch.specs.declared.stocks.Taking.{Taking}
use Rattle.art_step.specs.declared.numbers.Number.{Number}
use Rattle.art_step.specs.declared.views.Sizes.{Sizes}
use Rattle.art_step.specs.declared.views.View.{View}
use Rattle.art_step.specs.declared.views.Word.TheVariants.{Free as free_word}
use Rattle.art_step.specs.Steps.Take.{last_found, word_count_of}
use Rattle.art_step.specs.Tokens.{link_of_number}
use Rattle.art_step.specs.Views.{IsNumber, Member, bit_of, number_at}
use Rattle.art_step.specs.WordPlaces.{free_words, pool_size}
use Rattle.art_tree.specs.WordChanges.{FitsWord}

-- ---- what was found since a step

-- the word of free numbers at an index was found at the step t, which came after that
pub record WasFound (v : View) (since : ℕ) (pool : Pool) (i x t : ℕ) : Type 0 where
  pub later : since < t
  pub found : Member (record { word = free_word pool i x; step = t }) v.found

-- this is the lowest bit that is set
pub record IsLowest (x k : ℕ) : Type 0 where
  pub low : k < 64
  pub is : bit_of x k ≡ 1
  pub least : (j : ℕ) → j < k → bit_of x j ≡ 0

-- the word was found without a bit
abbrev pub WasEmpty : View → ℕ → Pool → ℕ → Type 0
WasEmpty v since pool i = (t : ℕ) × WasFound v since pool i 0 t

-- its lowest bit was lost: set as it was found, and not as it was found again
pub record WasLost (v : View) (since : ℕ) (pool : Pool) (i : ℕ) : Type 0 where
  pub word : ℕ
  pub bit : ℕ
  pub lowest : IsLowest word bit
  pub at : ℕ
  pub seen : WasFound v since pool i word at
  pub again : ℕ
  pub later : ℕ
  pub after : at < later
  pub gone : bit_of again bit ≡ 0
  pub lost : WasFound v since pool i again later

abbrev pub GaveNone : View → ℕ → Pool → ℕ → Type 0
GaveNone v since pool i = WasEmpty v since pool i ⊎ WasLost v since pool i

-- the words before an index gave none
abbrev pub NoneBefore : View → ℕ → Pool → ℕ → Type 0
NoneBefore v since pool n = (i : ℕ) → i < n → GaveNone v since pool i

-- the index of the word that comes after so many others, of so many that go round from the first one on
abbrev pub around : ℕ → ℕ → ℕ → ℕ
around words first n = if nat_lt n (words - first) then first + n else n - (words - first)

-- so many words gave none, from the first one on
abbrev pub NoneAround : View → ℕ → Pool → ℕ → ℕ → ℕ → Type 0
NoneAround v since pool words first n = (i : ℕ) → i < n → GaveNone v since pool (around words first i)

-- ---- how a call ends

-- nothing changed but steps, failures, what was found, and the hand
abbrev pub OnlyTakes : View → View → Type 0
OnlyTakes v w = w ≡ record v { steps = w.steps; failures = w.failures; found = w.found; hand = w.hand }

-- so many steps were made at most, and one more for each that failed
abbrev pub MadeFew : View → View → ℕ → Type 0
MadeFew v w n = w.steps + v.failures ≤ v.steps + n + w.failures

-- the number is the lowest of the word that it was found in; it alone came into the hand, and a child word can name it
pub record TookLowest (z : Sizes) (v w : View) (pool : Pool) (d : Link) : Type 0 where
  pub index : ℕ
  pub bit : ℕ
  pub is : d ≡ number_at pool index bit
  pub there : IsNumber z d
  pub fits : FitsWord d
  pub word : ℕ
  pub lowest : IsLowest word bit
  pub at : ℕ
  pub found : WasFound w v.steps pool index word at
  pub words : List ℕ
  pub long : length words ≡ word_count_of d
  pub hand : w.hand ≡ record { link = d; words = words } ∷ v.hand

-- and no word gave one that comes before that, from the first one on
pub record TookFirst (z : Sizes) (v w : View) (pool : Pool) (first : ℕ) (d : Link) : Type 0 where
  pub took : TookLowest z v w pool d
  pub passed : ℕ
  pub few : passed < free_words (pool_size z pool)
  pub is : took.index ≡ around (free_words (pool_size z pool)) first passed
  pub before : NoneAround w v.steps pool (free_words (pool_size z pool)) first passed

-- no word of the pool gave a number, and the hand stays
pub record TookNone (z : Sizes) (v w : View) (pool : Pool) : Type 0 where
  pub none : NoneBefore w v.steps pool (free_words (pool_size z pool))
  pub hand : w.hand ≡ v.hand

-- of a search from the word with an index on
abbrev pub Takes : Sizes → View → View → Pool → ℕ → Option Number → Type 0
Takes z v w pool first (Some n) = TookFirst z v w pool first (link_of_number n)
Takes z v w pool first None = TookNone z v w pool

-- ---- what the machine knows between two steps

-- the next step
abbrev pub asks_at : Pool → ℕ → ℕ → Search → Option Action
asks_at pool words first (Looking n) = if nat_lt n words then Some (ClearBit pool (around words first n) None) else None
asks_at pool words first (Clearing n k) = Some (ClearBit pool (around words first n) (Some k))
asks_at pool words first (Took n k) = None

abbrev pub asks : Taking → Option Action
asks m = asks_at m.pool m.words m.first m.search

-- a count of 32 bits after which there may be another, and a bit of 64
abbrev pub IsSearch : Search → Type 0
IsSearch (Looking n) = n + 1 < 2 ^ 32
IsSearch (Clearing n k) = (n + 1 < 2 ^ 32) × (k < 64)
IsSearch (Took n k) = ⊤

-- once a word was found: its lowest bit is to be cleared, or the next word looked at
abbrev pub after_look : ℕ → ℕ → Search
after_look n x = if x == 0 then Looking (n + 1) else Clearing n (trailing_zeros w64 x)

abbrev pub after_clear : ℕ → ℕ → ℕ → Search
after_clear n k x = if bit_of x k == 1 then Took n k else Looking (n + 1)

abbrev pub search_after : ℕ → Search → Search
search_after x (Looking n) = after_look n x
search_after x (Clearing n k) = after_clear n k x
search_after x (Took n k) = Took n k

-- how many steps it makes at most from here on
abbrev pub steps_left : ℕ → Search → ℕ
steps_left words (Looking n) = 2 * (words - n)
steps_left words (Clearing n k) = 2 * (words - n) - 1
steps_left words (Took n k) = 0

-- how many steps it made at most, but for one for each that failed: it looked at each word once, and a bit of the last one was taken
abbrev pub looks_made : Search → ℕ
looks_made (Looking n) = n
looks_made (Clearing n k) = n + 1
looks_made (Took n k) = n + 2

-- the word after so many was found, last of all, and this is its lowest bit
pub record IsSeen (v0 v : View) (pool : Pool) (words first n k : ℕ) : Type 0 where
  pub inside : n < words
  pub before : NoneAround v v0.steps pool words first n
  pub word : ℕ
  pub lowest : IsLowest word k
  pub at : ℕ
  pub past : at ≤ v.steps
  pub found : WasFound v v0.steps pool (around words first n) word at
  pub last : last_found pool (around words first n) v.found ≡ word
  pub hand : v.hand ≡ v0.hand

-- its number was taken
pub record HasTaken (z : Sizes) (v0 v : View) (pool : Pool) (words first n k : ℕ) : Type 0 where
  pub inside : n < words
  pub low : k < 64
  pub before : NoneAround v v0.steps pool words first n
  pub took : TookLowest z v0 v pool (number_at pool (around words first n) k)
  pub is : took.index ≡ around words first n

-- of a pass whose view was v0 when the machine began, and is v
abbrev pub SearchFits : Sizes → View → View → Pool → ℕ → ℕ → Search → Type 0
SearchFits z v0 v pool words first (Looking n) = (n ≤ words) × NoneAround v v0.steps pool words first n × (v.hand ≡ v0.hand)
SearchFits z v0 v pool words first (Clearing n k) = IsSeen v0 v pool words first n k
SearchFits z v0 v pool words first (Took n k) = HasTaken z v0 v pool words first n k

pub record Fits (z : Sizes) (v0 : View) (m : Taking) (v : View) : Type 0 where
  pub words : m.words ≡ free_words (pool_size z m.pool)
  pub few : m.words ≤ 2 ^ 26
  pub only : OnlyTakes v0 v
  pub steps : v.steps + steps_left m.words m.search ≤ v0.steps + 2 * m.words
  pub some : v0.steps ≤ v.steps
  pub counted : MadeFew v0 v (looks_made m.search)
  pub failed : v0.failures ≤ v.failures
  pub search : SearchFits z v0 v m.pool m.words m.first m.search
