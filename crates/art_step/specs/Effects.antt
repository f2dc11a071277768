-- What a step does to the words that all passes share, at the one instant at which it is made: m and f are the words and views
-- before it, m' and f' those after it.
use Rattle.std.specs.Prelude.{ℕ, ◌≡◌, ◌≢◌, Bool, ◌+◌, ◌^◌, if◌then◌else◌}
use Rattle.art_cell.specs.declared.cells.Pool.{Pool}
use Rattle.art_cell.specs.declared.cells.Cell.TheVariants as cell
use Rattle.art_cell.specs.declared.cells.Cell.{Cell}
use Rattle.art_cell.specs.declared.cells.Link.{Link}
use Rattle.art_cell.specs.declared.cells.Node.{Node}
use Rattle.art_step.specs.Knowledge.{IsShape, HoldsAll}
use Rattle.art_step.specs.Sound.{OneHolder}
use Rattle.art_step.specs.Views.{Memory, Views, free_bit, free_index, pool_of}
use Rattle.art_step.specs.declared.views.Sizes.{Sizes}
use Rattle.art_step.specs.declared.views.Stamp.{Stamp}
use Rattle.art_step.specs.declared.views.View.{View}
use Rattle.art_tree.specs.Heaps.{Cells}

-- the words and the views just before the instant, and those just after it
abbrev pub Instant : Type 1
Instant = Memory → Views → Memory → Views → Type 0

-- ---- what changes

-- the version word of the cell becomes x, and nothing else changes
pub record SetsVersion (m : Memory) (c : Cell) (x : ℕ) (m' : Memory) : Type 0 where
  pub here : m'.version c ≡ x
  pub there : (d : Cell) → d ≢ c → m'.version d ≡ m.version d
  pub words : m'.words ≡ m.words
  pub free : m'.free_word ≡ m.free_word
  pub epoch : m'.epoch ≡ m.epoch
  pub pass_word : m'.pass_word ≡ m.pass_word

-- the word at a place of the cell becomes x, and nothing else changes
pub record SetsWord (m : Memory) (c : Cell) (place x : ℕ) (m' : Memory) : Type 0 where
  pub here : m'.words c place ≡ x
  pub there : (i : ℕ) → i ≢ place → m'.words c i ≡ m.words c i
  pub others : (d : Cell) → d ≢ c → m'.words d ≡ m.words d
  pub version : m'.version ≡ m.version
  pub free : m'.free_word ≡ m.free_word
  pub epoch : m'.epoch ≡ m.epoch
  pub pass_word : m'.pass_word ≡ m.pass_word

-- the word of free numbers at an index of the pool becomes x, and nothing else changes
pub record SetsFreeWord (m : Memory) (pool : Pool) (i x : ℕ) (m' : Memory) : Type 0 where
  pub here : m'.free_word pool i ≡ x
  pub there : (q : Pool) (j : ℕ) → (q ≡ pool → j ≡ i → ⊥) → m'.free_word q j ≡ m.free_word q j
  pub version : m'.version ≡ m.version
  pub words : m'.words ≡ m.words
  pub epoch : m'.epoch ≡ m.epoch
  pub pass_word : m'.pass_word ≡ m.pass_word

-- the epoch becomes x, and nothing else changes
pub record SetsEpoch (m : Memory) (x : ℕ) (m' : Memory) : Type 0 where
  pub here : m'.epoch ≡ x
  pub version : m'.version ≡ m.version
  pub words : m'.words ≡ m.words
  pub free : m'.free_word ≡ m.free_word
  pub pass_word : m'.pass_word ≡ m.pass_word

-- the word of the pass becomes x, and nothing else changes
pub record SetsPassWord (m : Memory) (p x : ℕ) (m' : Memory) : Type 0 where
  pub here : m'.pass_word p ≡ x
  pub there : (q : ℕ) → q ≢ p → m'.pass_word q ≡ m.pass_word q
  pub version : m'.version ≡ m.version
  pub words : m'.words ≡ m.words
  pub free : m'.free_word ≡ m.free_word
  pub epoch : m'.epoch ≡ m.epoch

-- ---- what is found, where no word changes

-- the version word of the cell is x
pub record FindsVersion (c : Cell) (x : ℕ) (m : Memory) (f : Views) (m' : Memory) (f' : Views) : Type 0 where
  pub found : x ≡ m.version c
  pub same : m' ≡ m

-- the word at the place of the cell is x
pub record FindsWord (c : Cell) (place x : ℕ) (m : Memory) (f : Views) (m' : Memory) (f' : Views) : Type 0 where
  pub found : x ≡ m.words c place
  pub same : m' ≡ m

-- the epoch is x
pub record FindsEpoch (x : ℕ) (m : Memory) (f : Views) (m' : Memory) (f' : Views) : Type 0 where
  pub found : x ≡ m.epoch
  pub same : m' ≡ m

-- the word of the pass is x
pub record FindsPassWord (p x : ℕ) (m : Memory) (f : Views) (m' : Memory) (f' : Views) : Type 0 where
  pub found : x ≡ m.pass_word p
  pub same : m' ≡ m

-- the version word of the cell is the stamped one, and all that the view noted under the stamp holds of the logical words
pub record FindsUnchanged (z : Sizes) (v : View) (x : Stamp) (m : Memory) (f : Views) (m' : Memory) (f' : Views) : Type 0 where
  pub found : x.version ≡ m.version x.cell
  pub same : m' ≡ m
  pub logical : Cells
  pub holder : OneHolder m f logical
  pub shape : IsShape z logical
  pub holds : HoldsAll v x logical

-- ---- what is locked, written and unlocked

-- the version word of the cell is the stamped one, and goes up by 2
pub record LocksStamped (x : Stamp) (m : Memory) (f : Views) (m' : Memory) (f' : Views) : Type 0 where
  pub found : x.version ≡ m.version x.cell
  pub sets : SetsVersion m x.cell (x.version + 2) m'

-- what a claim stores, whatever the word was: locked, with the counter 0, at which each life of a node's number begins
abbrev pub claimed_word : ℕ
claimed_word = 2

-- the version word of the node's cell becomes that
abbrev pub LocksClaimed : Node → Instant
LocksClaimed a m f m' f' = SetsVersion m (cell.Node a) claimed_word m'

-- the word at the place of the cell becomes x
abbrev pub PutsWord : Cell → ℕ → ℕ → Instant
PutsWord c place x m f m' f' = SetsWord m c place x m'

-- a release adds 2, or 3 where the cell becomes obsolete
abbrev pub released_word : ℕ → Bool → ℕ
released_word x obsolete = if obsolete then x + 3 else x + 2

-- the version word of the cell goes up by 2, or by 3 where the cell becomes obsolete
abbrev pub Unlocks : Cell → Bool → Instant
Unlocks c obsolete m f m' f' = SetsVersion m c (released_word (m.version c) obsolete) m'

-- ---- numbers and epochs

-- the number's bit, which is not set, is set
abbrev pub SetsBit : Link → Instant
SetsBit d m f m' f' = SetsFreeWord m (pool_of d) (free_index d) (m.free_word (pool_of d) (free_index d) + 2 ^ free_bit d) m'

-- the epoch is x, and goes up by 1
pub record RaisesEpoch (x : ℕ) (m : Memory) (f : Views) (m' : Memory) (f' : Views) : Type 0 where
  pub found : x ≡ m.epoch
  pub sets : SetsEpoch m (x + 1) m'

-- the word of the pass becomes x
abbrev pub PutsPassWord : ℕ → ℕ → Instant
PutsPassWord p x m f m' f' = SetsPassWord m p x m'
