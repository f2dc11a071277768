-- How the bytes that are packed in the words of a cell stand to those of a key, one word after another.
use Rattle.std.specs.Prelude.{◌≡◌, ℕ, ◌+◌, ◌*◌, ◌%◌, ◌<◌, ◌≤◌, min, List, length, ⊤}
use Rattle.art_cell.specs.Words.{Words, byte_of, packed}
use Rattle.art_find.specs.declared.descents.Beside.{Beside}
use Rattle.art_path.specs.declared.compared.Compared.{Compared}
use Rattle.art_path.specs.declared.compared.Compared.TheVariants.{Same, Below, Above}
use Rattle.art_path.specs.Compared.{IsCompared}

-- where all of so many bytes are the key's, it has so many; else the first that is not is one of them, and the key has all before
-- it, and that byte too where it is above
abbrev pub IsWithin : List ℕ → ℕ → ℕ → Compared → Type 0
IsWithin key from count Same = from + count ≤ length key
IsWithin key from count (Below at) = (at < count) × (from + at < length key)
IsWithin key from count (Above at) = (at < count) × (from + at ≤ length key)

-- bytes that are packed from place 2 on, by the word with a number and by what was known before it
pub record ComparesWord (key : List ℕ) (from count number word : ℕ) (before result : Compared) : Type 0 where
  pub tells : (w : Words) → w (2 + number) ≡ word → IsCompared (packed w 2) (8 * number) key from before →
      IsCompared (packed w 2) (min count (8 * number + 8)) key from result
  pub within : IsWithin key from (min count (8 * number + 8)) result

-- ---- and which byte there is where they part

abbrev pub at_first : Beside
at_first = record { compared = Same; byte = 0 }

abbrev pub HasByte : (ℕ → ℕ) → Compared → ℕ → Type 0
HasByte bytes Same byte = ⊤
HasByte bytes (Below at) byte = bytes at ≡ byte
HasByte bytes (Above at) byte = bytes at ≡ byte

-- so many bytes stand to those of the key in this way, and have this byte where they part
pub record IsBeside (bytes : ℕ → ℕ) (count : ℕ) (key : List ℕ) (r : Beside) : Type 0 where
  pub compared : IsCompared bytes count key 0 r.compared
  pub byte : HasByte bytes r.compared r.byte

-- the byte of a word at which they part, if they do
abbrev pub byte_in : Compared → ℕ → ℕ
byte_in Same word = 0
byte_in (Below at) word = byte_of word (at % 8)
byte_in (Above at) word = byte_of word (at % 8)

-- that byte once one word more was compared: one of the word where the bytes before were the same, else the one of before
abbrev pub byte_after : Compared → ℕ → Compared → ℕ → ℕ
byte_after Same byte r word = byte_in r word
byte_after (Below at) byte r word = byte
byte_after (Above at) byte r word = byte

-- bytes that are packed from place 2 on, by the word with a number and by what was known before it
pub record TellsBeside (key : List ℕ) (count number word : ℕ) (before result : Beside) : Type 0 where
  pub tells : (w : Words) → w (2 + number) ≡ word → IsBeside (packed w 2) (8 * number) key before →
      IsBeside (packed w 2) (min count (8 * number + 8)) key result
  pub within : IsWithin key 0 (min count (8 * number + 8)) result.compared
