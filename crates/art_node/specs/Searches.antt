-- What one word after another tells of the child of a byte, and of the least child from a byte on.
use Rattle.std.specs.Prelude.{◌≡◌, ℕ, ◌+◌, ◌*◌, ◌/◌, ◌%◌, ◌<◌, ◌≤◌, Option, Some, None, ⊤}
use Rattle.art_cell.specs.declared.cells.Layout.{Layout}
use Rattle.art_cell.specs.declared.cells.Layout.TheVariants.{Node4, Node16, Node48, Node256}
use Rattle.art_cell.specs.Bodies.{IsBody}
use Rattle.art_cell.specs.Reads.{NoneFrom}
use Rattle.art_cell.specs.Words.{Words, size, places, count_of, nonzero, child_of}
use Rattle.art_node4.specs.declared.layouts.Sorted.{Sorted}
use Rattle.art_node4.specs.Sorted.{layout_of, BelowAll, IsFirstFrom}
use Rattle.art_node.specs.declared.searches.KeySearch.{KeySearch}
use Rattle.art_node.specs.declared.searches.KeySearch.TheVariants as key
use Rattle.art_node.specs.declared.searches.Sought.{Sought}
use Rattle.art_node.specs.declared.searches.Sought.TheVariants as sought
use Rattle.art_node.specs.declared.searches.SoughtFrom.{SoughtFrom}
use Rattle.art_node.specs.declared.searches.SoughtFrom.TheVariants as from

-- the header of the words
abbrev pub IsHeader : ℕ → Words → Type 0
IsHeader header w = w 1 ≡ header

-- ---- the child of a byte

-- before the word of keys with a number is read: the bytes before it are below the byte, or it is the byte's index word
abbrev pub KeysKnown : Layout → ℕ → Words → ℕ → Type 0
KeysKnown Node4 b w i = BelowAll w (8 * i) b
KeysKnown Node16 b w i = BelowAll w (8 * i) b
KeysKnown Node48 b w i = i ≡ b / 8
KeysKnown Node256 b w i = ⊥

-- the header and a word of keys, before which the others that were asked for were read
pub record IsNextWord (k : Layout) (b header number word : ℕ) (w : Words) : Type 0 where
  pub is_header : w 1 ≡ header
  pub is_word : w (10 + number) ≡ word
  pub known : KeysKnown k b w number

-- what is told of bodies of which this is so
abbrev pub SoughtTells : Layout → ℕ → (Words → Type 0) → Sought → Type 0
SoughtTells k b so (sought.Keys i) = (i < 32) × (10 + i < size k) × ((w : Words) → IsBody k w → so w → KeysKnown k b w i)
SoughtTells k b so (sought.Child p) = (0 < p) × (p < size k) × ((w : Words) → IsBody k w → so w → child_of k w b ≡ nonzero (w p))
SoughtTells k b so sought.Nothing = (w : Words) → IsBody k w → so w → child_of k w b ≡ None

-- a word of keys that has to be read next comes after that with a number, and is the second
abbrev pub AsksLater : ℕ → Sought → Type 0
AsksLater number (sought.Keys i) = (number < i) × (i < 2)
AsksLater number (sought.Child p) = ⊤
AsksLater number sought.Nothing = ⊤

-- a word of sorted key bytes is asked for only where the header says that there are more bytes than stand before it
abbrev pub IsCounted : Layout → ℕ → ℕ → Type 0
IsCounted Node4 header i = 8 * i < header % 512
IsCounted Node16 header i = 8 * i < header % 512
IsCounted Node48 header i = ⊤
IsCounted Node256 header i = ⊤

abbrev pub AsksCounted : Layout → ℕ → Sought → Type 0
AsksCounted k header (sought.Keys i) = IsCounted k header i
AsksCounted k header (sought.Child p) = ⊤
AsksCounted k header sought.Nothing = ⊤

-- ---- the least child from a byte on

-- before the word of keys with a number is read: the bytes before it are below the byte, or have no child from it on
abbrev pub KeysKnownFrom : Layout → ℕ → Words → ℕ → Type 0
KeysKnownFrom Node4 low w i = BelowAll w (8 * i) low
KeysKnownFrom Node16 low w i = BelowAll w (8 * i) low
KeysKnownFrom Node48 low w i = (low / 8 ≤ i) × NoneFrom (child_of Node48 w) low (8 * i)
KeysKnownFrom Node256 low w i = ⊥

-- the header and a word of keys, before which the others that were asked for were read
pub record IsNextWordFrom (k : Layout) (low header number word : ℕ) (w : Words) : Type 0 where
  pub is_header : w 1 ≡ header
  pub is_word : w (10 + number) ≡ word
  pub known : KeysKnownFrom k low w number

-- the place has a child, but where the layout has a place for each byte
abbrev pub IsOccupied : Layout → Words → ℕ → Type 0
IsOccupied Node4 w p = 0 < w p
IsOccupied Node16 w p = 0 < w p
IsOccupied Node48 w p = 0 < w p
IsOccupied Node256 w p = ⊤

-- what is told of bodies of which this is so
abbrev pub SoughtFromTells : Layout → ℕ → (Words → Type 0) → SoughtFrom → Type 0
SoughtFromTells k low so (from.Keys i) = (i < 32) × (10 + i < size k) × ((w : Words) → IsBody k w → so w → KeysKnownFrom k low w i)
SoughtFromTells k low so (from.Child p b) =
    (0 < p) × (p < size k) × (low ≤ b) × (b < 256)
    × ((w : Words) → IsBody k w → so w → NoneFrom (child_of k w) low b × (child_of k w b ≡ nonzero (w p)) × IsOccupied k w p)
SoughtFromTells k low so from.Nothing = (w : Words) → IsBody k w → so w → NoneFrom (child_of k w) low 256

abbrev pub AsksLaterFrom : ℕ → SoughtFrom → Type 0
AsksLaterFrom number (from.Keys i) = number < i
AsksLaterFrom number (from.Child p b) = ⊤
AsksLaterFrom number from.Nothing = ⊤

abbrev pub AsksCountedFrom : Layout → ℕ → SoughtFrom → Type 0
AsksCountedFrom k header (from.Keys i) = IsCounted k header i
AsksCountedFrom k header (from.Child p b) = ⊤
AsksCountedFrom k header from.Nothing = ⊤

-- ---- in one word

-- the next word is read only where the header says that there are bytes in it
abbrev pub GoesOnCounted : ℕ → ℕ → KeySearch → Type 0
GoesOnCounted header number (key.At i found) = ⊤
GoesOnCounted header number key.Later = 8 * (number + 1) < header % 512
GoesOnCounted header number key.Nothing = ⊤

-- the header and a word of key bytes, before which all bytes are below one
pub record IsKeyWord (b header number word : ℕ) (w : Words) : Type 0 where
  pub is_header : w 1 ≡ header
  pub is_word : w (10 + number) ≡ word
  pub below : BelowAll w (8 * number) b

-- what a word of key bytes tells of the first one at a byte or above, of bodies of which this is so
abbrev pub KeySearchTells : Sorted → ℕ → ℕ → (Words → Type 0) → KeySearch → Type 0
KeySearchTells s b number so (key.At i found) =
    (i < places (layout_of s)) × (b ≤ found) × ((w : Words) → IsBody (layout_of s) w → so w → IsFirstFrom w b i found)
KeySearchTells s b number so key.Later =
    (8 * (number + 1) < places (layout_of s)) × ((w : Words) → IsBody (layout_of s) w → so w → BelowAll w (8 * (number + 1)) b)
KeySearchTells s b number so key.Nothing = (w : Words) → IsBody (layout_of s) w → so w → BelowAll w (count_of w) b

-- the word of a byte's index entry
abbrev pub HasWord : ℕ → ℕ → Words → Type 0
HasWord b word w = w (10 + b / 8) ≡ word

-- a word of the index, before which no byte from one on has a child
abbrev pub HasWordFrom : ℕ → ℕ → ℕ → Words → Type 0
HasWordFrom low number word w = (w (10 + number) ≡ word) × KeysKnownFrom Node48 low w number

-- what the word of a byte's index entry tells of its child
abbrev pub PlaceTells : ℕ → ℕ → Option ℕ → Type 0
PlaceTells b word (Some p) =
    (0 < p) × (p < size Node48) × ((w : Words) → HasWord b word w → child_of Node48 w b ≡ nonzero (w p))
    × ((w : Words) → IsBody Node48 w → HasWord b word w → 0 < w p)
PlaceTells b word None = (w : Words) → IsBody Node48 w → HasWord b word w → child_of Node48 w b ≡ None
