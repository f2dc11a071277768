-- Which words are the body of a node.
use Rattle.std.specs.Prelude.{◌≡◌, ◌≢◌, ℕ, zero, suc, ◌+◌, ◌-◌, ◌*◌, ◌^◌, ◌<◌, ◌≤◌, length, get_or, Option, ⊤}
use Rattle.art_cell.specs.declared.cells.Layout.{Layout}
use Rattle.art_cell.specs.declared.cells.Layout.TheVariants.{Node4, Node16, Node48, Node256}
use Rattle.art_cell.specs.declared.node_kinds.Entry.{Entry}
use Rattle.art_cell.specs.Words.{Words, places, count_of, prefix_len, is_used, packed, prefix_of, key_byte, child_of, entries}

-- the prefix has at most 64 bytes, and bytes after it are 0
pub record HasPrefix (w : Words) : Type 0 where
  pub short : prefix_len w ≤ 64
  pub unused : (i : ℕ) → prefix_len w ≤ i → i < 64 → packed w 2 i ≡ 0

-- the first positions are in use, in ascending order of their bytes, and all that stands after them is 0: children, and
-- bytes to the end of the key words, which stand from place 10 to the first child
pub record IsSorted (slots first : ℕ) (w : Words) : Type 0 where
  pub header : w 1 < 2 ^ 16
  pub few : count_of w ≤ slots
  pub ascends : (i j : ℕ) → i < j → j < count_of w → key_byte w i < key_byte w j
  pub some : (i : ℕ) → i < count_of w → 0 < w (first + i)
  pub no_byte : (i : ℕ) → count_of w ≤ i → i < 8 * (first - 10) → key_byte w i ≡ 0
  pub no_child : (i : ℕ) → count_of w ≤ i → i < slots → w (first + i) ≡ 0

-- how many of the first places are in use
abbrev pub used_count : Words → ℕ → ℕ
used_count w zero = 0
used_count w (suc n) = is_used w n + used_count w n

-- an index entry is 0 or a place plus 1; a place in use is named by one byte and has a child, and a free one has none
pub record IsIndexed (w : Words) : Type 0 where
  pub within : (b : ℕ) → b < 256 → key_byte w b ≤ 48
  pub once : (a b : ℕ) → a < 256 → b < 256 → 0 < key_byte w a → key_byte w a ≡ key_byte w b → a ≡ b
  pub named : (b p : ℕ) → b < 256 → key_byte w b ≡ suc p → (is_used w p ≡ 1) × (0 < w (42 + p))
  pub used : (p : ℕ) → p < 48 → is_used w p ≡ 1 → (b : ℕ) × (b < 256) × (key_byte w b ≡ suc p)
  pub free : (p : ℕ) → p < 48 → is_used w p ≡ 0 → w (42 + p) ≡ 0
  pub places : count_of w ≡ used_count w 48

-- the layout's own form
abbrev pub HasForm : Layout → Words → Type 0
HasForm Node4 w = IsSorted 4 11 w
HasForm Node16 w = IsSorted 16 12 w
HasForm Node48 w = IsIndexed w
HasForm Node256 w = w 1 < 2 ^ 16

-- the words are those of a node of the layout
pub record IsBody (k : Layout) (w : Words) : Type 0 where
  pub words : (p : ℕ) → w p < 2 ^ 64
  pub prefix : HasPrefix w
  pub form : HasForm k w
  pub counted : count_of w ≡ length (entries k w)

-- as many children as there are places
abbrev pub IsFull : Layout → Words → Type 0
IsFull k w = count_of w ≡ places k

-- the words after a change are a body, with the prefix as it was and this child for each byte
pub record Becomes (k : Layout) (w after : Words) (child : ℕ → Option ℕ) : Type 0 where
  pub body : IsBody k after
  pub prefix : prefix_of after ≡ prefix_of w
  pub children : (b : ℕ) → b < 256 → child_of k after b ≡ child b

-- the words in another layout: a body with the same prefix and the same children
pub record IsRelaid (k l : Layout) (w after : Words) : Type 0 where
  pub body : IsBody l after
  pub prefix : prefix_of after ≡ prefix_of w
  pub children : (b : ℕ) → b < 256 → child_of l after b ≡ child_of k w b

-- ---- which place a child of a Node48 has; the other layouts leave no choice

-- the byte's index entry, which is a place plus 1, names no place above a free one; the other bytes keep their entries
pub record TakesPlace (w after : Words) (byte : ℕ) : Type 0 where
  pub lowest : (p : ℕ) → p < 48 → is_used w p ≡ 0 → key_byte after byte ≤ suc p
  pub others : (b : ℕ) → b < 256 → b ≢ byte → key_byte after b ≡ key_byte w b

-- the new child of a byte takes the lowest place that is free
abbrev pub TakesLowest : Layout → Words → Words → ℕ → Type 0
TakesLowest Node4 w after byte = ⊤
TakesLowest Node16 w after byte = ⊤
TakesLowest Node48 w after byte = TakesPlace w after byte
TakesLowest Node256 w after byte = ⊤

-- the children stand at the places from 0 on, in ascending order of their bytes
abbrev pub IsInOrder : Layout → Words → Type 0
IsInOrder Node4 w = ⊤
IsInOrder Node16 w = ⊤
IsInOrder Node48 w = (i : ℕ) (d : Entry) → i < length (entries Node48 w) → key_byte w (get_or (entries Node48 w) i d).byte ≡ suc i
IsInOrder Node256 w = ⊤
