-- What a pass has read of a cell, what it is told, and what it writes.
use Rattle.std.specs.Prelude.{◌≡◌, ℕ, ◌+◌, ◌-◌, ◌<◌, ◌≤◌, List, [], ◌∷◌, length, get_or, filter_map, ◌==◌, if◌then◌else◌, Option, Some, None, ⊤}
use Rattle.std.specs.List.{range_with_len}
use Rattle.art_cell.specs.declared.cells.Layout.{Layout}
use Rattle.art_cell.specs.declared.cells.Body.{Body}
use Rattle.art_cell.specs.declared.node_kinds.Entry.{Entry}
use Rattle.art_cell.specs.declared.node_kinds.Probe.{Probe}
use Rattle.art_cell.specs.declared.node_kinds.Probe.TheVariants as probe
use Rattle.art_cell.specs.declared.node_kinds.NextProbe.{NextProbe}
use Rattle.art_cell.specs.declared.node_kinds.NextProbe.TheVariants as next
use Rattle.art_cell.specs.declared.cells.Write.{Write}
use Rattle.art_cell.specs.Words.{Words, size}
use Rattle.art_cell.specs.Bodies.{IsBody, Becomes}

-- ---- reads

-- the word that was read at a place, if it was
abbrev pub word_read : List (Option ℕ) → ℕ → Option ℕ
word_read reads place = get_or reads place None

-- the words at the places from one on are these, and all others are as they were
pub record AreNoted (from : ℕ) (words : List ℕ) (old new : List (Option ℕ)) : Type 0 where
  pub room : length new ≡ length old
  pub here : (i : ℕ) → i < length words → word_read new (from + i) ≡ Some (get_or words i 0)
  pub below : (place : ℕ) → place < from → word_read new place ≡ word_read old place
  pub above : (place : ℕ) → from + length words ≤ place → word_read new place ≡ word_read old place

-- each word that was read is the word of these
abbrev pub Agrees : List (Option ℕ) → Words → Type 0
Agrees reads w = (place value : ℕ) → word_read reads place ≡ Some value → w place ≡ value

-- a word of the cell, after its version, that was not read
abbrev pub IsUnread : Layout → List (Option ℕ) → ℕ → Type 0
IsUnread k reads place = (0 < place) × (place < size k) × (word_read reads place ≡ None)

-- a word of the cell, after its version, that was read
abbrev pub WasRead : Layout → List (Option ℕ) → ℕ → Type 0
WasRead k reads word = (place : ℕ) × (0 < place) × (place < size k) × (word_read reads place ≡ Some word)

-- ---- probes

-- a word that is needed is one of the cell that was not read, and a child that is told is one that was, and is not 0
abbrev pub ProbeNeeds : Layout → List (Option ℕ) → Probe → Type 0
ProbeNeeds k reads (probe.Need place) = IsUnread k reads place
ProbeNeeds k reads (probe.Child child) = (0 < child) × WasRead k reads child
ProbeNeeds k reads probe.None = ⊤

-- what a probe tells of a byte's child
abbrev pub ProbeTells : Option ℕ → Probe → Type 0
ProbeTells child (probe.Need place) = ⊤
ProbeTells child (probe.Child c) = child ≡ Some c
ProbeTells child probe.None = child ≡ None

abbrev pub NextNeeds : Layout → List (Option ℕ) → NextProbe → Type 0
NextNeeds k reads (next.Need place) = IsUnread k reads place
NextNeeds k reads (next.Entry entry) = WasRead k reads entry.child
NextNeeds k reads next.None = ⊤

-- no byte from low on, before high, has a child
abbrev pub NoneFrom : (ℕ → Option ℕ) → ℕ → ℕ → Type 0
NoneFrom child low high = (b : ℕ) → low ≤ b → b < high → child b ≡ None

-- the entry is the least one at a byte or above
pub record IsLeastFrom (child : ℕ → Option ℕ) (low : ℕ) (entry : Entry) : Type 0 where
  pub above : low ≤ entry.byte
  pub here : child entry.byte ≡ Some entry.child
  pub least : NoneFrom child low entry.byte

-- what a probe tells of the least entry at a byte or above
abbrev pub NextTells : (ℕ → Option ℕ) → ℕ → NextProbe → Type 0
NextTells child low (next.Need place) = ⊤
NextTells child low (next.Entry entry) = IsLeastFrom child low entry
NextTells child low next.None = NoneFrom child low 256

-- ---- bodies and writes

-- the words of a body
abbrev pub word_of : Body → Words
word_of body place = get_or body.words place 0

-- a body of the layout
pub record IsBodyOf (k : Layout) (body : Body) : Type 0 where
  pub layout : body.layout ≡ k
  pub meaning : IsBody k (word_of body)

-- only words after the version, within the cell, differ
abbrev pub SameOutside : Layout → Words → Words → Type 0
SameOutside k w after = (w 0 ≡ after 0) × ((place : ℕ) → size k ≤ place → w place ≡ after place)

-- the words after writes, each place once
abbrev pub written : Words → List Write → Words
written w [] place = w place
written w (x ∷ xs) place = if x.place == place then x.value else written w xs place

abbrev pub change_at : Words → Words → ℕ → Option Write
change_at w after place = if w place == after place then None else Some (record { place = place; value = after place })

-- each word after the version that differs, in ascending place
abbrev pub changes : Layout → Words → Words → List Write
changes k w after = filter_map (change_at w after) (range_with_len 1 (size k - 1))

-- how many words a child that comes or goes changes at most: the header, and all words of key bytes and of children of a Node16
abbrev pub most_writes : ℕ
most_writes = 19

-- how many words another prefix changes at most: the header, and all words of the prefix
abbrev pub most_prefix_writes : ℕ
most_prefix_writes = 9

-- a map with one more entry, or one less
abbrev pub with_child : (ℕ → Option ℕ) → ℕ → ℕ → ℕ → Option ℕ
with_child child byte c b = if b == byte then Some c else child b

abbrev pub without_child : (ℕ → Option ℕ) → ℕ → ℕ → Option ℕ
without_child child byte b = if b == byte then None else child b

-- the writes make this map of the words: those that differ and no others, in ascending place
pub record IsPlan (k : Layout) (w : Words) (writes : List Write) (child : ℕ → Option ℕ) : Type 0 where
  pub becomes : Becomes k w (written w writes) child
  pub exact : writes ≡ changes k w (written w writes)
  pub outside : SameOutside k w (written w writes)
