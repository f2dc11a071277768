-- The words of a node, and what they mean: a prefix, and a finite map from byte to child.
use Rattle.std.specs.Prelude.{ℕ, ◌+◌, ◌-◌, ◌/◌, ◌%◌, ◌^◌, List, map, find, filter_map, get_or, ◌==◌, if◌then◌else◌, Option, Some, None}
use Rattle.std.specs.Option.{option_map, option_and_then}
use Rattle.std.specs.List.{range_with_len}
use Rattle.art_cell.specs.declared.cells.Layout.{Layout}
use Rattle.art_cell.specs.declared.cells.Layout.TheVariants.{Node4, Node16, Node48, Node256}
use Rattle.art_cell.specs.declared.node_kinds.Entry.{Entry}

-- the words of a cell, by their places
abbrev pub Words : Type 0
Words = ℕ → ℕ

-- how many words a cell has: version, header, eight words of prefix, and then the key bytes or the index, and the children
abbrev pub size : Layout → ℕ
size Node4 = 15
size Node16 = 28
size Node48 = 90
size Node256 = 266

-- how many children a node has at most
abbrev pub places : Layout → ℕ
places Node4 = 4
places Node16 = 16
places Node48 = 48
places Node256 = 256

-- the place of the first child
abbrev pub first_child : Layout → ℕ
first_child Node4 = 11
first_child Node16 = 12
first_child Node48 = 42
first_child Node256 = 10

-- ---- the header, at place 1

-- bits 0 to 8: how many children there are
abbrev pub count_of : Words → ℕ
count_of w = w 1 % 512

-- bits 9 to 15: how many bytes the prefix has
abbrev pub prefix_len : Words → ℕ
prefix_len w = w 1 / 512 % 128

-- bits 16 to 63, for a Node48: which of its places are in use
abbrev pub is_used : Words → ℕ → ℕ
is_used w place = w 1 / 2 ^ (16 + place) % 2

-- ---- bytes, eight a word, the first in the highest byte

abbrev pub byte_of : ℕ → ℕ → ℕ
byte_of word i = word / 256 ^ (7 - i) % 256

-- byte i of those that are packed from a place on
unfoldable pub packed : Words → ℕ → ℕ → ℕ
packed w from i = byte_of (w (from + i / 8)) (i % 8)

-- the prefix, packed from place 2 on
abbrev pub prefix_of : Words → List ℕ
prefix_of w = map (packed w 2) (range_with_len 0 (prefix_len w))

-- key byte i of a node with sorted bytes, or the index entry of byte i
abbrev pub key_byte : Words → ℕ → ℕ
key_byte w i = packed w 10 i

-- ---- children

-- a child word of 0 names none
abbrev pub nonzero : ℕ → Option ℕ
nonzero c = if c == 0 then None else Some c

-- the child at the first position whose byte it is
abbrev pub sorted_child : ℕ → Words → ℕ → Option ℕ
sorted_child first w b = option_and_then (λ i. nonzero (w (first + i))) (find (λ i. key_byte w i == b) (range_with_len 0 (count_of w)))

-- the child at the place that the index names, which is the entry less 1
abbrev pub indexed_child : Words → ℕ → Option ℕ
indexed_child w b = if key_byte w b == 0 then None else nonzero (w (41 + key_byte w b))

-- the child of a byte, as a child word
abbrev pub child_of : Layout → Words → ℕ → Option ℕ
child_of Node4 w b = sorted_child 11 w b
child_of Node16 w b = sorted_child 12 w b
child_of Node48 w b = indexed_child w b
child_of Node256 w b = nonzero (w (10 + b))

abbrev pub entry_at : (ℕ → Option ℕ) → ℕ → Option Entry
entry_at child b = option_map (λ c. record { byte = b; child = c }) (child b)

-- the children of so many bytes from one on, in ascending order of their bytes
abbrev pub listed : (ℕ → Option ℕ) → ℕ → ℕ → List Entry
listed child from count = filter_map (entry_at child) (range_with_len from count)

-- the children, in ascending order of their bytes
abbrev pub entries : Layout → Words → List Entry
entries k w = listed (child_of k w) 0 256

-- the entry at an index, and after the last one an entry of zeros
abbrev pub nth_entry : List Entry → ℕ → Entry
nth_entry es i = get_or es i (record { byte = 0; child = 0 })
