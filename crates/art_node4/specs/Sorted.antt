-- What the functions over sorted bytes say.
use Rattle.std.specs.Prelude.{◌≡◌, ℕ, ◌+◌, ◌-◌, ◌*◌, ◌<◌, ◌≤◌, List, Option, length, slice_index_or, ⊤}
use Rattle.art_cell.specs.declared.cells.Layout.{Layout}
use Rattle.art_cell.specs.declared.cells.Layout.TheVariants.{Node4, Node16}
use Rattle.art_cell.specs.declared.node_kinds.Entry.{Entry}
use Rattle.art_cell.specs.Words.{Words, count_of, key_byte, places, first_child}
use Rattle.art_cell.specs.Reads.{IsUnread, SameOutside}
use Rattle.art_node4.specs.declared.layouts.Sorted.{Sorted}
use Rattle.art_node4.specs.declared.layouts.Sorted.TheVariants.{Four, Sixteen}
use Rattle.art_node4.specs.declared.searches.Search.{Search}
use Rattle.art_node4.specs.declared.searches.Search.TheVariants.{Need, At, Nothing}
use Rattle.art_cell.specs.Lemmas.Headers.{with_count}

-- the layout of so many positions
abbrev pub layout_of : Sorted → Layout
layout_of Four = Node4
layout_of Sixteen = Node16

-- a word that a search needs is one of the cell that was not read, and a position that it found is one of the node
abbrev pub SearchNeeds : Layout → List (Option ℕ) → Search → Type 0
SearchNeeds k reads (Need place) = IsUnread k reads place
SearchNeeds k reads (At index byte) = index < places k
SearchNeeds k reads Nothing = ⊤

-- the bytes of the first positions are below a byte
abbrev pub BelowAll : Words → ℕ → ℕ → Type 0
BelowAll w count byte = (i : ℕ) → i < count → key_byte w i < byte

-- the position is the first one in use whose byte is at a byte or above
pub record IsFirstFrom (w : Words) (byte index found : ℕ) : Type 0 where
  pub used : index < count_of w
  pub here : found ≡ key_byte w index
  pub above : byte ≤ found
  pub before : BelowAll w index byte

-- what a search tells of the first byte at a byte or above, where no more positions are in use than there are
abbrev pub SearchTells : Words → ℕ → Search → Type 0
SearchTells w byte (Need place) = ⊤
SearchTells w byte (At index found) = IsFirstFrom w byte index found
SearchTells w byte Nothing = BelowAll w (count_of w) byte

-- no byte and no child, as stands at a position that is not in use
abbrev pub no_entry : Entry
no_entry = record { byte = 0; child = 0 }

abbrev pub entry_or_none : List Entry → ℕ → Entry
entry_or_none xs i = slice_index_or xs i no_entry

-- where a byte stands, or would stand, among entries in ascending order of their bytes
pub record IsPosition (xs : List Entry) (byte index : ℕ) : Type 0 where
  pub within : index ≤ length xs
  pub before : (i : ℕ) → i < index → (entry_or_none xs i).byte < byte
  pub above : index < length xs → byte ≤ (entry_or_none xs index).byte

-- the words after the entries were written, with 0 for each byte and child after them: nothing else changed
pub record Holds (k : Layout) (w : Words) (xs : List Entry) (after : Words) : Type 0 where
  pub header : after 1 ≡ with_count (w 1) (length xs)
  pub keys : (i : ℕ) → i < 8 * (first_child k - 10) → key_byte after i ≡ (entry_or_none xs i).byte
  pub children : (i : ℕ) → i < places k → after (first_child k + i) ≡ (entry_or_none xs i).child
  pub prefix : (p : ℕ) → 2 ≤ p → p < 10 → after p ≡ w p
  pub outside : SameOutside k w after
