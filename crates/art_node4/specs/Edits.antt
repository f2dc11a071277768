-- What an edit makes of the children, and of the words of their node.
use Rattle.std.specs.Prelude.{ℕ, ◌+◌, ◌-◌, ◌*◌, ◌^◌, ◌<◌, ◌≤◌, List, [], ◌∷◌, length, map, filter_map, nat_lt, ◌==◌, if◌then◌else◌}
use Rattle.std.specs.Int.{w64, from_be_bytes}
use Rattle.std.specs.List.{range_with_len, insert, remove}
use Rattle.art_cell.specs.declared.cells.Body.{Body}
use Rattle.art_cell.specs.declared.cells.Layout.{Layout}
use Rattle.art_cell.specs.declared.node_kinds.Entry.{Entry}
use Rattle.art_cell.specs.declared.cells.Write.{Write}
use Rattle.art_cell.specs.Lemmas.Headers.{with_count}
use Rattle.art_cell.specs.Reads.{IsBodyOf, change_at, word_of}
use Rattle.art_cell.specs.Words.{Words, entries, first_child, places, size}
use Rattle.art_node4.specs.declared.plans.Edit.{Edit}
use Rattle.art_node4.specs.declared.plans.Edit.TheVariants.{Add, Remove}
use Rattle.art_node4.specs.declared.layouts.Sorted.{Sorted}
use Rattle.art_node4.specs.Sorted.{entry_or_none, layout_of}

abbrev pub edited : Edit → List Entry → List Entry
edited (Add position entry) xs = insert xs position entry
edited (Remove position) xs = remove xs position

abbrev pub edit_position : Edit → ℕ
edit_position (Add position entry) = position
edit_position (Remove position) = position

-- the entry's numbers are a byte and a word
pub record Fit (e : Entry) : Type 0 where
  pub byte : e.byte < 2 ^ 8
  pub child : e.child < 2 ^ 64

-- how many positions are in use before it or after it, where so many are before it
abbrev pub most_used : Edit → ℕ → ℕ
most_used (Add position entry) count = count + 1
most_used (Remove position) count = count

-- there is room for one that is added, and one that is removed is there
abbrev pub CanEdit : Layout → Edit → List Entry → Type 0
CanEdit k (Add position entry) xs = (position ≤ length xs) × (length xs < places k) × Fit entry
CanEdit k (Remove position) xs = (position < length xs) × (length xs ≤ places k)

-- the edit can be made of a node's children
pub record IsEdit (s : Sorted) (b : Body) (edit : Edit) : Type 0 where
  pub body : IsBodyOf (layout_of s) b
  pub can : CanEdit (layout_of s) edit (entries (layout_of s) (word_of b))

-- the children after it
abbrev pub children_after : Sorted → Body → Edit → List Entry
children_after s body edit = edited edit (entries (layout_of s) (word_of body))

-- the bytes of eight positions from one on, in a word
abbrev pub key_word : List Entry → ℕ → ℕ
key_word xs from = from_be_bytes w64 (map (λ i. (entry_or_none xs (from + i)).byte) (range_with_len 0 8))

-- the words of the node with these children in place of its own
unfoldable pub rewritten : Layout → Words → List Entry → Words
rewritten k w xs place =
    if place == 1 then with_count (w 1) (length xs)
    else if nat_lt place 10 then w place
    else if nat_lt place (first_child k) then key_word xs ((place - 10) * 8)
    else if nat_lt place (size k) then (entry_or_none xs (place - first_child k)).child
    else w place

abbrev pub words_after : Sorted → Body → Edit → Words
words_after s body edit = rewritten (layout_of s) (word_of body) (children_after s body edit)

-- the word at a place, where it becomes another one
abbrev pub changed : Words → ℕ → ℕ → List Write
changed w place value = if w place == value then [] else record { place = place; value = value } ∷ []

-- the words that differ, after the version and before a place
abbrev pub changes_to : Words → Words → ℕ → List Write
changes_to w after place = filter_map (change_at w after) (range_with_len 1 (place - 1))
