-- Words that are the same after the version mean the same.
use Rattle.std.proofs.Common.{◌≡◌, ℕ, ◌+◌, ◌/◌, ◌%◌, ◌<◌, cond, ltb, eqb, [], None, map, find, ap, ◌∙◌, arith}
use Rattle.std.specs.List.{range_with_len}
use Rattle.std.specs.Option.{option_and_then}
use Rattle.art_cell.specs.declared.cells.Layout.{Layout}
use Rattle.art_cell.specs.declared.cells.Layout.TheVariants.{Node4, Node16, Node48, Node256}
use Rattle.art_cell.specs.declared.cells.Cell.{Cell}
use Rattle.art_cell.specs.declared.cells.Cell.TheVariants as cell
use Rattle.art_cell.specs.Children.{link_of}
use Rattle.art_tree.specs.Heaps.{MeansTheSame}
use Rattle.art_cell.specs.Lemmas.Packed.{packed_same}
use Rattle.art_tree.specs.WordChanges.{SameBody}
use Rattle.art_cell.specs.Words.{Words, count_of, prefix_len, packed, key_byte, nonzero, sorted_child, indexed_child, child_of}

abbrev SameAfterVersion : Words → Words → Type 0
SameAfterVersion w after = (place : ℕ) → 0 < place → after place ≡ w place

same_packed : (w after : Words) (from : ℕ) → 0 < from → SameAfterVersion w after → packed after from ≡ packed w from
same_packed w after from low same = λ j i. packed_same w after from i (same (from + i / 8) (omega arith)) j

-- a text of so many bytes, which is none where they are over 64
same_text : (w after : Words) (m n : ℕ) → m ≡ n → SameAfterVersion w after
    → cond (ltb 64 m) [] (map (packed after 2) (range_with_len 0 m)) ≡ cond (ltb 64 n) [] (map (packed w 2) (range_with_len 0 n))
same_text w after m n len same = let bytes = same_packed w after 2 (omega arith) same in λ j. cond (ltb 64 (len j)) [] (map (bytes j) (range_with_len 0 (len j)))

same_sorted : (first : ℕ) (w after : Words) (b : ℕ) → 0 < first → SameAfterVersion w after → sorted_child first after b ≡ sorted_child first w b
same_sorted first w after b low same =
    let keys : packed after 10 ≡ packed w 10 = same_packed w after 10 (omega arith) same in
    let count : count_of after ≡ count_of w = ap (λ h. h % 512) (same 1 (omega arith)) in
    let child : (i : ℕ) → after (first + i) ≡ w (first + i) = λ i. same (first + i) (omega arith) in
    λ j. option_and_then (λ i. nonzero (child i j)) (find (λ i. eqb (keys j i) b) (range_with_len 0 (count j)))

same_indexed : (w after : Words) (b : ℕ) → SameAfterVersion w after → indexed_child after b ≡ indexed_child w b
same_indexed w after b same =
    let key : key_byte after b ≡ key_byte w b = λ j. same_packed w after 10 (omega arith) same j b in
    ap (λ k. cond (eqb k 0) None (nonzero (after (41 + k)))) key ∙ ap (λ c. cond (eqb (key_byte w b) 0) None (nonzero c)) (same (41 + key_byte w b) (omega arith))

same_child : (k : Layout) (w after : Words) (b : ℕ) → SameAfterVersion w after → child_of k after b ≡ child_of k w b
same_child Node4 w after b same = same_sorted 11 w after b (omega arith) same
same_child Node16 w after b same = same_sorted 12 w after b (omega arith) same
same_child Node48 w after b same = same_indexed w after b same
same_child Node256 w after b same = ap nonzero (same (10 + b) (omega arith))

-- such words mean the same
pub same_meaning : (c : Cell) (w after : Words) → SameBody c w after → MeansTheSame c w after
same_meaning cell.Anchor w after same = ap link_of (same 1 (omega arith))
same_meaning (cell.Leaf l) w after same = (same_text w after (after 1) (w 1) (same 1) (λ place _. same place), same 0)
same_meaning (cell.Node n) w after same = (
  same_text w after (prefix_len after) (prefix_len w) (ap (λ h. h / 512 % 128) (same 1 (omega arith))) same,
  λ b. ap (λ o. cond (ltb b 256) (option_and_then link_of o) None) (same_child n.layout w after b same),
)
