-- How many words of a node differ, where its children were written.
use Rattle.std.proofs.Common.{◌≡◌, ℕ, ◌<◌, ◌≤◌, List, length, get_or, set, refl, sym, arith, get_or-set_other}
use Rattle.art_cell.specs.declared.node_kinds.Entry.{Entry}
use Rattle.art_cell.specs.declared.cells.Layout.TheVariants.{Node4, Node16}
use Rattle.art_cell.specs.Lemmas.Differing.{after_prefix, differing_most, one_differs}
use Rattle.art_cell.specs.Reads.{changes, most_writes}
use Rattle.art_cell.specs.Words.{Words}
use Rattle.art_node4.specs.declared.layouts.Sorted.{Sorted}
use Rattle.art_node4.specs.declared.layouts.Sorted.TheVariants.{Four, Sixteen}
use Rattle.art_node4.specs.Sorted.{Holds, layout_of}

-- the prefix stays, so only the header, the key bytes and the children may differ
keeps_prefix : (s : Sorted) (w after : Words) → ((p : ℕ) → 2 ≤ p → p < 10 → w p ≡ after p) → length (changes (layout_of s) w after) ≤ most_writes
keeps_prefix Four w after same =
    let all = after_prefix w after Node4 1 4 refl same in
    let keys = differing_most w after 10 1 in
    let children = differing_most w after 11 4 in
    omega arith
keeps_prefix Sixteen w after same =
    let all = after_prefix w after Node16 2 16 refl same in
    let keys = differing_most w after 10 2 in
    let children = differing_most w after 12 16 in
    omega arith

-- all entries were written
pub few_held : (s : Sorted) (w after : Words) (xs : List Entry) → Holds (layout_of s) w xs after → length (changes (layout_of s) w after) ≤ most_writes
few_held s w after xs holds = keeps_prefix s w after (λ p low high. sym (holds.prefix p low high))

-- one word was written
pub one_set : (s : Sorted) (words : List ℕ) (place c : ℕ) → length (changes (layout_of s) (λ p. get_or words p 0) (λ p. get_or (set words place c) p 0)) ≤ 1
one_set s words place c =
    one_differs (λ p. get_or words p 0) (λ p. get_or (set words place c) p 0) (layout_of s) place (λ p some within apart. sym (get_or-set_other words place p c 0 apart))
