-- A word of key bytes after an edit, by the word before it.
use Rattle.std.proofs.Common.{◌≡◌, ℕ, ◌+◌, ◌-◌, ◌*◌, ◌/◌, ◌%◌, ◌^◌, ◌<◌, ◌≤◌, List, length, sym, ap, subst, ◌∙◌, inl, inr, arith}
use Rattle.std.specs.List.{insert, remove}
use Rattle.std.proofs.lemmas.Bool.{cases_eq, cases_lt}
use Rattle.std.proofs.lemmas.List.Edits.{get_or-insert_above, get_or-remove_above}
use Rattle.art_cell.specs.Bodies.{IsBody}
use Rattle.art_cell.specs.declared.node_kinds.Entry.{Entry}
use Rattle.art_cell.specs.Lemmas.Packed.{from_be_bytes_below, packed_is, same_word}
use Rattle.art_cell.specs.Words.{Words, byte_of, entries, first_child}
use Rattle.art_node4.specs.declared.plans.Edit.{Edit}
use Rattle.art_node4.specs.declared.plans.Edit.TheVariants.{Add, Remove}
use Rattle.art_node4.specs.declared.layouts.Sorted.{Sorted}
use Rattle.art_node4.specs.Edits.{CanEdit, edit_position, edited, key_word}
use Rattle.art_node4.specs.Sorted.{entry_or_none, layout_of, no_entry}
use Rattle.art_node4.proofs.Edited.{byte_of_key, eight_keys, same_before, then_fit}
use Rattle.art_node4.proofs.NodeWords.{holds_body}

-- the word with a byte at a place, and those from there on one place further
pub record IsPutIn (word at byte result : ℕ) : Type 0 where
  pub before : (i : ℕ) → i < at → byte_of result i ≡ byte_of word i
  pub here : byte_of result at ≡ byte
  pub behind : (i : ℕ) → at < i → i < 8 → byte_of result i ≡ byte_of word (i - 1)

-- the word without the byte at a place, and those behind it one place nearer
pub record IsTakenOut (word at next result : ℕ) : Type 0 where
  pub before : (i : ℕ) → i < at → byte_of result i ≡ byte_of word i
  pub behind : (i : ℕ) → at ≤ i → i < 7 → byte_of result i ≡ byte_of word (i + 1)
  pub last : byte_of result 7 ≡ next

module _ (s : Sorted) (w : Words) (edit : Edit) where
  abbrev xs : List Entry
  xs = entries (layout_of s) w

  module _ (body : IsBody (layout_of s) w) (can : CanEdit (layout_of s) edit (entries (layout_of s) w)) (place : ℕ) (low : 10 ≤ place) (high : place < first_child (layout_of s)) where
    abbrev from : ℕ
    from = (place - 10) * 8

    -- byte i of the word before
    key_here : (i : ℕ) → i < 8 → byte_of (w place) i ≡ (entry_or_none (entries (layout_of s) w) ((place - 10) * 8 + i)).byte
    key_here i few =
        let at : 10 + (from + i) / 8 ≡ place = omega arith in
        let bit : i ≡ (from + i) % 8 = omega arith in
        ap (byte_of (w place)) bit ∙ sym (packed_is w 10 (from + i) (w place) (ap w (sym at))) ∙ (holds_body s w body).keys (from + i) (omega arith)

    -- a byte before the edit's position stays
    key_stays : (i : ℕ) → i < 8 → from + i < edit_position edit → byte_of (w place) i ≡ (entry_or_none (edited edit xs) (from + i)).byte
    key_stays i few before = key_here i few ∙ sym (ap (λ (e : Entry). e.byte) (same_before (layout_of s) xs edit (from + i) can before))

    -- the word of the bytes after the edit
    by_bytes : (result : ℕ) → result < 2 ^ 64 → ((i : ℕ) → i < 8 → byte_of result i ≡ (entry_or_none (edited edit xs) (from + i)).byte) → result ≡ key_word (edited edit xs) from
    by_bytes result fits bytes =
        let all = then_fit s w edit body can in
        same_word result (key_word (edited edit xs) from) fits (from_be_bytes_below _ (eight_keys (edited edit xs) from all)) (λ i few. bytes i few ∙ sym (byte_of_key (edited edit xs) from i all few))

    module _ (at : ℕ) (is_at : at ≡ edit_position edit - (place - 10) * 8) (result : ℕ) (fits : result < 2 ^ 64) where
      keys_added : (position : ℕ) (entry : Entry) → edit ≡ Add position entry → IsPutIn (w place) at (entry_or_none (edited edit xs) (from + at)).byte result → result ≡ key_word (edited edit xs) from
      keys_added position entry is put = by_bytes result fits bytes
        where
          with_entry : List Entry
          with_entry = insert xs position entry

          same : edited edit xs ≡ with_entry
          same = ap (λ (e : Edit). edited e xs) is

          at_position : edit_position edit ≡ position
          at_position = ap edit_position is

          room : position ≤ length xs
          room = (subst (λ (e : Edit). CanEdit (layout_of s) e xs) is can).0

          bytes : (i : ℕ) → i < 8 → byte_of result i ≡ (entry_or_none (edited edit xs) (from + i)).byte
          bytes i few =
              elim (cases_lt i at) [
                | inl before ↦ put.before i before ∙ key_stays i few (omega arith)
                | inr reached ↦ elim (cases_eq i at) [
                  | inl here ↦ ap (byte_of result) here ∙ put.here ∙ ap (λ (n : ℕ). (entry_or_none (edited edit xs) (from + n)).byte) (sym here)
                  | inr other ↦
                      let behind : at < i = omega arith in
                      let past : position ≤ from + (i - 1) = omega (arith, at_position, is_at) in
                      let next : from + (i - 1) + 1 ≡ from + i = omega arith in
                      put.behind i behind few
                      ∙ key_here (i - 1) (omega arith)
                      ∙ ap (λ (e : Entry). e.byte) (sym (get_or-insert_above xs position entry no_entry (from + (i - 1)) past room) ∙ ap (entry_or_none with_entry) next ∙ ap (λ (ys : List Entry). entry_or_none ys (from + i)) (sym same))
                ]
              ]

      keys_removed : (position : ℕ) → edit ≡ Remove position → IsTakenOut (w place) at (entry_or_none (edited edit xs) (from + 7)).byte result → result ≡ key_word (edited edit xs) from
      keys_removed position is taken = by_bytes result fits bytes
        where
          without_entry : List Entry
          without_entry = remove xs position

          same : edited edit xs ≡ without_entry
          same = ap (λ (e : Edit). edited e xs) is

          at_position : edit_position edit ≡ position
          at_position = ap edit_position is

          there : position < length xs
          there = (subst (λ (e : Edit). CanEdit (layout_of s) e xs) is can).0

          bytes : (i : ℕ) → i < 8 → byte_of result i ≡ (entry_or_none (edited edit xs) (from + i)).byte
          bytes i few =
              elim (cases_lt i at) [
                | inl before ↦ taken.before i before ∙ key_stays i few (omega arith)
                | inr reached ↦ elim (cases_lt i 7) [
                  | inl inside ↦
                      let past : position ≤ from + i = omega (arith, at_position, is_at) in
                      let next : from + (i + 1) ≡ from + i + 1 = omega arith in
                      taken.behind i reached inside
                      ∙ key_here (i + 1) (omega arith)
                      ∙ ap (λ (e : Entry). e.byte) (ap (entry_or_none xs) next ∙ sym (get_or-remove_above xs position no_entry (from + i) past there) ∙ ap (λ (ys : List Entry). entry_or_none ys (from + i)) (sym same))
                  | inr end ↦
                      let last : i ≡ 7 = omega arith in
                      ap (byte_of result) last ∙ taken.last ∙ ap (λ (n : ℕ). (entry_or_none (edited edit xs) (from + n)).byte) (sym last)
                ]
              ]

-- ---- as the function cites them

pub added_keys : (s : Sorted) (w : Words) (edit : Edit) (position : ℕ) (entry : Entry) → edit ≡ Add position entry → IsBody (layout_of s) w → CanEdit (layout_of s) edit (entries (layout_of s) w)
    → (place : ℕ) → 10 ≤ place → place < first_child (layout_of s) → (at : ℕ) → at ≡ edit_position edit - (place - 10) * 8 → (result : ℕ) → result < 2 ^ 64 → (byte : ℕ)
    → IsPutIn (w place) at byte result → byte ≡ (entry_or_none (edited edit (entries (layout_of s) w)) ((place - 10) * 8 + at)).byte
    → result ≡ key_word (edited edit (entries (layout_of s) w)) ((place - 10) * 8)
added_keys s w edit position entry is body can place low high at is_at result fits byte put same =
    keys_added s w edit body can place low high at is_at result fits position entry is (subst (λ (b : ℕ). IsPutIn (w place) at b result) same put)

pub removed_keys : (s : Sorted) (w : Words) (edit : Edit) (position : ℕ) → edit ≡ Remove position → IsBody (layout_of s) w → CanEdit (layout_of s) edit (entries (layout_of s) w)
    → (place : ℕ) → 10 ≤ place → place < first_child (layout_of s) → (at : ℕ) → at ≡ edit_position edit - (place - 10) * 8 → (result : ℕ) → result < 2 ^ 64 → (next : ℕ)
    → IsTakenOut (w place) at next result → next ≡ (entry_or_none (edited edit (entries (layout_of s) w)) ((place - 10) * 8 + 7)).byte
    → result ≡ key_word (edited edit (entries (layout_of s) w)) ((place - 10) * 8)
removed_keys s w edit position is body can place low high at is_at result fits next taken same =
    keys_removed s w edit body can place low high at is_at result fits position is (subst (λ (b : ℕ). IsTakenOut (w place) at b result) same taken)
