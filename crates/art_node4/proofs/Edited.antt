-- The words of a node after one child more, or one less.
use Rattle.std.proofs.Common.{◌≡◌, ◌≢◌, ℕ, zero, suc, ◌+◌, ◌-◌, ◌*◌, ◌/◌, ◌%◌, ◌^◌, ◌<◌, ◌≤◌, Bool, true, false, cond, eqb, List, [], ◌∷◌, ◌++◌, length, get_or, map, refl, sym, ap, subst, ◌∙◌, inl, inr, arith, ne_eqb, append-nil}
use Rattle.std.specs.List.{range_with_len, cons_option, insert, remove}
use Rattle.std.specs.Prelude.{Option, None, Some}
use Rattle.std.proofs.lemmas.Bool.{cases_eq, cases_lt, lt-ltb, le-ltb}
use Rattle.std.proofs.lemmas.List.{get_or_past}
use Rattle.std.proofs.lemmas.List.Edits.{get_or-insert_at, get_or-insert_below, get_or-insert_above, get_or-remove_below, get_or-remove_above, length-insert, length-remove}
use Rattle.std.proofs.lemmas.List.FromFn.{get_or-map-range_with_len}
use Rattle.art_cell.proofs.ChangedWords.{goes_on, no_change_where}
use Rattle.art_cell.specs.Bodies.{IsBody}
use Rattle.art_cell.specs.declared.cells.Layout.{Layout}
use Rattle.art_cell.specs.declared.node_kinds.Entry.{Entry}
use Rattle.art_cell.specs.declared.cells.Write.{Write}
use Rattle.art_cell.specs.Lemmas.Differing.{differing_most}
use Rattle.art_cell.specs.Lemmas.Headers.{with_count, with_count_below}
use Rattle.art_cell.specs.Lemmas.Packed.{IsEight, byte_of-from_be_bytes, from_be_bytes_below, packed_below, packed_is, same_word}
use Rattle.art_cell.specs.Reads.{SameOutside}
use Rattle.art_cell.specs.Words.{Words, byte_of, count_of, entries, first_child, key_byte, places, size}
use Rattle.art_node4.specs.declared.plans.Edit.{Edit}
use Rattle.art_node4.specs.declared.plans.Edit.TheVariants.{Add, Remove}
use Rattle.art_node4.specs.declared.layouts.Sorted.{Sorted}
use Rattle.art_node4.specs.declared.layouts.Sorted.TheVariants.{Four, Sixteen}
use Rattle.art_node4.specs.Edits.{CanEdit, Fit, changed, changes_to, edit_position, edited, key_word, most_used, rewritten}
use Rattle.art_node4.specs.Sorted.{Holds, entry_or_none, layout_of, no_entry}
use Rattle.art_node4.proofs.NodeWords.{entry_unused, entry_used, fits, form_is, holds_body}

-- ---- the entries

abbrev pub AllFit : List Entry → Type 0
AllFit xs = (i : ℕ) → Fit (entry_or_none xs i)

pub entries_fit : (s : Sorted) (w : Words) → IsBody (layout_of s) w → AllFit (entries (layout_of s) w)
entries_fit s w body i =
    elim (cases_lt i (count_of w)) [
      | inl used ↦
          let here = entry_used s w i body used in
          record {
            byte = subst (λ (e : Entry). e.byte < 2 ^ 8) (sym here) (packed_below w 10 i);
            child = subst (λ (e : Entry). e.child < 2 ^ 64) (sym here) (body.words (first_child (layout_of s) + i));
          }
      | inr past ↦ subst Fit (sym (entry_unused s w i body past)) (record { byte = omega arith; child = omega arith })
    ]

pub edited_fit : (k : Layout) (xs : List Entry) (edit : Edit) → CanEdit k edit xs → AllFit xs → AllFit (edited edit xs)
edited_fit k xs (Add position entry) can all i =
    elim (cases_lt i position) [
      | inl before ↦ subst Fit (sym (get_or-insert_below xs position entry no_entry i before can.0)) (all i)
      | inr from ↦ elim (cases_eq i position) [
        | inl here ↦ subst (λ (n : ℕ). Fit (entry_or_none (insert xs position entry) n)) (sym here) (subst Fit (sym (get_or-insert_at xs position entry no_entry can.0)) can.2)
        | inr other ↦
            let next : i - 1 + 1 ≡ i = omega arith in
            subst (λ (n : ℕ). Fit (entry_or_none (insert xs position entry) n)) next (subst Fit (sym (get_or-insert_above xs position entry no_entry (i - 1) (omega arith) can.0)) (all (i - 1)))
      ]
    ]
edited_fit k xs (Remove position) can all i =
    elim (cases_lt i position) [
      | inl before ↦ subst Fit (sym (get_or-remove_below xs position no_entry i before can.0)) (all i)
      | inr from ↦ subst Fit (sym (get_or-remove_above xs position no_entry i from can.0)) (all (i + 1))
    ]

-- what stands before its position stays
pub same_before : (k : Layout) (xs : List Entry) (edit : Edit) (i : ℕ) → CanEdit k edit xs → i < edit_position edit → entry_or_none (edited edit xs) i ≡ entry_or_none xs i
same_before k xs (Add position entry) i can before = get_or-insert_below xs position entry no_entry i before can.0
same_before k xs (Remove position) i can before = get_or-remove_below xs position no_entry i before can.0

pub position_within : (k : Layout) (xs : List Entry) (edit : Edit) → CanEdit k edit xs → edit_position edit < places k
position_within k xs (Add position entry) can = omega (arith, can.0, can.1)
position_within k xs (Remove position) can = omega (arith, can.0, can.1)

-- ---- words that are written again

pub eight_keys : (xs : List Entry) (from : ℕ) → AllFit xs → IsEight (map (λ i. (entry_or_none xs (from + i)).byte) (range_with_len 0 8))
eight_keys xs from all = record { eight = refl; small = small }
  where
    small : (i : ℕ) → get_or (map (λ j. (entry_or_none xs (from + j)).byte) (range_with_len 0 8)) i 0 < 256
    small i =
        elim (cases_lt i 8) [
          | inl low ↦ rw (get_or-map-range_with_len (λ j. (entry_or_none xs (from + j)).byte) 0 8 i i 0 low (omega arith)) (all (from + i)).byte
          | inr past ↦ rw (get_or_past (map (λ j. (entry_or_none xs (from + j)).byte) (range_with_len 0 8)) i 0 past) (omega arith)
        ]

-- byte i of the word of eight positions
pub byte_of_key : (xs : List Entry) (from i : ℕ) → AllFit xs → i < 8 → byte_of (key_word xs from) i ≡ (entry_or_none xs (from + i)).byte
byte_of_key xs from i all low =
    byte_of-from_be_bytes (map (λ j. (entry_or_none xs (from + j)).byte) (range_with_len 0 8)) i (eight_keys xs from all) low
    ∙ get_or-map-range_with_len (λ j. (entry_or_none xs (from + j)).byte) 0 8 i i 0 low (omega arith)

module _ (s : Sorted) (w : Words) (xs : List Entry) where
  abbrev then_words : Words
  then_words = rewritten (layout_of s) w xs

  at_header : then_words 1 ≡ with_count (w 1) (length xs)
  unfolding rewritten
  at_header = refl

  pub at_prefix : (p : ℕ) → p ≢ 1 → p < 10 → then_words p ≡ w p
  unfolding rewritten
  at_prefix p other low = rw (ne_eqb p 1 other, lt-ltb p 10 low) refl

  pub at_keys : (p : ℕ) → 10 ≤ p → p < first_child (layout_of s) → then_words p ≡ key_word xs ((p - 10) * 8)
  unfolding rewritten
  at_keys p low high = rw (ne_eqb p 1 (λ e. omega arith), le-ltb p 10 low, lt-ltb p (first_child (layout_of s)) high) refl

  pub at_children : (p : ℕ) → first_child (layout_of s) ≤ p → p < size (layout_of s) → then_words p ≡ (entry_or_none xs (p - first_child (layout_of s))).child
  unfolding rewritten
  at_children p low high =
      let past : 11 ≤ first_child (layout_of s) = (fits s).low in
      rw (ne_eqb p 1 (λ e. omega arith), le-ltb p 10 (omega arith), le-ltb p (first_child (layout_of s)) low, lt-ltb p (size (layout_of s)) high) refl

  pub at_others : (p : ℕ) → size (layout_of s) ≤ p → then_words p ≡ w p
  unfolding rewritten
  at_others p past =
      let low : 11 ≤ first_child (layout_of s) = (fits s).low in
      let last : first_child (layout_of s) + places (layout_of s) ≡ size (layout_of s) = (fits s).last in
      rw (ne_eqb p 1 (λ e. omega arith), le-ltb p 10 (omega arith), le-ltb p (first_child (layout_of s)) (omega arith), le-ltb p (size (layout_of s)) past) refl

  pub outside_rewritten : SameOutside (layout_of s) w then_words
  outside_rewritten = (sym (at_prefix 0 (λ e. omega arith) (omega arith)), λ p past. sym (at_others p past))

  module _ (all : AllFit xs) where
    pub holds_rewritten : Holds (layout_of s) w xs then_words
    holds_rewritten = record {
      header = at_header;
      keys = keys;
      children = children;
      prefix = λ p low high. at_prefix p (λ e. omega arith) high;
      outside = outside_rewritten;
    }
      where
        keys : (i : ℕ) → i < 8 * (first_child (layout_of s) - 10) → key_byte then_words i ≡ (entry_or_none xs i).byte
        keys i low =
            let within = (fits s).after_keys i low in
            packed_is then_words 10 i (key_word xs ((10 + i / 8 - 10) * 8)) (sym (at_keys (10 + i / 8) (omega arith) within))
            ∙ byte_of_key xs ((10 + i / 8 - 10) * 8) (i % 8) all (omega arith)
            ∙ ap (λ (n : ℕ). (entry_or_none xs n).byte) (omega arith)

        children : (i : ℕ) → i < places (layout_of s) → then_words (first_child (layout_of s) + i) ≡ (entry_or_none xs i).child
        children i low =
            at_children (first_child (layout_of s) + i) (omega arith) (omega (arith, (fits s).last))
            ∙ ap (λ (n : ℕ). (entry_or_none xs n).child) (omega arith)

    pub words_rewritten : IsBody (layout_of s) w → length xs ≤ 16 → (p : ℕ) → then_words p < 2 ^ 64
    words_rewritten body few p =
        elim (cases_eq p 1) [
          | inl one ↦
              let below = with_count_below (w 1) (length xs) (form_is s w body.form).header (omega arith) in
              let is = ap then_words one ∙ at_header in
              omega (arith, is, below)
          | inr other ↦ elim (cases_lt p 10) [
            | inl prefix ↦ subst (λ (n : ℕ). n < 2 ^ 64) (sym (at_prefix p other prefix)) (body.words p)
            | inr keys ↦ elim (cases_lt p (first_child (layout_of s))) [
              | inl before ↦ subst (λ (n : ℕ). n < 2 ^ 64) (sym (at_keys p keys before)) (from_be_bytes_below _ (eight_keys xs ((p - 10) * 8) all))
              | inr children ↦ elim (cases_lt p (size (layout_of s))) [
                | inl within ↦ subst (λ (n : ℕ). n < 2 ^ 64) (sym (at_children p children within)) (all (p - first_child (layout_of s))).child
                | inr past ↦ subst (λ (n : ℕ). n < 2 ^ 64) (sym (at_others p past)) (body.words p)
              ]
            ]
          ]
        ]

-- ---- the header

pub header_added : (s : Sorted) (w : Words) (position : ℕ) (entry : Entry) → IsBody (layout_of s) w → CanEdit (layout_of s) (Add position entry) (entries (layout_of s) w)
    → w 1 + 1 ≡ rewritten (layout_of s) w (insert (entries (layout_of s) w) position entry) 1
header_added s w position entry body can =
    let more = length-insert (entries (layout_of s) w) position entry can.0 in
    omega (arith, more, body.counted) ∙ sym (at_header s w (insert (entries (layout_of s) w) position entry))

pub header_removed : (s : Sorted) (w : Words) (position : ℕ) → IsBody (layout_of s) w → CanEdit (layout_of s) (Remove position) (entries (layout_of s) w)
    → w 1 - 1 ≡ rewritten (layout_of s) w (remove (entries (layout_of s) w) position) 1
header_removed s w position body can =
    let less = length-remove (entries (layout_of s) w) position can.0 in
    omega (arith, less, body.counted, can.0) ∙ sym (at_header s w (remove (entries (layout_of s) w) position))

-- ---- words that stay

module _ (s : Sorted) (w : Words) (edit : Edit) (body : IsBody (layout_of s) w) (can : CanEdit (layout_of s) edit (entries (layout_of s) w)) where
  abbrev pub then_children : List Entry
  then_children = edited edit (entries (layout_of s) w)

  pub then_fit : AllFit then_children
  then_fit = edited_fit (layout_of s) (entries (layout_of s) w) edit can (entries_fit s w body)

  -- key words before the position
  key_stays : (p : ℕ) → 10 ≤ p → p < 10 + edit_position edit / 8 → w p ≡ rewritten (layout_of s) w then_children p
  key_stays p low high =
      let within = position_within (layout_of s) (entries (layout_of s) w) edit can in
      let keys = (fits s).keys in
      same_word (w p) (key_word then_children ((p - 10) * 8)) (body.words p) (from_be_bytes_below _ (eight_keys then_children ((p - 10) * 8) then_fit)) (λ i few.
      let at : (p - 10) * 8 + i < 8 * (first_child (layout_of s) - 10) = omega arith in
      let place : w p ≡ w (10 + ((p - 10) * 8 + i) / 8) = ap w (omega arith) in
      let bit : i ≡ ((p - 10) * 8 + i) % 8 = omega arith in
      ap (byte_of (w p)) bit
      ∙ sym (packed_is w 10 ((p - 10) * 8 + i) (w p) place)
      ∙ (holds_body s w body).keys ((p - 10) * 8 + i) at
      ∙ sym (ap (λ (e : Entry). e.byte) (same_before (layout_of s) (entries (layout_of s) w) edit ((p - 10) * 8 + i) can (omega arith)))
      ∙ sym (byte_of_key then_children ((p - 10) * 8) i then_fit few))
      ∙ sym (at_keys s w then_children p low (omega arith))

  pub low_stays : (p : ℕ) → 2 ≤ p → p < 10 + edit_position edit / 8 → w p ≡ rewritten (layout_of s) w then_children p
  low_stays p first high =
      elim (cases_lt p 10) [
        | inl prefix ↦ sym (at_prefix s w then_children p (λ e. omega arith) prefix)
        | inr keys ↦ key_stays p keys high
      ]

  -- children before the position
  pub child_stays : (p : ℕ) → first_child (layout_of s) ≤ p → p < first_child (layout_of s) + edit_position edit → w p ≡ rewritten (layout_of s) w then_children p
  child_stays p low high =
      let within = position_within (layout_of s) (entries (layout_of s) w) edit can in
      let i = p - first_child (layout_of s) in
      let place : p ≡ first_child (layout_of s) + i = omega arith in
      ap w place
      ∙ (holds_body s w body).children i (omega arith)
      ∙ sym (ap (λ (e : Entry). e.child) (same_before (layout_of s) (entries (layout_of s) w) edit i can (omega arith)))
      ∙ sym (at_children s w then_children p low (omega (arith, (fits s).last)))

  -- children behind the last position that is in use before the edit or after it
  pub unused_stays : (p : ℕ) → first_child (layout_of s) + most_used edit (count_of w) ≤ p → p < size (layout_of s) → w p ≡ rewritten (layout_of s) w then_children p
  unused_stays p past within =
      let i = p - first_child (layout_of s) in
      let none = behind edit can i (omega (arith, past)) in
      ap w (omega (arith, past))
      ∙ (holds_body s w body).children i (omega (arith, (fits s).last, past, within))
      ∙ ap (λ (e : Entry). e.child) (entry_unused s w i body none.0)
      ∙ sym (ap (λ (e : Entry). e.child) (get_or_past then_children i no_entry none.1))
      ∙ sym (at_children s w then_children p (omega (arith, past)) within)
    where
      -- no child stands there, before or after
      behind : (e : Edit) → CanEdit (layout_of s) e (entries (layout_of s) w) → (i : ℕ) → most_used e (count_of w) ≤ i
          → (count_of w ≤ i) × (length (edited e (entries (layout_of s) w)) ≤ i)
      behind (Add position entry) able i low = (omega (arith, low), omega (arith, low, length-insert (entries (layout_of s) w) position entry able.0, body.counted))
      behind (Remove position) able i low = (low, omega (arith, low, length-remove (entries (layout_of s) w) position able.0, body.counted))

-- the position of the edit is one of those, and they are positions of the node
pub used_within : (s : Sorted) (w : Words) (edit : Edit) → IsBody (layout_of s) w → CanEdit (layout_of s) edit (entries (layout_of s) w)
    → (edit_position edit < most_used edit (count_of w)) × (most_used edit (count_of w) ≤ places (layout_of s))
used_within s w (Add position entry) body can = (omega (arith, can.0, body.counted), omega (arith, can.1, body.counted))
used_within s w (Remove position) body can = (omega (arith, can.0, body.counted), omega (arith, can.1, body.counted))

-- ---- words that differ, up to a place

pub changes_few : (w after : Words) (place : ℕ) → length (changes_to w after place) ≤ place - 1
changes_few w after place = differing_most w after 1 (place - 1)

-- none differs from one place on, before another
pub skips : (w after : Words) (n a b : ℕ) → 1 ≤ a → a + n ≡ b → ((p : ℕ) → a ≤ p → p < b → w p ≡ after p) → changes_to w after a ≡ changes_to w after b
skips w after zero a b low is same = ap (changes_to w after) (omega arith)
skips w after (suc n) a b low is same =
    let none = no_change_where w after a (same a (omega arith) (omega arith)) in
    goes_on w after a (changes_to w after a) (changes_to w after a) low refl
    (sym (append-nil (changes_to w after a)) ∙ sym (ap (λ o. changes_to w after a ++ cons_option o []) none))
    ∙ skips w after n (a + 1) b (omega arith) (omega arith) (λ p from before. same p (omega arith) before)

-- the word at a place more
pub pushed : (w then : Words) (place value : ℕ) (so_far now : List Write) → 1 ≤ place → value ≡ then place → so_far ≡ changes_to w then place → now ≡ so_far ++ changed w place value
    → now ≡ changes_to w then (place + 1)
pushed w then place value so_far now low is invariant more =
    goes_on w then place so_far now low invariant (more ∙ ap (λ (xs : List Write). so_far ++ xs) (ap (changed w place) is ∙ by_test (eqb (w place) (then place))))
  where
    one : Write
    one = record { place = place; value = then place }

    by_test : (same : Bool) → cond {A = List Write} same [] (one ∷ []) ≡ cons_option (cond {A = Option Write} same None (Some one)) []
    by_test true = refl
    by_test false = refl

pub few_words : (s : Sorted) → size (layout_of s) ≤ 28
few_words Four = omega arith
few_words Sixteen = omega arith

-- the key word of the position is one of the node
pub keys_within : (s : Sorted) (w : Words) (edit : Edit) → CanEdit (layout_of s) edit (entries (layout_of s) w) → 10 + edit_position edit / 8 < first_child (layout_of s)
keys_within s w edit can =
    let within = position_within (layout_of s) (entries (layout_of s) w) edit can in
    (fits s).after_keys (edit_position edit) (omega (arith, within, (fits s).keys))
