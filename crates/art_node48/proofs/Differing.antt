-- How many words of a node of 48 places differ after a change of one child.
use Rattle.std.proofs.Common.{◌≡◌, ◌≢◌, ℕ, ◌+◌, ◌-◌, ◌*◌, ◌/◌, ◌%◌, ◌^◌, ◌<◌, ◌≤◌, length, refl, sym, ap, ◌∙◌, inl, inr, arith}
use Rattle.std.proofs.lemmas.Bool.{cases_eq, cases_lt}
use Rattle.art_cell.specs.declared.cells.Layout.TheVariants.{Node48}
use Rattle.art_cell.specs.Lemmas.Differing.{after_prefix, differing_one, one_differs}
use Rattle.art_cell.specs.Lemmas.Packed.{same_word}
use Rattle.art_cell.specs.Reads.{changes, most_writes}
use Rattle.art_cell.specs.Words.{Words, byte_of, key_byte}
use Rattle.art_node48.specs.Changes.{Wrote}
use Rattle.art_node48.proofs.Index.{key_byte_is}

-- all words take 64 bits
abbrev Fit : Words → Type 0
Fit w = (p : ℕ) → w p < 2 ^ 64

module _ (w after : Words) (fit : Fit w) (after_fit : Fit after) where
  -- an index word whose eight entries stay is the same
  same_index : (p : ℕ) → 10 ≤ p → ((i : ℕ) → i < 8 → key_byte w (8 * (p - 10) + i) ≡ key_byte after (8 * (p - 10) + i)) → w p ≡ after p
  same_index p low same = same_word (w p) (after p) (fit p) (after_fit p) each
    where
      entry : (v : Words) (i : ℕ) → i < 8 → key_byte v (8 * (p - 10) + i) ≡ byte_of (v p) i
      entry v i few =
          let place : 10 + (8 * (p - 10) + i) / 8 ≡ p = omega arith in
          let number : (8 * (p - 10) + i) % 8 ≡ i = omega arith in
          key_byte_is v (8 * (p - 10) + i) ∙ ap (λ (q : ℕ). byte_of (v q) ((8 * (p - 10) + i) % 8)) place ∙ ap (byte_of (v p)) number

      each : (i : ℕ) → i < 8 → byte_of (w p) i ≡ byte_of (after p) i
      each i few = sym (entry w i few) ∙ same i few ∙ entry after i few

  module _ (header byte entry place child : ℕ) (wrote : Wrote w after header byte entry place child) where
    -- the child words of the other places stay
    other_place : (p : ℕ) → 42 ≤ p → p < 90 → p ≢ 42 + place → w p ≡ after p
    other_place p low high apart =
        let at : 42 + (p - 42) ≡ p = omega arith in
        ap w (sym at) ∙ sym (wrote.children (p - 42) (omega arith) (λ e. apart (omega arith))) ∙ ap after at

    -- and so do the index words of the other bytes
    other_index : (p : ℕ) → 10 ≤ p → p < 42 → p ≢ 10 + byte / 8 → w p ≡ after p
    other_index p low high apart = same_index p low (λ i few. sym (wrote.entries (8 * (p - 10) + i) (omega arith) (λ e. apart (omega arith))))

    -- the header, an index word and a child word differ at most
    pub few_wrote : length (changes Node48 w after) ≤ most_writes
    few_wrote =
        let all = after_prefix w after Node48 32 48 refl (λ p low high. sym (wrote.prefix p low high)) in
        let index = differing_one w after (10 + byte / 8) 10 32 (λ p low high apart. other_index p low high apart) in
        let children = differing_one w after (42 + place) 42 48 (λ p low high apart. other_place p low high apart) in
        omega arith

    -- where header and entry are as they were, a child word alone differs
    pub one_wrote : header ≡ w 1 → entry ≡ key_byte w byte → length (changes Node48 w after) ≤ 1
    one_wrote kept named = one_differs w after Node48 (42 + place) same
      where
        entries : (b : ℕ) → b < 256 → key_byte w b ≡ key_byte after b
        entries b low = elim (cases_eq b byte) [
          | inl here ↦ ap (key_byte w) here ∙ sym named ∙ sym wrote.wrote_entry ∙ ap (key_byte after) (sym here)
          | inr other ↦ sym (wrote.entries b low other)
        ]

        same : (p : ℕ) → 0 < p → p < 90 → p ≢ 42 + place → w p ≡ after p
        same p some within apart = elim (cases_lt p 42) [
          | inr children ↦ other_place p children within apart
          | inl before ↦ elim (cases_lt p 10) [
            | inr index ↦ same_index p index (λ i few. entries (8 * (p - 10) + i) (omega arith))
            | inl low ↦ elim (cases_eq p 1) [
              | inl first ↦ ap w first ∙ sym kept ∙ sym wrote.wrote_header ∙ ap after (sym first)
              | inr later ↦ sym (wrote.prefix p (omega arith) low)
            ]
          ]
        ]
