-- What three writes of words make of a node of 48 places.
use Rattle.std.proofs.Common.{◌≡◌, ◌≢◌, ℕ, ◌+◌, ◌/◌, ◌%◌, ◌^◌, ◌<◌, ◌≤◌, List, length, get_or, set, sym, ap, subst, ◌∙◌, inl, inr, arith, get_or-set_other, get_or-set_same}
use Rattle.std.proofs.lemmas.Bool.{cases_eq}
use Rattle.std.proofs.lemmas.List.{length-set}
use Rattle.art_cell.specs.Words.{Words, byte_of, key_byte}
use Rattle.art_cell.specs.Lemmas.Packed.{with_byte, with_byte_below, byte_of-with_byte_here, byte_of-with_byte_elsewhere}
use Rattle.art_node48.specs.Changes.{Wrote}
use Rattle.art_node48.proofs.Index.{key_byte_is}

-- the words of a list
abbrev pub at : List ℕ → Words
at words p = get_or words p 0

-- the three words that are written, and all others
pub record Three (w after : Words) (header index word place child : ℕ) : Type 0 where
  pub first : after 1 ≡ header
  pub second : after index ≡ word
  pub third : after (42 + place) ≡ child
  pub rest : (p : ℕ) → p ≢ 1 → p ≢ index → p ≢ 42 + place → after p ≡ w p

three : (words : List ℕ) (header index word place child : ℕ) → length words ≡ 266 → 10 ≤ index → index < 42 → place < 48 → Three (at words) (at (set (set (set words index word) (42 + place) child) 1 header)) header index word place child
three words header index word place child len low high within = record { first = first; second = second; third = third; rest = rest }
  where
    one : List ℕ
    one = set words index word

    two : List ℕ
    two = set one (42 + place) child

    len_one : length one ≡ 266
    len_one = length-set words index word ∙ len

    len_two : length two ≡ 266
    len_two = length-set one (42 + place) child ∙ len_one

    first : get_or (set two 1 header) 1 0 ≡ header
    first = get_or-set_same two 1 header 0 (omega (arith, len_two))

    second : get_or (set two 1 header) index 0 ≡ word
    second = get_or-set_other two 1 index header 0 (λ e. omega arith) ∙ get_or-set_other one (42 + place) index child 0 (λ e. omega arith) ∙ get_or-set_same words index word 0 (omega arith)

    third : get_or (set two 1 header) (42 + place) 0 ≡ child
    third = get_or-set_other two 1 (42 + place) header 0 (λ e. omega arith) ∙ get_or-set_same one (42 + place) child 0 (omega (arith, len_one))

    rest : (p : ℕ) → p ≢ 1 → p ≢ index → p ≢ 42 + place → get_or (set two 1 header) p 0 ≡ get_or words p 0
    rest p a b c = get_or-set_other two 1 p header 0 a ∙ get_or-set_other one (42 + place) p child 0 c ∙ get_or-set_other words index p word 0 b

pub wrote_three : (w after : Words) (header byte entry place child : ℕ) → byte < 256 → entry ≤ 48 → place < 48 → Three w after header (10 + byte / 8) (with_byte (w (10 + byte / 8)) (byte % 8) entry) place child → Wrote w after header byte entry place child
wrote_three w after header byte entry place child in_range named within wrote = record {
  wrote_header = wrote.first;
  wrote_entry = key_byte_is after byte ∙ ap (λ (x : ℕ). byte_of x (byte % 8)) wrote.second ∙ byte_of-with_byte_here word (byte % 8) entry (omega arith) (omega arith);
  entries = entries;
  wrote_child = wrote.third;
  children = λ p low apart. wrote.rest (42 + p) (λ e. omega arith) (λ e. omega arith) (λ e. apart (omega arith));
  version = sym (wrote.rest 0 (λ e. omega arith) (λ e. omega arith) (λ e. omega arith));
  prefix = λ p low high. wrote.rest p (λ e. omega arith) (λ e. omega arith) (λ e. omega arith);
  outside = λ p high. sym (wrote.rest p (λ e. omega arith) (λ e. omega arith) (λ e. omega arith));
  below = below;
}
  where
    word : ℕ
    word = w (10 + byte / 8)

    entries : (b : ℕ) → b < 256 → b ≢ byte → key_byte after b ≡ key_byte w b
    entries b low apart = elim (cases_eq (b / 8) (byte / 8)) [
      | inl same ↦
          let there : after (10 + b / 8) ≡ with_byte word (byte % 8) entry = ap (λ (n : ℕ). after (10 + n)) same ∙ wrote.second in
          let was : word ≡ w (10 + b / 8) = ap (λ (n : ℕ). w (10 + n)) (sym same) in
          key_byte_is after b
          ∙ ap (λ (x : ℕ). byte_of x (b % 8)) there
          ∙ byte_of-with_byte_elsewhere word (byte % 8) entry (b % 8) (omega arith) (omega arith) (omega arith) (λ e. apart (omega arith))
          ∙ ap (λ (x : ℕ). byte_of x (b % 8)) was
          ∙ sym (key_byte_is w b)
      | inr other ↦
          key_byte_is after b ∙ ap (λ (x : ℕ). byte_of x (b % 8)) (wrote.rest (10 + b / 8) (λ e. omega arith) (λ e. other (omega arith)) (λ e. omega arith)) ∙ sym (key_byte_is w b)
    ]

    fits : (p value : ℕ) → after p ≡ value → value < 2 ^ 64 → after p < 2 ^ 64
    fits p value is low = subst (λ (n : ℕ). n < 2 ^ 64) (sym is) low

    below : ((p : ℕ) → w p < 2 ^ 64) → header < 2 ^ 64 → child < 2 ^ 64 → (p : ℕ) → after p < 2 ^ 64
    below was header_fits child_fits p = elim (cases_eq p 1) [
      | inl here ↦ fits p header (ap after here ∙ wrote.first) header_fits
      | inr a ↦ elim (cases_eq p (10 + byte / 8)) [
        | inl here ↦ fits p (with_byte word (byte % 8) entry) (ap after here ∙ wrote.second) (with_byte_below word (byte % 8) entry (omega arith) (omega arith))
        | inr b ↦ elim (cases_eq p (42 + place)) [
          | inl here ↦ fits p child (ap after here ∙ wrote.third) child_fits
          | inr c ↦ fits p (w p) (wrote.rest p a b c) (was p)
        ]
      ]
    ]

-- the byte goes by two names in the code, one of them as an index
pub wrote_by : (words : List ℕ) (header index byte entry word place child : ℕ) → index ≡ byte → length words ≡ 266 → index < 256 → entry ≤ 48 → place < 48 → word ≡ with_byte (at words (10 + index / 8)) (index % 8) entry
    → Wrote (at words) (at (set (set (set words (10 + index / 8) word) (42 + place) child) 1 header)) header byte entry place child
wrote_by words header index byte entry word place child same len in_range named within is =
    let after = at (set (set (set words (10 + index / 8) word) (42 + place) child) 1 header) in
    subst (λ (b : ℕ). Wrote (at words) after header b entry place child) same (
    wrote_three (at words) after header index entry place child in_range named within (
    subst (λ (x : ℕ). Three (at words) after header (10 + index / 8) x place child) is (
    three words header (10 + index / 8) word place child len (omega arith) (omega arith) within
    )
    )
    )
