-- A Node48 that gets the children of another node one after another has them in order, from place 0 on.
use Rattle.std.proofs.Common.{◌≡◌, ◌≢◌, ℕ, zero, suc, ◌+◌, ◌<◌, ◌≤◌, List, length, get_or, refl, sym, ap, ◌∙◌, inl, inr, arith}
use Rattle.std.specs.Bool.{⊤}
use Rattle.std.proofs.lemmas.Bool.{cases_lt, cases_eq}
use Rattle.std.proofs.lemmas.List.{get_or_default}
use Rattle.art_cell.specs.declared.cells.Layout.{Layout}
use Rattle.art_cell.specs.declared.cells.Layout.TheVariants.{Node4, Node16, Node48, Node256}
use Rattle.art_cell.specs.declared.node_kinds.Entry.{Entry}
use Rattle.art_cell.specs.Words.{Words, count_of, places, is_used, key_byte, indexed_child, child_of, entries}
use Rattle.art_cell.specs.Bodies.{IsIndexed, IsBody, Becomes, TakesPlace, TakesLowest, IsInOrder}
use Rattle.art_cell.specs.Reads.{with_child}
use Rattle.art_cell.specs.Lemmas.Entries.{same_listed, with_here}
use Rattle.art_node48.proofs.Steps.{entry_some, no_entry}
use Rattle.art_node.proofs.Copies.{Copied, copied_end, next_child, next_is_free}

-- the first i entries have the places from 0 on, and the places after them are free
pub record Placed (next : Words) (i : ℕ) (es : List Entry) : Type 0 where
  pub named : (j : ℕ) (d : Entry) → j < i → key_byte next (get_or es j d).byte ≡ suc j
  pub free : (p : ℕ) → i ≤ p → p < 48 → is_used next p ≡ 0

abbrev pub InOrder : Layout → Words → ℕ → List Entry → Type 0
InOrder Node4 next i es = ⊤
InOrder Node16 next i es = ⊤
InOrder Node48 next i es = Placed next i es
InOrder Node256 next i es = ⊤

-- a place that no byte names is free
free_unnamed : (w : Words) (p : ℕ) → IsIndexed w → p < 48 → ((b : ℕ) → b < 256 → key_byte w b ≢ suc p) → is_used w p ≡ 0
free_unnamed w p are within unnamed = by_bit (is_used w p) refl (omega arith)
  where
    by_bit : (n : ℕ) → is_used w p ≡ n → n < 2 → is_used w p ≡ 0
    by_bit zero is low = is
    by_bit (suc zero) is low = let there = are.used p within is in absurd (unnamed there.0 there.1 there.2)
    by_bit (suc (suc n)) is low = absurd (omega arith)

-- ---- no child yet

placed_none : (k : Layout) (w next : Words) → Copied k Node48 w next 0 → Placed next 0 (entries k w)
placed_none k w next none = record {
  named = λ j d lt. absurd (omega arith);
  free = λ p low within. free_unnamed next p none.body.form within (λ b few is. omega (arith, is, no_entry next b none.body.form few (none.children b few)));
}

pub in_order_start : (k l : Layout) (w next : Words) → Copied k l w next 0 → InOrder l next 0 (entries k w)
in_order_start k Node4 w next none = tt
in_order_start k Node16 w next none = tt
in_order_start k Node48 w next none = placed_none k w next none
in_order_start k Node256 w next none = tt

-- ---- one child more

-- the children so far are in order, and the byte of another one takes the lowest free place
module _ (next after : Words) (i byte : ℕ) (es : List Entry) (were : IsIndexed next) (are : IsIndexed after) (room : i < 48) (low : byte < 256) (bytes : (j : ℕ) (d : Entry) → j < i → (get_or es j d).byte < 256)
    (so_far : Placed next i es) (was : key_byte next byte ≡ 0) (some : 0 < key_byte after byte) (takes : TakesPlace next after byte) where
  -- the bytes before it are others, and keep their places
  stays : (j : ℕ) (d : Entry) → j < i → key_byte after (get_or es j d).byte ≡ suc j
  stays j d lt =
      let named = so_far.named j d lt in
      takes.others (get_or es j d).byte (bytes j d lt) (λ e. omega (arith, named, was, ap (key_byte next) e)) ∙ named

  -- so their places are not the new one's
  past : (d : Entry) (p : ℕ) → key_byte after byte ≡ suc p → i ≤ p
  past d p is = elim (cases_lt p i) [
    | inr high ↦ high
    | inl before ↦
        let same = are.once byte (get_or es p d).byte low (bytes p d before) some (is ∙ sym (stays p d before)) in
        absurd (omega (arith, so_far.named p d before, was, ap (key_byte next) same))
  ]

  at_place : (d : Entry) → key_byte after byte ≡ suc i
  at_place d = by_entry (key_byte after byte) refl
    where
      by_entry : (n : ℕ) → key_byte after byte ≡ n → key_byte after byte ≡ suc i
      by_entry zero is = absurd (omega (arith, is, some))
      by_entry (suc p) is = omega (arith, is, past d p is, takes.lowest i room (so_far.free i (omega arith) room))

  -- a place after them that a byte names now was named before
  unnamed : (d : Entry) (p b : ℕ) → i + 1 ≤ p → p < 48 → b < 256 → key_byte after b ≢ suc p
  unnamed d p b above within few is = elim (cases_eq b byte) [
    | inl here ↦ omega (arith, is, ap (key_byte after) here, at_place d, above)
    | inr other ↦
        let used = (were.named b p few (sym (takes.others b few other) ∙ is)).0 in
        omega (arith, used, so_far.free p (omega (arith, above)) within)
  ]

  placed_more : (d : Entry) → ((c : Entry) → (get_or es i c).byte ≡ byte) → Placed after (i + 1) es
  placed_more d here = record {
    named = λ j c lt. elim (cases_lt j i) [
      | inl before ↦ stays j c before
      | inr last ↦ let at : j ≡ i = omega (arith, lt, last) in ap (λ (n : ℕ). key_byte after (get_or es n c).byte) at ∙ ap (key_byte after) (here c) ∙ at_place d ∙ ap suc (sym at)
    ];
    free = λ p above within. free_unnamed after p are within (λ b few. unnamed d p b above within few);
  }

placed_next : (k : Layout) (w next after : Words) (i : ℕ) (d e : Entry) → i < 48 → Copied k Node48 w next i → i < length (entries k w) → e ≡ get_or (entries k w) i d → Becomes Node48 next after (with_child (indexed_child next) e.byte e.child)
    → TakesPlace next after e.byte → Placed next i (entries k w) → Placed after (i + 1) (entries k w)
placed_next k w next after i d e room so_far lt is becomes takes placed =
    let low = (next_child k w i d e lt is).high in
    let here = becomes.children e.byte low ∙ with_here (indexed_child next) e.byte e.child in
    placed_more next after i e.byte (entries k w) so_far.body.form becomes.body.form room low
    (λ j c before. (next_child k w j c (get_or (entries k w) j c) (omega (arith, lt, before)) refl).high)
    placed
    (no_entry next e.byte so_far.body.form low (next_is_free k Node48 w next i d e so_far lt is))
    (entry_some after e.byte (key_byte after e.byte) (e.child, here) refl)
    takes
    d
    (λ c. ap (λ (x : Entry). x.byte) (get_or_default (entries k w) i c d lt ∙ sym is))

pub in_order_more : (k l : Layout) (w next after : Words) (i : ℕ) (d e : Entry) → IsBody k w → count_of w ≤ places l → Copied k l w next i → i < length (entries k w) → e ≡ get_or (entries k w) i d
    → Becomes l next after (with_child (child_of l next) e.byte e.child) → TakesLowest l next after e.byte → InOrder l next i (entries k w) → InOrder l after (i + 1) (entries k w)
in_order_more k Node4 w next after i d e body fits so_far lt is becomes takes placed = tt
in_order_more k Node16 w next after i d e body fits so_far lt is becomes takes placed = tt
in_order_more k Node48 w next after i d e body fits so_far lt is becomes takes placed =
    placed_next k w next after i d e (omega (arith, fits, lt, body.counted)) so_far lt is becomes takes placed
in_order_more k Node256 w next after i d e body fits so_far lt is becomes takes placed = tt

-- ---- all children

-- the node has the entries of the other one
placed_all : (k : Layout) (w next : Words) (i : ℕ) → length (entries k w) ≤ i → Copied k Node48 w next i → Placed next i (entries k w) → IsInOrder Node48 next
placed_all k w next i all so_far placed j d lt =
    let same : entries Node48 next ≡ entries k w = same_listed (child_of k w) (indexed_child next) 0 256 (λ b low high. (copied_end k Node48 w next i all so_far).children b high) in
    ap (λ (es : List Entry). key_byte next (get_or es j d).byte) same ∙ placed.named j d (omega (arith, lt, ap length same, all))

pub in_order_end : (k l : Layout) (w next : Words) (i : ℕ) → length (entries k w) ≤ i → Copied k l w next i → InOrder l next i (entries k w) → IsInOrder l next
in_order_end k Node4 w next i all so_far placed = tt
in_order_end k Node16 w next i all so_far placed = tt
in_order_end k Node48 w next i all so_far placed = placed_all k w next i all so_far placed
in_order_end k Node256 w next i all so_far placed = tt
