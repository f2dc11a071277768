-- Writing the words of a node, one after another.
use Rattle.std.proofs.Common.{◌≡◌, ◌≢◌, ℕ, zero, suc, ◌+◌, ◌-◌, ◌*◌, ◌/◌, ◌%◌, ◌<◌, ◌≤◌, List, [], ◌∷◌, length, get_or, refl, sym, ap, ◌∙◌, inl, inr, arith, get_or-set_other, get_or-set_same}
use Rattle.std.specs.Prelude.{set, replicate}
use Rattle.std.proofs.lemmas.Bool.{cases_lt}
use Rattle.art_cell.specs.declared.node_kinds.Entry.{Entry}
use Rattle.art_cell.specs.Words.{Words, places, first_child, byte_of, key_byte}
use Rattle.art_cell.specs.Lemmas.Packed.{IsEight, packed_is, packed_same}
use Rattle.art_node4.specs.declared.layouts.Sorted.{Sorted}
use Rattle.art_node4.specs.Sorted.{layout_of, entry_or_none, Holds}
use Rattle.art_cell.specs.Lemmas.Headers.{with_count}
use Rattle.art_node4.proofs.NodeWords.{fits}

pub eight_zeros : IsEight (replicate 8 0)
eight_zeros = record { eight = refl; small = small 8 }
  where
    small : (n i : ℕ) → get_or (replicate n 0) i 0 < 256
    small zero i = omega arith
    small (suc n) zero = omega arith
    small (suc n) (suc i) = small n i

-- numbers below a bound, with another one
pub below_set : (most : ℕ) (xs : List ℕ) (i v : ℕ) → v < most → ((p : ℕ) → get_or xs p 0 < most) → (p : ℕ) → get_or (set xs i v) p 0 < most
below_set most [] i v small below p = below p
below_set most (x ∷ xs) zero v small below zero = small
below_set most (x ∷ xs) zero v small below (suc p) = below (suc p)
below_set most (x ∷ xs) (suc i) v small below zero = below 0
below_set most (x ∷ xs) (suc i) v small below (suc p) = below_set most xs i v small (λ q. below (suc q)) p

-- one word of key bytes more
pub keys_more : (words : List ℕ) (xs : List Entry) (place v : ℕ) → 10 ≤ place → place < length words
    → ((i : ℕ) → i < 8 → byte_of v i ≡ (entry_or_none xs ((place - 10) * 8 + i)).byte)
    → ((i : ℕ) → i < (place - 10) * 8 → key_byte (λ p. get_or words p 0) i ≡ (entry_or_none xs i).byte)
    → (i : ℕ) → i < (place + 1 - 10) * 8 → key_byte (λ p. get_or (set words place v) p 0) i ≡ (entry_or_none xs i).byte
keys_more words xs place v low within bytes so_far i h =
    elim (cases_lt i ((place - 10) * 8)) [
      | inl before ↦
          packed_same (λ p. get_or words p 0) (λ p. get_or (set words place v) p 0) 10 i (get_or-set_other words place (10 + i / 8) v 0 (λ e. omega arith))
          ∙ so_far i before
      | inr here ↦
          let at : 10 + i / 8 ≡ place = omega arith in
          let byte : (place - 10) * 8 + i % 8 ≡ i = omega arith in
          packed_is (λ p. get_or (set words place v) p 0) 10 i v (sym (ap (λ (p : ℕ). get_or (set words place v) p 0) at ∙ get_or-set_same words place v 0 within))
          ∙ bytes (i % 8) (omega arith)
          ∙ ap (λ (n : ℕ). (entry_or_none xs n).byte) byte
    ]

-- the words of key bytes are written, and no others
pub record KeysWritten (s : Sorted) (w after : Words) (xs : List Entry) : Type 0 where
  pub keys : (i : ℕ) → i < 8 * (first_child (layout_of s) - 10) → key_byte after i ≡ (entry_or_none xs i).byte
  pub before : (p : ℕ) → p < 10 → after p ≡ w p
  pub after_keys : (p : ℕ) → first_child (layout_of s) ≤ p → after p ≡ w p

-- the child words are written, and no others
pub record ChildrenWritten (s : Sorted) (w after : Words) (xs : List Entry) : Type 0 where
  pub children : (i : ℕ) → i < places (layout_of s) → after (first_child (layout_of s) + i) ≡ (entry_or_none xs i).child
  pub before : (p : ℕ) → p < first_child (layout_of s) → after p ≡ w p
  pub after_children : (p : ℕ) → first_child (layout_of s) + places (layout_of s) ≤ p → after p ≡ w p

pub holds_from : (s : Sorted) (words : List ℕ) (v : ℕ) (keyed after : Words) (xs : List Entry) → 1 < length words → v ≡ with_count (get_or words 1 0) (length xs)
    → KeysWritten s (λ p. get_or (set words 1 v) p 0) keyed xs → ChildrenWritten s keyed after xs → Holds (layout_of s) (λ p. get_or words p 0) xs after
holds_from s words v keyed after xs within header keys children = record {
  header = children.before 1 (omega (arith, (fits s).low)) ∙ keys.before 1 (omega arith) ∙ get_or-set_same words 1 v 0 within ∙ header;
  keys = λ i h. packed_same keyed after 10 i (children.before (10 + i / 8) ((fits s).after_keys i h)) ∙ keys.keys i h;
  children = children.children;
  prefix = λ p low high. low_word p high (λ e. omega arith);
  outside = (sym (low_word 0 (omega arith) (λ e. omega arith)), λ p out. sym (children.after_children p (omega (arith, (fits s).last)) ∙ keys.after_keys p (omega (arith, (fits s).last)) ∙ get_or-set_other words 1 p v 0 (λ e. omega (arith, (fits s).last, (fits s).low))));
}
  where
    low_word : (p : ℕ) → p < 10 → p ≢ 1 → after p ≡ get_or words p 0
    low_word p high apart = children.before p (omega (arith, (fits s).low)) ∙ keys.before p high ∙ get_or-set_other words 1 p v 0 apart
