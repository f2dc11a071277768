-- What a leaf on the way of a key shows of it.
use Rattle.std.proofs.Common.{◌≡◌, ◌≢◌, inl, inr, ℕ, suc, ◌+◌, ◌/◌, ◌%◌, ◌<◌, ◌≤◌, List, [], ◌∷◌, ◌++◌, length, get_or, take, map, refl, sym, ap, ap₂, ◌∙◌, subst, arith}
use Rattle.std.specs.List.{range_with_len}
use Rattle.std.proofs.Math.Seq.{take-length, take-suc}
use Rattle.std.proofs.lemmas.Bool.{cases_lt}
use Rattle.std.proofs.lemmas.List.{get_or-take, get_or_append_left, length-take-le}
use Rattle.std.proofs.lemmas.List.FromFn.{get_or-map-range_with_len, length-map-range_with_len, take-map-range_with_len}
use Rattle.art_cell.specs.declared.cells.Cell.{Cell}
use Rattle.art_cell.specs.declared.cells.Cell.TheVariants as cell
use Rattle.art_cell.specs.Lemmas.Packed.{byte_of_below}
use Rattle.art_cell.specs.Words.{Words, packed}
use Rattle.art_find.specs.Verdicts.{HasOverlap, IsFound, IsLeafMismatch, PartsAt}
use Rattle.art_find.specs.Ways.{IsAtLeaf}
use Rattle.art_find.proofs.NodeWords.{begins_take}
use Rattle.art_path.specs.Compared.{AreSame}
use Rattle.art_path.proofs.PackedTexts.{same_packed}
use Rattle.art_step.specs.Knowledge.{IsShape}
use Rattle.art_step.proofs.Shows.{key_on, value_on}
use Rattle.art_step.specs.declared.views.Sizes.{Sizes}
use Rattle.art_tree.specs.Heaps.{Cells, heap_of}
use Rattle.art_tree.specs.Tree.{Begins, Row}

packed_low : (w : Words) (from i : ℕ) → packed w from i < 256
unfolding packed
packed_low w from i = byte_of_below (w (from + i / 8)) (i % 8)

-- a text that has the first bytes of the key, so many, and then another
parts_here : (k j : List ℕ) (at byte : ℕ) → at < length j → take at j ≡ take at k → get_or j at 0 ≡ byte → byte < 256 → byte ≢ get_or k at 0 → PartsAt k j at byte
parts_here k j at byte low same is small other = record {
  low = small;
  front = subst (λ (x : List ℕ). Begins x j) (take-suc j at 0 low ∙ ap₂ (λ (x : List ℕ) (b : ℕ). x ++ b ∷ []) same is) (begins_take (suc at) j);
  other = other;
}

-- it does so behind what begins both
parts_behind : (k j : List ℕ) (depth at : ℕ) → depth ≤ length k → Begins (take depth k) j → get_or j at 0 ≢ get_or k at 0 → depth ≤ at
parts_behind k j depth at deep f other =
    elim (cases_lt at depth) [
      | inl low ↦
          let p = take depth k in
          absurd (other (ap (λ (x : List ℕ). get_or x at 0) (sym f.1) ∙ get_or_append_left p f.0 0 at (omega (arith, low, length-take-le depth k deep)) ∙ get_or-take depth k at 0 low))
      | inr high ↦ high
    ]

module _ (z : Sizes) (s : Cells) (c : Cell) (l : ℕ) (k : List ℕ) (depth value count : ℕ) (shape : IsShape z s) (on : IsAtLeaf s c l (take depth k) value) (counted : s (cell.Leaf l) 1 ≡ count) where
  abbrev v : Words
  v = s (cell.Leaf l)

  pub leaf_not_torn : count ≤ 64
  leaf_not_torn = subst (λ (x : ℕ). x ≤ 64) counted ((key_on z s l (take depth k) shape on.child.at).0)

  key_bytes : (heap_of s).key l ≡ map (packed v 2) (range_with_len 0 count)
  key_bytes = (key_on z s l (take depth k) shape on.child.at).1 ∙ ap (λ (x : ℕ). map (packed v 2) (range_with_len 0 x)) counted

  pub leaf_found : count ≡ length k → AreSame (packed v 2) count k 0 → IsFound s c l k depth value
  leaf_found whole same = record {
    child = on.child;
    is_key = key_bytes ∙ same_packed v 2 count k 0 same ∙ ap (λ (i : ℕ). take i k) whole ∙ take-length k;
    is_value = value_on s l value on.is_value;
  }

  row : Row (heap_of s) ((heap_of s).key l) ((heap_of s).value l)
  row = record { number = l; path = take depth k; at = on.child.at; key = refl; value = refl }

  key_counted : length ((heap_of s).key l) ≡ count
  key_counted = ap length key_bytes ∙ length-map-range_with_len (packed v 2) 0 count

  -- its first bytes, so many, are the key's
  front_is : (at : ℕ) → at ≤ count → AreSame (packed v 2) at k 0 → take at ((heap_of s).key l) ≡ take at k
  front_is at few are = ap (take at) key_bytes ∙ take-map-range_with_len (packed v 2) 0 count at few ∙ same_packed v 2 at k 0 are

  -- all of its bytes are, and the key goes on
  pub leaf_ends : count ≢ length k → AreSame (packed v 2) count k 0 → HasOverlap s k
  leaf_ends apart same = record {
    key = (heap_of s).key l;
    value = (heap_of s).value l;
    row = row;
    other = λ e. apart (sym key_counted ∙ ap length e);
    overlaps = inl (subst (λ (j : List ℕ). Begins j k) (sym (key_bytes ∙ same_packed v 2 count k 0 same)) (begins_take count k));
  }

  -- the key ends, and it goes on
  pub leaf_goes_on : (at : ℕ) → at < count → at ≡ length k → AreSame (packed v 2) at k 0 → HasOverlap s k
  leaf_goes_on at low ends same =
      let j = (heap_of s).key l in
      record {
        key = j;
        value = (heap_of s).value l;
        row = row;
        other = λ e. absurd (omega (arith, low, ends, key_counted, ap length e));
        overlaps = inr (subst (λ (x : List ℕ). Begins x j) (front_is at (omega arith) same ∙ ap (λ (i : ℕ). take i k) ends ∙ take-length k) (begins_take at j));
      }

  -- it parts from the key
  pub leaf_parts : (at byte : ℕ) → depth ≤ length k → at < count → AreSame (packed v 2) at k 0 → packed v 2 at ≢ get_or k (0 + at) 0 → packed v 2 at ≡ byte → IsLeafMismatch s c l k depth at byte
  leaf_parts at a deep low same apart is =
      let j = (heap_of s).key l in
      let other : packed v 2 at ≢ get_or k at 0 = λ e. apart (e ∙ ap (λ (i : ℕ). get_or k i 0) (omega arith)) in
      let byte : get_or j at 0 ≡ packed v 2 at = ap (λ (x : List ℕ). get_or x at 0) key_bytes ∙ get_or-map-range_with_len (packed v 2) 0 count at at 0 low (omega arith) in
      record {
        child = on.child;
        behind = parts_behind k j depth at deep (shape.tree.spelled l (take depth k) on.child.at) (λ e. other (sym byte ∙ e));
        parts = subst (PartsAt k j at) is (parts_here k j at (packed v 2 at) (omega (arith, low, key_counted)) (front_is at (omega arith) same) byte (packed_low v 2 at) other);
      }
