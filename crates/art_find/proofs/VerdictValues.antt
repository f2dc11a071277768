-- What a verdict says shows the key's value, or that it has none.
use Rattle.std.proofs.Common.{◌≡◌, ◌≢◌, ℕ, suc, ◌<◌, List, [], ◌∷◌, ◌++◌, length, get_or, take, Some, None, ⊎_elim, sym, ap, ◌∙◌, subst, arith}
use Rattle.std.proofs.Math.Seq.{take-suc}
use Rattle.art_cell.specs.declared.cells.Cell.{Cell}
use Rattle.art_find.specs.Verdicts.{HasOverlap, IsFound, IsLeafMismatch, PartsAt, Says, value_of}
use Rattle.art_find.specs.declared.descents.Verdict.{Verdict}
use Rattle.art_find.specs.declared.descents.Verdict.TheVariants.{Found, Empty, LeafMismatch, PrefixMismatch, NoChild, Overlaps, Torn}
use Rattle.art_find.proofs.NodeWords.{begins_take, differs, free_byte}
use Rattle.art_step.specs.Knowledge.{IsShape}
use Rattle.art_step.specs.Shows.{HasValue, Shows}
use Rattle.art_step.proofs.Shows.{absent_value, row_value, shows_then}
use Rattle.art_step.specs.declared.views.Sizes.{Sizes}
use Rattle.art_step.specs.declared.views.Stamp.{Stamp}
use Rattle.art_step.specs.declared.views.View.{View}
use Rattle.art_tree.specs.Heaps.{Cells, heap_of}
use Rattle.art_tree.specs.Tree.{Begins, Row}
use Rattle.art_tree.proofs.Lookup.{absent_empty, row_at_leaf}
use Rattle.art_tree.proofs.Paths.{begins_trans, next_byte}
use Rattle.art_tree.proofs.TreeLaws.{descends}

-- a text that parts from the key is another
parts_other : (k j : List ℕ) (at byte : ℕ) → at < length k → PartsAt k j at byte → j ≢ k
parts_other k j at byte low parts same =
    parts.other (next_byte (take at k) k byte (get_or k at 0) (subst (Begins (take at k ++ byte ∷ [])) same parts.front)
    (subst (λ (x : List ℕ). Begins x k) (take-suc k at 0 low) (begins_take (suc at) k)))

-- two rows of which one begins the other are one
one_row : (z : Sizes) (s : Cells) (i j : List ℕ) (u v : ℕ) → IsShape z s → Row (heap_of s) i u → Row (heap_of s) j v → Begins i j → i ≡ j
one_row z s i j u v shape r t f =
    let h = heap_of s in
    let front : Begins r.path i = subst (Begins r.path) r.key (shape.tree.spelled r.number r.path r.at) in
    sym r.key ∙ ap h.key (sym (row_at_leaf h r.number r.path j v shape.tree r.at (begins_trans r.path i j front f) t)) ∙ t.key

module _ (z : Sizes) (s : Cells) (k : List ℕ) (shape : IsShape z s) where
  found_value : (c : Cell) (l depth value : ℕ) → IsFound s c l k depth value → HasValue s k (Some value)
  found_value c l depth value is = row_value s k value record { number = l; path = take depth k; at = is.child.at; key = is.is_key; value = is.is_value }

  other_leaf_value : (c : Cell) (l depth at byte : ℕ) → at < length k → IsLeafMismatch s c l k depth at byte → HasValue s k None
  other_leaf_value c l depth at byte low is =
      absent_value s k ((descends (heap_of s) k shape.tree).other l (take depth k) is.child.at (begins_take depth k) (parts_other k ((heap_of s).key l) at byte low is.parts))

  overlap_value : HasOverlap s k → HasValue s k None
  overlap_value is = absent_value s k (λ v row. is.other (⊎_elim
      (λ (f : Begins is.key k). one_row z s is.key k is.value v shape is.row row f)
      (λ (f : Begins k is.key). sym (one_row z s k is.key v is.value shape row is.row f))
      is.overlaps))

pub says_value : (z : Sizes) (k : List ℕ) (depth : ℕ) (x : Stamp) (found : Verdict) (v : View) → Says z k depth x found v → Shows z v x (λ s. HasValue s k (value_of found))
says_value z k depth x (Found l value) v says = shows_then z v x _ _ (λ s shape is. found_value z s k shape x.cell l depth value is) says.1
says_value z k depth x Empty v says = shows_then z v x _ _ (λ s shape is. absent_value s k (absent_empty (heap_of s) k is)) says.1
says_value z k depth x (LeafMismatch l at byte) v says = shows_then z v x _ _ (λ s shape is. other_leaf_value z s k shape x.cell l depth at byte says.1 is) says.2
says_value z k depth x (PrefixMismatch n header at) v says =
    shows_then z v x _ _ (λ s shape is. differs z s n k depth header shape is.on (omega (arith, says.2)) (λ are. is.other (are.same at says.1))) says.3
says_value z k depth x (NoChild n header) v says = shows_then z v x _ _ (λ s shape is. free_byte z s n k depth header shape is.past says.1 is.free) says.2
says_value z k depth x Overlaps v says = shows_then z v x _ _ (λ s shape is. overlap_value z s k shape is) says
says_value z k depth x Torn v says = λ s shape holds. absurd (says s shape holds)
