-- Words that have the form of their place: all of them where 0 stands, and where one was written.
use Rattle.std.proofs.Common.{◌≡◌, ◌≢◌, ℕ, ◌<◌, ◌≤◌, sym, subst, ⊎_elim, inl, arith}
use Rattle.std.proofs.lemmas.Bool.{cases_eq}
use Rattle.art_cell.specs.declared.cells.Cell.{Cell}
use Rattle.art_cell.specs.declared.cells.Cell.TheVariants as cell
use Rattle.art_cell.specs.declared.cells.Layout.{Layout}
use Rattle.art_cell.specs.declared.cells.Layout.TheVariants.{Node4, Node16, Node48, Node256}
use Rattle.art_cell.specs.Words.{Words, first_child}
use Rattle.art_step.specs.declared.views.Sizes.{Sizes}
use Rattle.art_step.specs.Effects.{SetsWord}
use Rattle.art_step.specs.Views.{HaveForms, IsChildPlace, IsChildWord, IsHeader, IsIndexWord, IsWordOf, Memory}
use Rattle.art_tree.proofs.Places.{same_cell}

no_header : (k : Layout) → IsHeader k 0
no_header k = record { few = omega arith; short = omega arith; low = λ _. omega arith }

no_index : IsIndexWord 0
no_index j low = omega arith

late_child : (l : Layout) (i : ℕ) → first_child l ≤ i → 0 < i
late_child Node4 i late = omega arith
late_child Node16 i late = omega arith
late_child Node48 i late = omega arith
late_child Node256 i late = omega arith

-- a child word is not the first of its cell
at_child : (c : Cell) (i : ℕ) → IsChildPlace c i → 0 < i
at_child cell.Anchor i place = omega (arith, place)
at_child (cell.Leaf l) i place = absurd place
at_child (cell.Node n) i place = late_child n.layout i place.0

-- 0 may stand at any place
pub no_word : (z : Sizes) (c : Cell) (i word : ℕ) → (0 < i → word ≡ 0) → IsWordOf z c i word
no_word z c i word none = record {
  header = λ n _ at. subst (IsHeader n.layout) (sym (none (omega (arith, at)))) (no_header n.layout);
  index = λ n _ _ late _. subst IsIndexWord (sym (none (omega (arith, late)))) no_index;
  length = λ l _ at. let e = none (omega (arith, at)) in omega (arith, e);
  child = λ place. inl (none (at_child c i place));
}

-- nothing but a child word may stand in the anchor
pub root_word : (z : Sizes) (word : ℕ) → IsChildWord z word → IsWordOf z cell.Anchor 1 word
root_word z word child = record {
  header = λ n is. absurd (cc);
  index = λ n is. absurd (cc);
  length = λ l is. absurd (cc);
  child = λ place. child;
}

-- in a leaf only a length has a form
pub leaf_form : (z : Sizes) (l i word : ℕ) → (i ≡ 1 → word ≤ 64) → IsWordOf z (cell.Leaf l) i word
leaf_form z l i word short = record {
  header = λ n is. absurd (cc);
  index = λ n is. absurd (cc);
  length = λ m is at. short at;
  child = λ place. absurd place;
}

-- a word of the form of its place is written, and all others stay
pub word_formed : (z : Sizes) (m m' : Memory) (c : Cell) (i x : ℕ) → SetsWord m c i x m' → IsWordOf z c i x → HaveForms z m.words → HaveForms z m'.words
word_formed z m m' c i x sets form were d j = ⊎_elim
    (λ (e : d ≡ c). subst (λ (b : Cell). IsWordOf z b j (m'.words b j)) (sym e) (⊎_elim
    (λ (k : j ≡ i). subst (λ (a : ℕ). IsWordOf z c a (m'.words c a)) (sym k) (subst (IsWordOf z c i) (sym sets.here) form))
    (λ (other : j ≢ i). subst (IsWordOf z c j) (sym (sets.there j other)) (were c j))
    (cases_eq j i)))
    (λ (other : d ≢ c). subst (λ (a : Words). IsWordOf z d j (a j)) (sym (sets.others d other)) (were d j))
    (same_cell d c)
