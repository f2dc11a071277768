-- The word that was read of the anchor: it names the child that the anchor has in a tree, and is 0 where the tree is empty.
use Rattle.std.proofs.Common.{◌≡◌, ◌≢◌, ℕ, ◌<◌, List, Option, Some, None, refl, sym, ap, ap₂, ◌∙◌, subst, ⊎_elim, arith}
use Rattle.std.proofs.lemmas.Option.{same_Some}
use Rattle.art_cell.specs.Children.{child_word, code_of, code_of_layout, coded, link_of, number_of}
use Rattle.art_cell.specs.Reads.{word_read}
use Rattle.art_cell.specs.declared.cells.Cell.{Cell}
use Rattle.art_cell.specs.declared.cells.Cell.TheVariants as cell
use Rattle.art_cell.specs.declared.cells.Link.{Link}
use Rattle.art_cell.specs.declared.cells.Link.TheVariants.{Leaf as leaf, Node as node}
use Rattle.art_cell.specs.declared.cells.Layout.{Layout}
use Rattle.art_cell.specs.declared.cells.Layout.TheVariants.{Node4, Node16, Node48, Node256}
use Rattle.art_plan.proofs.NewWords.{IsOtherRoot}
use Rattle.art_plan.proofs.WholeCells.{IsWhole}
use Rattle.art_step.specs.Knowledge.{HoldsAll, IsShape, NamesCell}
use Rattle.art_step.specs.Shows.{HasChild}
use Rattle.art_step.specs.Views.{note_of}
use Rattle.art_step.specs.declared.views.Fact.TheVariants.{Word}
use Rattle.art_step.specs.declared.views.Sizes.{Sizes}
use Rattle.art_step.specs.declared.views.Stamp.{Stamp}
use Rattle.art_step.specs.declared.views.View.{View}
use Rattle.art_tree.proofs.ChildWords.{link_exact}
use Rattle.art_tree.proofs.Meanings.{words_mean}
use Rattle.art_tree.specs.Heaps.{Cells, heap_of}

-- ---- child words

code_within : (d : Link) → (0 < code_of d) × (code_of d < 8)
code_within (leaf l) = (omega arith, omega arith)
code_within (node n) = by_layout n.layout
  where
    by_layout : (k : Layout) → (0 < code_of_layout k) × (code_of_layout k < 8)
    by_layout Node4 = (omega arith, omega arith)
    by_layout Node16 = (omega arith, omega arith)
    by_layout Node48 = (omega arith, omega arith)
    by_layout Node256 = (omega arith, omega arith)

coded_as : (d : Link) → coded (code_of d) (number_of d) ≡ Some d
coded_as (leaf l) = refl
coded_as (node n) = by_layout n.layout n.number
  where
    by_layout : (k : Layout) (i : ℕ) → coded (code_of_layout k) i ≡ Some (node (record { layout = k; number = i }))
    by_layout Node4 i = refl
    by_layout Node16 i = refl
    by_layout Node48 i = refl
    by_layout Node256 i = refl

-- a word names one link
one_link : (c d : Link) → child_word c ≡ child_word d → c ≡ d
one_link c d same =
    let low = (code_within c).1 in
    let lower = (code_within d).1 in
    let code : code_of c ≡ code_of d = omega (arith, low, lower, same) in
    let number : number_of c ≡ number_of d = omega (arith, low, lower, same) in
    same_Some c d (sym (coded_as c) ∙ ap₂ coded code number ∙ coded_as d)

-- and is not 0
word_some : (d : Link) → child_word d ≢ 0
word_some d none = let some = (code_within d).0 in omega (arith, some, none)

-- ---- in a tree in which all that was noted holds

module _ (z : Sizes) (u : View) (x : Stamp) (reads : List (Option ℕ)) (whole : IsWhole z u x reads) (s : Cells) (shape : IsShape z s)
    (holds : HoldsAll u x s) where
  stands : x.cell ≡ cell.Anchor → (word : ℕ) → word_read reads 1 ≡ Some word → s cell.Anchor 1 ≡ word
  stands at word is = subst (λ (c : Cell). s c 1 ≡ word) at (holds (note_of x (Word 1 word)) (whole.words.each 1 word is).noted refl)

  module _ (d : Link) (p : List ℕ) (has : HasChild s x.cell d p) where
    -- the word is that of the child
    names : x.cell ≡ cell.Anchor → (word : ℕ) → word_read reads 1 ≡ Some word → child_word d ≡ word
    names at word is =
        let child = subst (λ (c : Cell). HasChild s c d p) at has in
        (link_exact word d (ap link_of (sym (stands at word is)) ∙ sym (words_mean s).root ∙ child.names)).0

    -- so it is not that of another
    pub root_other : (e : Link) → d ≢ e → IsOtherRoot x reads (child_word e)
    root_other e other at word is same = other (one_link d e (names at word is ∙ same))

    pub root_some : IsOtherRoot x reads 0
    root_some at word is none = word_some d (names at word is ∙ none)

  -- the tree is empty
  pub root_none : (heap_of s).root ≡ None → (e : Link) → IsOtherRoot x reads (child_word e)
  root_none none e at word is same = ⊎_elim
      (λ (empty : s cell.Anchor 1 ≡ 0). word_some e (sym same ∙ sym (stands at word is) ∙ empty))
      (λ (named : NamesCell (s cell.Anchor 1)). let no : None ≡ Some named.0 = sym none ∙ (words_mean s).root ∙ named.1 in absurd (cc))
      shape.anchor
