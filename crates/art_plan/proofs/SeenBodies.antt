-- The body of a node of which all words were read, and a check succeeded after that: it is the node of a tree.
use Rattle.std.proofs.Common.{◌≡◌, ℕ, ◌^◌, ◌<◌, Bool, cond, List, Option, Some, None, refl, sym, ap, ◌∙◌, subst, inl, inr, arith}
use Rattle.std.proofs.lemmas.Bool.{cases_eq, cases_lt, le-ltb}
use Rattle.std.specs.Option.{option_and_then}
use Rattle.art_cell.specs.Bodies.{IsBody}
use Rattle.art_cell.specs.Children.{link_of}
use Rattle.art_cell.specs.Reads.{word_of}
use Rattle.art_cell.specs.Words.{Words, child_of, prefix_of, size}
use Rattle.art_cell.specs.declared.cells.Body.{Body}
use Rattle.art_cell.specs.declared.cells.Cell.{Cell}
use Rattle.art_cell.specs.declared.cells.Cell.TheVariants as cell
use Rattle.art_cell.specs.declared.cells.Link.{Link}
use Rattle.art_cell.specs.declared.cells.Link.TheVariants.{Node as node}
use Rattle.art_cell.specs.declared.cells.Node.{Node}
use Rattle.art_cell.specs.declared.cells.Layout.{Layout}
use Rattle.art_plan.specs.ChooseInsert.Bodies.{IsFilled}
use Rattle.art_plan.proofs.WordsWithin.{SameWithin, body_within, child_within, prefix_within}
use Rattle.art_plan.specs.Puts.{HasChild}
use Rattle.art_step.proofs.Shows.{prefix_on}
use Rattle.art_step.specs.Knowledge.{CellAt, HoldsAll, IsNodeCell, IsShape}
use Rattle.art_step.specs.Views.{note_of}
use Rattle.art_step.specs.declared.views.Fact.TheVariants.{Starts, Word}
use Rattle.art_step.specs.declared.views.Sizes.{Sizes}
use Rattle.art_step.specs.declared.views.Stamp.{Stamp}
use Rattle.art_step.specs.declared.views.View.{View}
use Rattle.art_tree.proofs.ChildWords.{link_exact}
use Rattle.art_tree.proofs.Meanings.{child_is, words_mean}
use Rattle.art_tree.specs.Heaps.{Cells, heap_of}
use Rattle.art_tree.specs.Tree.{StandsAt}
use Rattle.art_tree.specs.WordChanges.{FitsWord, WritesNode}
use Rattle.art_plan.proofs.WholeCells.{IsWhole, read_whole, word_there}

-- ---- the child words of a linked node

-- a word that names a link is there
pub named_word : (o : Option ℕ) (d : Link) → option_and_then link_of o ≡ Some d → (w : ℕ) × (o ≡ Some w) × (link_of w ≡ Some d)
named_word None d is = absurd (cc)
named_word (Some w) d is = (w, refl, is)

module _ (z : Sizes) (s : Cells) (shape : IsShape z s) (n : Node) (q : List ℕ) (on : StandsAt (heap_of s) (node n) q) (byte : ℕ) where
  -- only a byte has a child
  pub low_byte : (d : Link) → (heap_of s).child n byte ≡ Some d → byte < 256
  low_byte d is = elim (cases_lt byte 256) [
    | inl low ↦ low
    | inr high ↦
        let none : (heap_of s).child n byte ≡ None =
        child_is s n byte ∙ ap (λ (t : Bool). cond t (option_and_then link_of (child_of n.layout (s (cell.Node n)) byte)) None) (le-ltb byte 256 high) in
        absurd (cc)
  ]

  pub word_named : (d : Link) → (heap_of s).child n byte ≡ Some d → (w : ℕ) × (child_of n.layout (s (cell.Node n)) byte ≡ Some w) × (link_of w ≡ Some d)
  word_named d is = named_word (child_of n.layout (s (cell.Node n)) byte) d (sym ((words_mean s).child n byte (low_byte d is)) ∙ is)

  -- so its number takes 32 bits
  pub child_fits : (d : Link) → (heap_of s).child n byte ≡ Some d → FitsWord d
  child_fits d is = let named = word_named d is in (link_exact named.0 d named.2).1

  -- and where the tree has no child, there is no word
  pub no_word : byte < 256 → (heap_of s).child n byte ≡ None → child_of n.layout (s (cell.Node n)) byte ≡ None
  no_word low none = by_word (child_of n.layout (s (cell.Node n)) byte) refl
    where
      by_word : (o : Option ℕ) → child_of n.layout (s (cell.Node n)) byte ≡ o → o ≡ None
      by_word None is = refl
      by_word (Some w) is =
          let names = (shape.nodes n q on).children byte w low is in
          let some : (heap_of s).child n byte ≡ Some names.0 = (words_mean s).child n byte low ∙ ap (option_and_then link_of) is ∙ names.1 in
          absurd (cc)

-- ---- the body

module _ (z : Sizes) (u : View) (x : Stamp) (reads : List (Option ℕ)) (whole : IsWhole z u x reads) (s : Cells) (shape : IsShape z s) (holds : HoldsAll u x s)
    (n : Node) (at : x.cell ≡ cell.Node n) (body : Body) (filled : IsFilled x.cell reads body) where
  abbrev w : Words
  w = s (cell.Node n)

  pub stands : StandsAt (heap_of s) (node n) whole.path.0
  stands = subst (λ (c : Cell). CellAt s c whole.path.0) at (holds (note_of x (Starts whole.path.0)) whole.path.1 refl)

  form : IsNodeCell n w
  form = shape.nodes n whole.path.0 stands

  pub same_words : SameWithin n.layout w (word_of body)
  same_words i low high =
      sym (subst (λ (c : Cell). s c i ≡ word_of body i) at (holds (note_of x (Word i (word_of body i))) (word_there z u x reads whole n at body filled i low high).noted refl))

  -- and behind them each takes 64 bits
  words_fit : (i : ℕ) → word_of body i < 2 ^ 64
  words_fit i = elim (cases_lt i (size n.layout)) [
    | inl low ↦ elim (cases_eq i 0) [
      | inl first ↦
          let version = (read_whole z u x reads whole n at body filled).version in
          subst (λ (p : ℕ). word_of body p < 2 ^ 64) (sym first) (omega (arith, version))
      | inr later ↦
          let same = same_words i (omega (arith, later)) low in
          let bound = form.body.words i in
          omega (arith, same, bound)
    ]
    | inr high ↦ (filled n at).behind i high
  ]

  -- it has the prefix and the children of the node
  pub seen_node : WritesNode n.layout (word_of body) (prefix_of w) (child_of n.layout w)
  seen_node = record {
    body = body_within w (word_of body) n.layout same_words form.body words_fit;
    prefix = prefix_within w (word_of body) n.layout same_words form.body;
    children = λ b low. child_within w (word_of body) n.layout b same_words form.body.form low;
  }

  layout_is : body.layout ≡ n.layout
  layout_is = (filled n at).layout

  pub seen_body : IsBody body.layout (word_of body)
  seen_body = subst (λ (k : Layout). IsBody k (word_of body)) (sym layout_is) seen_node.body

  pub seen_prefix : prefix_of (word_of body) ≡ (heap_of s).prefix n
  seen_prefix = seen_node.prefix ∙ sym (prefix_on z s n whole.path.0 shape stands)

  pub seen_child : (b : ℕ) → b < 256 → child_of body.layout (word_of body) b ≡ child_of n.layout w b
  seen_child b low = ap (λ (k : Layout). child_of k (word_of body) b) layout_is ∙ seen_node.children b low

  -- where the tree has a child the body has one, and none where it has none
  pub seen_taken : (byte : ℕ) (d : Link) → (heap_of s).child n byte ≡ Some d → HasChild body byte
  seen_taken byte d is =
      let named = word_named z s shape n whole.path.0 stands byte d is in
      record { meaning = seen_body; child = named.0; there = seen_child byte (low_byte z s shape n whole.path.0 stands byte d is) ∙ named.1 }

  pub seen_free : (byte : ℕ) → byte < 256 → (heap_of s).child n byte ≡ None → child_of body.layout (word_of body) byte ≡ None
  seen_free byte low none = seen_child byte low ∙ no_word z s shape n whole.path.0 stands byte low none
