-- A node that goes, with a leaf of it: what its words were and stay, and what the change unlinks.
use Rattle.std.proofs.Common.{◌≡◌, ◌≢◌, ◌↔◌, ℕ, ◌/◌, ◌%◌, ◌^◌, ◌<◌, ◌≤◌, true, List, [], ◌∷◌, Option, Some, None, cond, refl, sym, ap, ap₂, ◌∙◌, subst, inl, inr, ⊎_elim, arith}
use Rattle.std.proofs.lemmas.Bool.{cases_lt, le-ltb}
use Rattle.std.specs.List.{cons_option}
use Rattle.std.specs.Option.{option_and_then}
use Rattle.art_cell.specs.Bodies.{IsBody}
use Rattle.art_cell.specs.Children.{child_word, coded, link_of}
use Rattle.art_cell.specs.Reads.{word_of}
use Rattle.art_cell.specs.Words.{Words, child_of, prefix_of}
use Rattle.art_cell.specs.declared.cells.Body.{Body}
use Rattle.art_cell.specs.declared.cells.Cell.{Cell}
use Rattle.art_cell.specs.declared.cells.Cell.TheVariants as cell
use Rattle.art_cell.specs.declared.cells.Link.{Link}
use Rattle.art_cell.specs.declared.cells.Link.TheVariants.{Leaf as leaf, Node as node}
use Rattle.art_cell.specs.declared.cells.Node.{Node}
use Rattle.art_cell.specs.declared.cells.Layout.{Layout}
use Rattle.art_commit.specs.AnyChange.{SameMembers}
use Rattle.art_commit.specs.CommitLaws.{Before}
use Rattle.art_plan.proofs.CutWords.{cut_body, cut_child, cut_words}
use Rattle.art_plan.proofs.MadeNodes.{cut_node_prefix}
use Rattle.art_plan.proofs.Planning.{OnlyGoes}
use Rattle.art_plan.proofs.ReadyCells.{same_words}
use Rattle.art_plan.proofs.SiteWords.{whole_before}
use Rattle.art_plan.specs.Changes.{IsReady, target_at, with_puts}
use Rattle.art_plan.specs.Seen.{IsReadWhole, gone}
use Rattle.art_plan.specs.declared.changes.Change.{Change}
use Rattle.art_plan.proofs.FewChildren.{no_third}
use Rattle.art_plan.specs.Remove.Removals.{HasPair}
use Rattle.art_step.proofs.Shows.{child_on}
use Rattle.art_step.specs.Tokens.{links_of}
use Rattle.art_step.specs.Views.{IsChildWord, IsOnce, Member}
use Rattle.art_step.specs.declared.views.Sizes.{Sizes}
use Rattle.art_step.specs.declared.views.Stamp.{Stamp}
use Rattle.art_step.specs.declared.views.View.{View}
use Rattle.art_tree.proofs.ChildWords.{link_back}
use Rattle.art_tree.proofs.Meanings.{child_is}
use Rattle.art_tree.specs.Heaps.{Cells, heap_of, node_prefix}
use Rattle.art_tree.specs.Tree.{child_at_place}
use Rattle.art_tree.specs.Tree as tree
use Rattle.art_tree.specs.WordChanges.{FitsWord}

-- ---- its words

high_child : (s : Cells) (n : Node) (e : ℕ) → 256 ≤ e → (heap_of s).child n e ≡ None
high_child s n e high = child_is s n e ∙ ap (λ t. cond t (option_and_then link_of (child_of n.layout (s (cell.Node n)) e)) None) (le-ltb e 256 high)

module _ (z : Sizes) (u v : View) (c : Change) (ready : IsReady u c v) (s s' : Cells) (b : Before z v s s') (x : Stamp) (is : target_at c 1 ≡ Some (gone x)) (none : (ws : List ℕ) → with_puts 1 c.puts.items ws ≡ ws)
    (n : Node) (body : Body) (read : IsReadWhole z u x n body) where
  pub gone_words : s (cell.Node n) ≡ cut_words body.layout (word_of body)
  gone_words = whole_before z u v c ready s s' b 1 (gone x) is [] none n body read

  -- they stay
  pub gone_same : s' (cell.Node n) ≡ s (cell.Node n)
  gone_same = subst (λ (d : Cell). s' d ≡ s d) read.cell (same_words z u v c ready s s' b 1 (gone x) is none)

  -- its prefix, and its children
  module _ (meaning : IsBody body.layout (word_of body)) where
    pub gone_prefix : node_prefix (s (cell.Node n)) ≡ prefix_of (word_of body)
    gone_prefix = ap node_prefix gone_words ∙ cut_node_prefix body.layout (word_of body) meaning

    pub gone_children : (b : ℕ) → b < 256 → child_of n.layout (s (cell.Node n)) b ≡ child_of body.layout (word_of body) b
    gone_children b low =
        ap₂ (λ (l : Layout) (ws : Words). child_of l ws b) (sym read.layout) gone_words
        ∙ sym (cut_child body.layout (word_of body) (cut_body body.layout (word_of body) meaning) b low)

    pub gone_child : (byte : ℕ) (d : Link) → byte < 256 → FitsWord d → child_of body.layout (word_of body) byte ≡ Some (child_word d) → child_at_place (heap_of s) (tree.Slot n byte) ≡ Some d
    gone_child byte d low fits at = child_on s n byte (Some (child_word d)) low (gone_children byte low ∙ at) ∙ link_back d fits

  -- where it has two children it has no third
  pub gone_no_third : (byte word beside other : ℕ) → HasPair body byte word beside other → (e : ℕ) → e ≢ beside → e ≢ byte → child_at_place (heap_of s) (tree.Slot n e) ≡ None
  gone_no_third byte word beside other pair e not_beside not_byte = ⊎_elim
      (λ (low : e < 256).
      let counted = pair.meaning.counted in
      let two = pair.two in
      child_on s n e None low (gone_children pair.meaning e low
      ∙ no_third (child_of body.layout (word_of body)) beside byte other word pair.low_beside pair.low pair.apart pair.another pair.one (omega (arith, counted, two)) e low not_beside not_byte))
      (λ (high : 256 ≤ e). high_child s n e high)
      (cases_lt e 256)

-- a child word names a link whose number takes 32 bits
pub fits_there : (z : Sizes) (d : Link) → IsChildWord z (child_word d) → FitsWord d
fits_there z d (inl zero) = omega (arith, zero)
fits_there z d (inr there) = ⊎_elim
    (λ (low : child_word d / 8 < 2 ^ 32). omega (arith, low))
    (λ (high : 2 ^ 32 ≤ child_word d / 8).
    let none : link_of (child_word d) ≡ None = ap (λ t. cond t (coded (child_word d % 8) (child_word d / 8)) None) (le-ltb (child_word d / 8) (2 ^ 32) high) in
    let some = there.1 in absurd (cc))
    (cases_lt (child_word d / 8) (2 ^ 32))

-- ---- what goes: a leaf and a node

module _ (l : ℕ) (n : Node) where
  -- their child words
  abbrev pub both_words : List ℕ
  both_words = child_word (leaf l) ∷ child_word (node n) ∷ []

  pub words_are : (one other : ℕ) → one ≡ child_word (leaf l) → other ≡ child_word (node n) → one ∷ other ∷ [] ≡ both_words
  words_are one other e f = ap₂ (λ (x y : ℕ). x ∷ y ∷ []) e f

  pub both_unlinked : FitsWord (leaf l) → FitsWord (node n) → links_of both_words ≡ leaf l ∷ node n ∷ []
  both_unlinked l-fits n-fits = ap₂ (λ (o p : Option Link). cons_option o (cons_option p [])) (link_back (leaf l) l-fits) (link_back (node n) n-fits)

  -- in the other order they are the same
  pub both_same : SameMembers (node n ∷ leaf l ∷ []) (leaf l ∷ node n ∷ [])
  both_same d = (
    ⊎_elim (λ (e : d ≡ node n). inr (inl e)) (⊎_elim (λ (e : d ≡ leaf l). inl e) (λ (j : ⊥). absurd j)),
    ⊎_elim (λ (e : d ≡ leaf l). inr (inl e)) (⊎_elim (λ (e : d ≡ node n). inl e) (λ (j : ⊥). absurd j)),
  )

  pub both_once : IsOnce (leaf l ∷ node n ∷ [])
  both_once = (⊎_elim (λ (e : leaf l ≡ node n). absurd (cc)) (λ (j : ⊥). j), ((λ i. i), tt))

  module _ (unlinks : links_of both_words ≡ leaf l ∷ node n ∷ []) where
    pub node_goes : (true ≡ true) ↔ Member (node n) (links_of both_words)
    node_goes = ((λ e. subst (Member (node n)) (sym unlinks) (inr (inl refl))), (λ i. refl))

    pub only_goes : OnlyGoes n both_words
    only_goes m i = ⊎_elim
        (λ (e : node m ≡ leaf l). absurd (cc))
        (⊎_elim (λ (e : node m ≡ node n). let is : m ≡ n = cc in is) (λ (j : ⊥). absurd j))
        (subst (Member (node m)) unlinks i)
