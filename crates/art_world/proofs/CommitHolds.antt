-- A pass holds each node that its commit brings into the tree: of one that it does not hold it knows no word, and so not that its
-- words are those of a node.
use Rattle.std.proofs.Common.{◌≡◌, ◌≢◌, ◌↔◌, ℕ, ◌^◌, Bool, false, if◌then◌else◌, List, inl, inr, ⊎_elim, refl, sym, ap, ◌∙◌, subst, arith}
use Rattle.std.specs.Prelude.{Some}
use Rattle.art_cell.specs.declared.cells.Cell.{Cell}
use Rattle.art_cell.specs.declared.cells.Cell.TheVariants as cell
use Rattle.art_cell.specs.declared.cells.Link.{Link}
use Rattle.art_cell.specs.declared.cells.Link.TheVariants.{Leaf as leaf, Node as node}
use Rattle.art_cell.specs.declared.cells.Node.{Node}
use Rattle.art_cell.specs.Children.{link_of}
use Rattle.art_cell.specs.Words.{Words}
use Rattle.art_tree.specs.Changes.{IsUnlinked, SameTree}
use Rattle.art_tree.specs.Heaps.{Cells, heap_of, key_of, node_child, node_prefix}
use Rattle.art_tree.specs.Tree.{StandsAt}
use Rattle.art_tree.specs.WordChanges.{SameByWords}
use Rattle.art_tree.proofs.Frame.{frame_paths, frame_sound}
use Rattle.art_tree.proofs.Meanings.{same_tree}
use Rattle.art_tree.proofs.Places.{same_cell}
use Rattle.art_step.specs.declared.deeds.Deed.{Deed}
use Rattle.art_step.specs.declared.views.Holding.{Holding}
use Rattle.art_step.specs.declared.views.Sizes.{Sizes}
use Rattle.art_step.specs.declared.views.View.{View}
use Rattle.art_step.specs.Knowledge.{CellAt, IsLeafCell, IsNodeCell, IsShape}
use Rattle.art_step.specs.Sound.{Accounts, HoldsEach, InHandOf, InTree, IsSound}
use Rattle.art_step.specs.Steps.Commit as commit
use Rattle.art_step.specs.Steps.Commit.{AllNew, Commits, Knows}
use Rattle.art_step.specs.Views.{IsLocked, IsNotHeld, Member, Memory, Views, words_in}
use Rattle.art_step.proofs.Facts.{holds_on}
use Rattle.art_step.proofs.StepCommits.{after, after_free, after_held, either_held}

-- the words s, but for those of the node's cell, which no node has
abbrev blank : Node → Cells → Cells
blank n s c = ⊎_elim (λ (is : c ≡ cell.Node n). (λ (i : ℕ). 2 ^ 64)) (λ (other : c ≢ cell.Node n). s c) (same_cell c (cell.Node n))

blank_here : (n : Node) (s : Cells) → blank n s (cell.Node n) ≡ (λ i. 2 ^ 64)
blank_here n s =
    elim (same_cell (cell.Node n) (cell.Node n)) as
    (λ a. ⊎_elim (λ (is : cell.Node n ≡ cell.Node n). (λ (i : ℕ). 2 ^ 64)) (λ (other : cell.Node n ≢ cell.Node n). s (cell.Node n)) a ≡ (λ i. 2 ^ 64)) [
      | inl is ↦ refl
      | inr other ↦ absurd (other refl)
    ]

blank_else : (n : Node) (s : Cells) (c : Cell) → c ≢ cell.Node n → blank n s c ≡ s c
blank_else n s c apart =
    elim (same_cell c (cell.Node n)) as (λ a. ⊎_elim (λ (is : c ≡ cell.Node n). (λ (i : ℕ). 2 ^ 64)) (λ (other : c ≢ cell.Node n). s c) a ≡ s c) [
      | inl is ↦ absurd (apart is)
      | inr other ↦ refl
    ]

module _ (z : Sizes) (m : Memory) (f : Views) (p : ℕ) (v : View) (at : f p ≡ Some v) (r : IsSound z m f) (what : Deed) (us ls : List Link) (may : commit.May z v what us ls) (early : v.committed ≡ false) where
  abbrev s : Cells
  s = r.logical

  mine : HoldsEach m s v
  mine = r.holder.holds p v at

  account : Accounts m r.at p v
  account = r.numbers.accounts p v at

  turns : (t : Cells) → AllNew v.held t (after v.held t)
  turns t = record { here = λ h i. after_held v.held t h mine.single i; there = λ c free. after_free v.held t c free }

  knows : Knows v s
  knows = record {
    old = λ h i. (mine.keeps h i).logical ∙ ap (λ (c : Bool). words_in (if c then h.new else h.old)) early;
    kept = λ h y i j is st. (r.vouch p v at).kept early h y i j is st;
    leaves = λ x l i is. r.holder.at_rest (cell.Leaf l) (λ locked. let o = r.formed.leaves l in omega arith) ∙ (account.leaves x l i is).1;
    hand = λ x i q linked. let a = account.hand x i in let c : r.at x.link ≡ InTree = (r.numbers.tree x.link).1 (q, linked) in let e : InHandOf p ≡ InTree = sym a ∙ c in cc;
  }

  done : Commits z v what us ls s (after v.held s)
  done = may s (after v.held s) r.shows.shape knows (turns s)

  -- a node that comes into the tree, and that the pass does not hold
  module _ (n : Node) (comes : Member (node n) ls) (free : IsNotHeld v.held (cell.Node n)) where
    abbrev t : Cells
    t = blank n s

    unlinked : IsUnlinked (heap_of s) (node n)
    unlinked = let x = (done.comes (node n) comes).1 in subst (IsUnlinked (heap_of s)) x.2 (knows.hand x.0 x.1)

    leaf_else : (l : ℕ) → t (cell.Leaf l) ≡ s (cell.Leaf l)
    leaf_else l = blank_else n s (cell.Leaf l) (λ e. cc)

    node_else : (k : Node) (q : List ℕ) → StandsAt (heap_of s) (node k) q → t (cell.Node k) ≡ s (cell.Node k)
    node_else k q stands = blank_else n s (cell.Node k) (λ e. let same : k ≡ n = cc in unlinked q (subst (λ (a : Node). StandsAt (heap_of s) (node a) q) same stands))

    anchor_else : t cell.Anchor ≡ s cell.Anchor
    anchor_else = blank_else n s cell.Anchor (λ e. cc)

    same : SameByWords s t
    same = record {
      anchor = ap (λ (w : Words). link_of (w 1)) anchor_else;
      leaves = λ l q stands. let e = leaf_else l in (ap key_of e, ap (λ (w : Words). w 0) e);
      nodes = λ k q stands. let e = node_else k q stands in (ap node_prefix e, λ b. ap (λ (w : Words). node_child k.layout w b) e);
    }

    tree : SameTree (heap_of s) (heap_of t)
    tree = same_tree s t same

    paths : (d : Link) (q : List ℕ) → StandsAt (heap_of s) d q ↔ StandsAt (heap_of t) d q
    paths = frame_paths (heap_of s) (heap_of t) tree

    shape : IsShape z t
    shape = let k = r.shows.shape in record {
      tree = frame_sound (heap_of s) (heap_of t) tree k.tree;
      anchor = rw anchor_else k.anchor;
      nodes = λ a q stands. let was = (paths (node a) q).1 stands in subst (IsNodeCell a) (sym (node_else a q was)) (k.nodes a q was);
      leaves = λ l q stands. let was = (paths (leaf l) q).1 stands in subst IsLeafCell (sym (leaf_else l)) (k.leaves l q was);
      numbers = λ d q stands. k.numbers d q ((paths d q).1 stands);
    }

    cell_path : (c : Cell) (q : List ℕ) → CellAt s c q → CellAt t c q
    cell_path cell.Anchor q is = is
    cell_path (cell.Leaf l) q is = (paths (leaf l) q).0 is
    cell_path (cell.Node a) q is = (paths (node a) q).0 is

    knows_too : Knows v t
    knows_too = record {
      old = λ h i. blank_else n s h.cell (free h i) ∙ knows.old h i;
      kept = λ h y i j is st. holds_on s t h.cell y.fact (blank_else n s h.cell (free h i)) (cell_path h.cell) (λ l q stands. leaf_else l) (knows.kept h y i j is st);
      leaves = λ x l i is. leaf_else l ∙ knows.leaves x l i is;
      hand = λ x i q stands. knows.hand x i q ((paths x.link q).1 stands);
    }

    done_too : Commits z v what us ls t (after v.held t)
    done_too = may t (after v.held t) shape knows_too (turns t)

    no_words : ⊥
    no_words =
        let linked = (done_too.comes (node n) comes).0 in
        let low = (done_too.shape.nodes n linked.0 linked.1).body.words 0 in
        let word : after v.held t (cell.Node n) 0 ≡ 2 ^ 64 = ap (λ (w : Words). w 0) (after_free v.held t (cell.Node n) free ∙ blank_here n s) in
        omega (arith, low, word)

  pub linked_is_locked : (n : Node) → Member (node n) ls → IsLocked (m.version (cell.Node n))
  linked_is_locked n comes = ⊎_elim
      (λ (a : (h : Holding) × Member h v.held × (h.cell ≡ cell.Node n)). subst (λ (c : Cell). IsLocked (m.version c)) a.2 (mine.keeps a.0 a.1).locked)
      (λ (free : IsNotHeld v.held (cell.Node n)). absurd (no_words n comes free))
      (either_held v.held (cell.Node n))
