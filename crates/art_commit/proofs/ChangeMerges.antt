-- A node that gives way to its other child is a commit.
use Rattle.std.proofs.Common.{◌≡◌, ◌≢◌, ◌⊎◌, ℕ, List, [], ◌∷◌, ◌++◌, Some, None, refl, sym, ap, ◌∙◌, subst, inl, inr, ⊎_elim}
use Rattle.std.specs.FinMap.{empty, remove}
use Rattle.art_cell.specs.declared.cells.Node.{Node}
use Rattle.art_cell.specs.declared.cells.Cell.{Cell}
use Rattle.art_cell.specs.declared.cells.Cell.TheVariants as cell
use Rattle.art_cell.specs.declared.cells.Link.{Link}
use Rattle.art_cell.specs.declared.cells.Link.TheVariants.{Leaf as leaf, Node as node}
use Rattle.art_model.specs.declared.commands.Answer.TheVariants.{Removed}
use Rattle.art_step.specs.Deeds.{key_of}
use Rattle.art_step.specs.declared.deeds.Act.TheVariants.{Remove}
use Rattle.art_step.specs.declared.views.Sizes.{Sizes}
use Rattle.art_step.specs.declared.views.View.{View}
use Rattle.art_step.specs.declared.deeds.Deed.TheVariants.{Done}
use Rattle.art_tree.specs.Changes.{Merges}
use Rattle.art_commit.specs.CommitLaws.{Before, HoldsJust, ClaimedAmong, IsItsNode, MergeCommits}
use Rattle.art_tree.specs.Heaps.{Cells, node_prefix, heap_of}
use Rattle.art_step.specs.Knowledge.{IsNodeCell}
use Rattle.art_tree.specs.Laws.{Does, MergeTouched, MergePaths}
use Rattle.art_tree.specs.Rows.{ByteMap}
use Rattle.art_step.specs.Steps.Commit.{Commits}
use Rattle.art_tree.specs.Tree.{Place, Slot, Heap, child_at_place, path_past, StandsAt, down, PlaceAt}
use Rattle.art_tree.specs.WordChanges.{FitsWord, WritesPlace, cell_of, KeepsChildren}
use Rattle.art_commit.specs.AnyChange.{Touches, Forms}
use Rattle.art_commit.proofs.AnyChange.{same_words, only_written, once_two, commits_by}
use Rattle.art_commit.proofs.ChangeRows.{remove_rows}
use Rattle.art_commit.proofs.ChangeShapes.{held_fits, kept_formed, place_formed, anchor_formed}
use Rattle.art_tree.proofs.Meanings.{no_leaf}
use Rattle.art_tree.proofs.Places.{at_place, same_cell, same_link}
use Rattle.art_tree.proofs.Renew.{deeper}
use Rattle.art_tree.proofs.TreeLaws.{merge_law}
use Rattle.art_tree.proofs.WordChanges.{merge_by_words}

module _ (z : Sizes) (v : View) (s s' : Cells) (x : Place) (r : List ℕ) (c : Link) (n : Node) (l a b : ℕ) (before : Before z v s s')
    (just : HoldsJust v (λ d. (d ≡ cell.Node n) ⊎ ((d ≡ cell_of x) ⊎ IsItsNode c d))) (among : ClaimedAmong v (λ i. ⊥))
    (old : s' (cell.Node n) ≡ s (cell.Node n)) (put : WritesPlace s s' x (Some c))
    (gains : KeepsChildren s s' c (λ i p. p ≡ node_prefix (s (cell.Node n)) ++ a ∷ node_prefix (s (cell.Node i))))
    (at : PlaceAt (heap_of s) x r) (was : child_at_place (heap_of s) x ≡ Some (node n)) (one : child_at_place (heap_of s) (Slot n a) ≡ Some c) (two : child_at_place (heap_of s) (Slot n b) ≡ Some (leaf l)) (apart : a ≢ b)
    (none : (e : ℕ) → e ≢ a → e ≢ b → child_at_place (heap_of s) (Slot n e) ≡ None) where
  abbrev h : Heap
  h = heap_of s

  abbrev h' : Heap
  h' = heap_of s'

  abbrev Written : Cell → Type 0
  Written d = (d ≡ cell.Node n) ⊎ ((d ≡ cell_of x) ⊎ IsItsNode c d)

  same : (d : Cell) → (Written d → ⊥) → s' d ≡ s d
  same = same_words z v s s' Written before just

  -- the node that goes is held, but not written
  same_but : (d : Cell) → ((d ≡ cell_of x) ⊎ IsItsNode c d → ⊥) → s' d ≡ s d
  same_but d other = ⊎_elim (λ (e : d ≡ cell.Node n). subst (λ y. s' y ≡ s y) (sym e) old) (λ (f : d ≢ cell.Node n). same d (λ w. ⊎_elim f other w)) (same_cell d (cell.Node n))

  fits : FitsWord c
  fits = held_fits s (Slot n a) c one

  at_n : StandsAt h (node n) r
  at_n = at_place h x (node n) r at was

  at_c : StandsAt h c (path_past h n r a)
  at_c = down a at_n one refl

  at_l : StandsAt h (leaf l) (path_past h n r b)
  at_l = down b at_n two refl

  merges : Merges h h' x c n l a b
  merges = merge_by_words s s' x r c n l a b (record { put = put; gains = gains; rest = only_written s s' (λ d. (d ≡ cell_of x) ⊎ IsItsNode c d) same_but }) before.shape.tree.once at was one two apart none fits

  merge_does : (f : ByteMap) → Does h h' (MergeTouched c n l) (MergePaths c r) f (remove f (h.key l))
  merge_does f = merge_law h h' x c n l a b r f before.shape.tree at merges

  c_not_n : c ≢ node n
  c_not_n e = deeper h (node n) n r a before.shape.tree.once at_n (subst (λ y. StandsAt h y (path_past h n r a)) e at_c)

  c_not_l : c ≢ leaf l
  c_not_l e =
      let place : Slot n a ≡ Slot n b = before.shape.tree.once (Slot n a) (Slot n b) (path_past h n r a) (path_past h n r b) c (r, at_n, refl) (r, at_n, refl) one (two ∙ ap Some (sym e)) in
      let byte : a ≡ b = cc in apart byte

  merge_touches : Touches v (node n ∷ leaf l ∷ []) [] s (MergeTouched c n l) (MergePaths c r)
  merge_touches = record {
    leaves = λ d i. ⊎_elim
        (λ (e : d ≡ node n). (inl e, (r, subst (λ y. StandsAt h y r) (sym e) at_n), λ p f. c_not_n (sym f.0 ∙ e)))
        (⊎_elim (λ (e : d ≡ leaf l). (inr (inl e), (path_past h n r b, subst (λ y. StandsAt h y (path_past h n r b)) (sym e) at_l), λ p f. c_not_l (sym f.0 ∙ e))) (λ (i : ⊥). absurd i)) i;
    comes = λ d i. absurd i;
    stays = λ d o. ⊎_elim
        (λ (e : d ≡ node n). inr (inl (inl e)))
        (λ (f : d ≢ node n). ⊎_elim
        (λ (e : d ≡ leaf l). inr (inl (inr (inl e))))
        (λ (g : d ≢ leaf l). ⊎_elim (λ (e : d ≡ c). inr (inr (r, (e, refl)))) (λ (i : d ≢ c). inl (λ t. ⊎_elim f (⊎_elim g i) t)) (same_link d c))
        (same_link d (leaf l)))
        (same_link d (node n));
    linked = λ d p e. inr (path_past h n r a, subst (λ y. StandsAt h y (path_past h n r a)) (sym e.0) at_c);
    held = λ i o t. ⊎_elim
        (λ (e : node i ≡ node n). let is : i ≡ n = cc in just.each (cell.Node i) (inl (ap cell.Node is)))
        (⊎_elim (λ (e : node i ≡ leaf l). absurd (cc)) (λ (e : node i ≡ c). just.each (cell.Node i) (inr (inr (i, sym e, refl))))) t;
  }

  merge_forms : Forms z [] s s' Written
  merge_forms = record {
    anchor = anchor_formed z s s' x (Some c) before.shape put fits (λ other. same_but cell.Anchor (λ w. ⊎_elim other (λ (o : IsItsNode c cell.Anchor). let e = o.2 in absurd (cc)) w));
    nodes = λ i o w. ⊎_elim
        (λ (e : cell.Node i ≡ cell.Node n). subst (IsNodeCell i) (subst (λ y. s y ≡ s' y) (sym e) (sym old)) (before.shape.nodes i o.0 o.1))
        (⊎_elim
        (λ (e : cell.Node i ≡ cell_of x). place_formed z s s' x (Some c) r before.shape at put fits i e)
        (λ (j : IsItsNode c (cell.Node i)). let e = j.2 in let is : j.0 ≡ i = cc in kept_formed s s' c _ i gains (j.1 ∙ ap node is) (before.shape.nodes i o.0 o.1)))
        w;
    no_leaf = λ i w. ⊎_elim (λ (e : cell.Leaf i ≡ cell.Node n). absurd (cc)) (⊎_elim (no_leaf x i) (λ (o : IsItsNode c (cell.Leaf i)). let e = o.2 in absurd (cc))) w;
    new = λ d i. absurd i;
  }

  merged : Commits z v (Done (Remove (key_of (h.key l))) (Removed (h.value l))) (node n ∷ leaf l ∷ []) [] s s'
  merged = commits_by z v s s' Written before just (Done (Remove (key_of (h.key l))) (Removed (h.value l))) (node n ∷ leaf l ∷ []) [] (MergeTouched c n l) (MergePaths c r) (merge_does empty).moves
      (remove_rows h h' l (path_past h n r b) at_l (λ f rows. (merge_does f).rows rows)) merge_touches merge_forms (λ i. ⊥) among (λ i e. absurd e) (once_two n l)

pub merge_commits : MergeCommits
merge_commits = merged
