-- A leaf that comes with a larger node, which takes the place of a full one, is planned.
use Rattle.std.proofs.Common.{◌≡◌, ◌⊎◌, ℕ, ◌<◌, ◌≤◌, List, [], ◌∷◌, ◌++◌, map, take, cond, eqb, Option, Some, None, refl, sym, ap, ap₂, ◌∙◌, subst, inl, inr, ⊎_elim, arith}
use Rattle.art_cell.specs.Children.{child_word}
use Rattle.art_cell.specs.Reads.{with_child, word_of}
use Rattle.art_cell.specs.Words.{Words, child_of, prefix_len, prefix_of}
use Rattle.art_cell.specs.declared.cells.Body.{Body}
use Rattle.art_cell.specs.declared.cells.Cell.{Cell}
use Rattle.art_cell.specs.declared.cells.Cell.TheVariants as cell
use Rattle.art_cell.specs.declared.cells.Link.{Link}
use Rattle.art_cell.specs.declared.cells.Link.TheVariants.{Leaf as leaf, Node as node}
use Rattle.art_cell.specs.declared.cells.Node.{Node}
use Rattle.art_cell.specs.declared.cells.Layout.{Layout}
use Rattle.art_cell.specs.declared.cells.Write.{Write}
use Rattle.art_commit.proofs.ChangeWays.{grow_commits}
use Rattle.art_commit.proofs.Members.{same_commits}
use Rattle.art_commit.specs.CommitLaws.{Before}
use Rattle.art_plan.specs.Insert.Cases.{IsGrow}
use Rattle.art_plan.specs.Insert.Puts.{inserted, larger_node}
use Rattle.art_plan.specs.Puts.{IsCrowded, IsSitePlan, change_of, puts_of}
use Rattle.art_plan.specs.declared.changes.Below.{Below}
use Rattle.art_plan.specs.declared.insert.NewLeaf.{NewLeaf}
use Rattle.art_node.specs.Prefixes.{IsNodeOf}
use Rattle.art_node.specs.Sizes.{larger}
use Rattle.art_plan.specs.Changes.{IsPlanned, IsReady, leaf_linked, node_made}
use Rattle.art_plan.specs.Seen.{gone, kept, site_stamp}
use Rattle.art_plan.specs.declared.changes.Change.{Change}
use Rattle.art_plan.specs.declared.changes.Target.{Target}
use Rattle.art_plan.specs.declared.changes.Site.{Site}
use Rattle.art_step.proofs.Shows.{child_on}
use Rattle.art_step.specs.Steps.Commit as commit
use Rattle.art_step.specs.Tokens.{links_of}
use Rattle.art_step.specs.Views.{Member, words_in}
use Rattle.art_step.specs.declared.views.Sizes.{Sizes}
use Rattle.art_step.specs.declared.views.View.{View}
use Rattle.art_tree.proofs.Meanings.{words_mean}
use Rattle.art_tree.specs.Heaps.{Cells, heap_of, node_prefix}
use Rattle.art_tree.specs.Tree.{Begins, child_at_place}
use Rattle.art_tree.specs.Tree as tree
use Rattle.art_tree.specs.WordChanges.{WritesNode, cell_of}
use Rattle.art_plan.proofs.ChildPlaces.{NameThere, same_there, with_child_there}
use Rattle.art_plan.proofs.MadeNodes.{claims_one, cut_node_prefix, made_written, writes_same}
use Rattle.art_cell.specs.Bodies.{IsBody}
use Rattle.art_plan.proofs.CutWords.{cut_body, cut_child, cut_prefix, cut_words}
use Rattle.art_plan.proofs.Planning.{both_come, may_make, one_of_two, one_unlinked, two_planned}
use Rattle.art_plan.proofs.PutWords.{with_puts-other}
use Rattle.art_plan.proofs.ReadyCells.{IsMadeCell, IsTargetCell, holds_just, leaf_kept, locked, new_words, node_kept, old_words}
use Rattle.art_plan.proofs.SiteWords.{HasMeaning, IsWrittenAt, children_read, may_put_site, may_target, may_target_site, names_there, put_plan, site_written, whole_before}

module _ (z : Sizes) (u : View) (site : Site) (new : NewLeaf) (depth : ℕ) (below : Below) (byte number : ℕ) (body : Body) (writes : List Write) (knows : IsGrow z u site new depth below byte (larger_node below.body.now number)) where
  abbrev k : List ℕ
  k = new.key.items

  abbrev n : Node
  n = below.node

  abbrev m : Node
  m = larger_node below.body.now number

  abbrev w : Words
  w = word_of below.body.now

  abbrev c : Change
  c = change_of (kept (site_stamp site) ∷ gone below.stamp ∷ []) (puts_of 0 writes) writes (Some number) body (Some new.number) (child_word (node n) ∷ []) (inserted new)

  module _ (plan : IsSitePlan site (child_word (node m)) writes) (crowded : IsCrowded below.body.now byte) (low : byte < 256) (layout : body.layout ≡ larger below.body.now.layout)
      (grown : IsNodeOf (larger below.body.now.layout) (word_of body) (prefix_of w) (with_child (child_of below.body.now.layout w) byte (child_word (leaf new.number)))) where
    made : node_made c ≡ Some m
    made = ap (λ (l : Layout). Some (record { layout = l; number = number })) layout

    module _ (v : View) (ready : IsReady u c v) (s s' : Cells) (b : Before z v s s') where
      -- the words of the node that goes stay
      n_before : s (cell.Node n) ≡ cut_words below.body.now.layout w
      n_before = whole_before z u v c ready s s' b 1 (gone below.stamp) refl [] (λ ws. with_puts-other 1 0 writes ws (λ e. omega arith)) n below.body.now knows.there.read

      n_same : s' (cell.Node n) ≡ s (cell.Node n)
      n_same =
          let h = locked z u v c ready 1 (gone below.stamp) refl in
          subst (λ (d : Cell). s' d ≡ s d) knows.there.read.cell
          (new_words z u v c ready s s' b 1 (gone below.stamp) refl ∙ ap words_in (with_puts-other 1 0 writes h.0.old (λ e. omega arith)) ∙ sym (old_words z u v c ready s s' b 1 (gone below.stamp) refl))

      -- its prefix, and its children
      prefix_is : node_prefix (s (cell.Node n)) ≡ prefix_of w
      prefix_is = ap node_prefix n_before ∙ cut_node_prefix below.body.now.layout w crowded.meaning

      same_node : IsBody below.body.now.layout (cut_words below.body.now.layout w)
      same_node = cut_body below.body.now.layout w crowded.meaning

      children_are : (e : ℕ) → e < 256 → child_of n.layout (s (cell.Node n)) e ≡ child_of below.body.now.layout w e
      children_are e e-low =
          ap₂ (λ (l : Layout) (ws : Words). child_of l ws e) (sym knows.there.read.layout) n_before
          ∙ sym (cut_child below.body.now.layout w same_node e e-low)

      m_written : WritesNode m.layout (s' (cell.Node m)) (node_prefix (s (cell.Node n))) (with_child (child_of n.layout (s (cell.Node n))) byte (child_word (leaf new.number)))
      m_written =
          writes_same m.layout (s' (cell.Node m)) (prefix_of w) (node_prefix (s (cell.Node n)))
          (with_child (child_of below.body.now.layout w) byte (child_word (leaf new.number))) (with_child (child_of n.layout (s (cell.Node n))) byte (child_word (leaf new.number)))
          (made_written z u v c ready m made s s' b (prefix_of w) _ grown) (sym prefix_is)
          (λ e e-low. ap (λ (o : Option ℕ). cond (eqb e byte) (Some (child_word (leaf new.number))) o) (sym (children_are e e-low)))

      n_free : child_at_place (heap_of s) (tree.Slot n byte) ≡ None
      n_free = child_on s n byte None low (children_are byte low ∙ crowded.free)

      way : Begins (take depth k ++ (heap_of s).prefix n ++ byte ∷ []) k
      way =
          let short = subst (λ (ws : Words). prefix_len ws ≤ 64) (sym n_before) same_node.prefix.short in
          subst (λ (p : List ℕ). Begins (take depth k ++ p ++ byte ∷ []) k)
          (sym ((words_mean s).prefix n short ∙ ap prefix_of n_before ∙ sym (cut_prefix below.body.now.layout w same_node))) knows.way

    grow_may : (v : View) → IsReady u c v → commit.May z v (inserted new) (node n ∷ []) (commit.coming v (leaf_linked c))
    grow_may v ready s s' shape known turns =
        let b : Before z v s s' = record { shape = shape; knows = known; new = turns } in
        let at : IsWrittenAt s s' (site_stamp site) (take depth k) (Some (node n)) (Some (node m)) =
        site_written z u v c ready s s' b k depth (Some (node n)) (Some (node m)) writes site knows.there.place (put_plan site (node m) writes plan) refl (λ ws. refl) in
        let just = holds_just z u v c ready (λ d. (d ≡ cell.Node n) ⊎ ((d ≡ cell.Node m) ⊎ (d ≡ cell_of at.place)))
        (λ d. ⊎_elim
        (λ (e : d ≡ cell.Node n). inl (1, gone below.stamp, refl, e ∙ sym knows.there.read.cell))
        (⊎_elim (λ (e : d ≡ cell.Node m). inr (m, made, e)) (λ (e : d ≡ cell_of at.place). inl (0, kept (site_stamp site), refl, e ∙ at.cell_is))))
        (λ d. ⊎_elim
        (λ (t : IsTargetCell c d). ⊎_elim
        (λ (o : (t.0 ≡ 0) × (kept (site_stamp site) ≡ t.1)). inr (inr (t.3 ∙ ap (λ (y : Target). y.stamp.cell) (sym o.1) ∙ sym at.cell_is)))
        (λ (o : (t.0 ≡ 1) × (gone below.stamp ≡ t.1)). inl (t.3 ∙ ap (λ (y : Target). y.stamp.cell) (sym o.1) ∙ knows.there.read.cell))
        (one_of_two (kept (site_stamp site)) (gone below.stamp) t.0 t.1 t.2))
        (λ (o : IsMadeCell c d). let same : Some o.0 ≡ Some m = sym o.1 ∙ made in inr (inl (o.2 ∙ (let is : o.0 ≡ m = cc in ap cell.Node is))))) in
        same_commits z v (inserted new) (node n ∷ []) (node n ∷ []) (leaf new.number ∷ node m ∷ []) (commit.coming v (leaf_linked c)) s s' (λ d. ((λ i. i), (λ i. i))) ((λ i. i), tt)
        (both_come z u v c ready new.number refl m made)
        (grow_commits z v s s' at.place (take depth k) n m byte new.number k new.value b (leaf_kept z u v c ready new.number k new.value knows.new_leaf) (node_kept z u v c ready m knows.made) just
        (claims_one z u v c ready m made) (n_same v ready s s' b) at.put (m_written v ready s s' b) at.at at.was low (n_free v ready s s' b) (way v ready s s' b))

    children : NameThere z (child_of m.layout (word_of body))
    children = same_there z (with_child (child_of below.body.now.layout w) byte (child_word (leaf new.number))) (child_of m.layout (word_of body)) grown.children
        (with_child_there z (child_of below.body.now.layout w) byte (child_word (leaf new.number)) (children_read z u below.stamp n below.body.now knows.there.read crowded.meaning)
        (names_there z (leaf new.number) knows.new_leaf.fits knows.new_leaf.number))

    unlinks : links_of (child_word (node n) ∷ []) ≡ node n ∷ []
    unlinks = one_unlinked (node n) knows.there.fits

    pub grow_planned : HasMeaning site → IsPlanned z u c
    grow_planned meaning = two_planned z u (site_stamp site) (gone below.stamp) n (puts_of 0 writes) writes (Some number) body (Some new.number) (child_word (node n) ∷ []) (inserted new)
        (may_target_site z u k depth (Some (node n)) site knows.there.place)
        (may_target z u below.stamp n below.body.now knows.there.read (gone below.stamp) refl) knows.there.read.cell knows.there.apart
        (ap (map child_word) unlinks)
        ((λ e. subst (Member (node n)) (sym unlinks) (inl refl)), (λ i. refl))
        (λ o i. ⊎_elim (λ (e : node o ≡ node n). let is : o ≡ n = cc in is) (λ (j : ⊥). absurd j) (subst (Member (node o)) unlinks i))
        (may_put_site z u c k depth (Some (node n)) (Some (node m)) writes (names_there z (node m) knows.made.fits knows.made.number) site knows.there.place meaning (put_plan site (node m) writes plan) refl)
        (may_make z u c m made knows.made grown.body children)
        (λ v ready. subst (λ (us : List Link). commit.May z v (inserted new) us (commit.coming v (leaf_linked c))) (sym unlinks) (grow_may v ready))
