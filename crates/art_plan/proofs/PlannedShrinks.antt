-- A leaf that goes with a node, in whose place a smaller one comes, is planned.
use Rattle.std.proofs.Common.{◌≡◌, ◌⊎◌, ℕ, ◌<◌, ◌≤◌, List, [], ◌∷◌, map, take, cond, eqb, Option, Some, None, refl, sym, ap, ◌∙◌, subst, subst₂, inl, inr, ⊎_elim, arith}
use Rattle.art_cell.specs.Children.{child_word}
use Rattle.art_cell.specs.Reads.{without_child, word_of}
use Rattle.art_cell.specs.Words.{Words, child_of, count_of, prefix_of}
use Rattle.art_cell.specs.declared.cells.Body.{Body}
use Rattle.art_cell.specs.declared.cells.Cell.TheVariants as cell
use Rattle.art_cell.specs.declared.cells.Link.{Link}
use Rattle.art_cell.specs.declared.cells.Link.TheVariants.{Leaf as leaf, Node as node}
use Rattle.art_cell.specs.declared.cells.Node.{Node}
use Rattle.art_cell.specs.declared.cells.Layout.{Layout}
use Rattle.art_cell.specs.declared.cells.Write.{Write}
use Rattle.art_commit.proofs.ChangeWays.{shrink_commits}
use Rattle.art_commit.proofs.Members.{same_commits}
use Rattle.art_commit.specs.CommitLaws.{Before}
use Rattle.art_model.specs.declared.commands.Answer.TheVariants.{Removed}
use Rattle.art_node.specs.Prefixes.{IsNodeOf}
use Rattle.art_node.specs.Sizes.{smaller}
use Rattle.art_plan.proofs.ChildPlaces.{NameThere, same_there, without_child_there}
use Rattle.art_plan.proofs.MadeNodes.{claims_one, made_written, writes_same}
use Rattle.art_plan.proofs.CutWords.{cut_count}
use Rattle.art_plan.proofs.Planning.{may_make, node_comes, one_of_two, two_planned}
use Rattle.art_plan.proofs.PutWords.{with_puts-other}
use Rattle.art_plan.proofs.ReadyCells.{IsMadeCell, IsTargetCell, holds_just, node_kept, so_held}
use Rattle.art_plan.proofs.SiteWords.{HasMeaning, IsWrittenAt, children_read, may_put_site, may_target, may_target_site, names_there, put_plan, site_written}
use Rattle.art_plan.specs.Changes.{IsPlanned, IsReady, leaf_linked, node_made, with_puts}
use Rattle.art_plan.specs.Puts.{IsSitePlan, change_of, puts_of}
use Rattle.art_plan.specs.Seen.{gone, kept, site_stamp}
use Rattle.art_plan.specs.declared.changes.Change.{Change}
use Rattle.art_plan.specs.declared.changes.Target.{Target}
use Rattle.art_plan.specs.declared.changes.Below.{Below}
use Rattle.art_plan.specs.declared.changes.Site.{Site}
use Rattle.art_plan.proofs.FewChildren.{two_kept}
use Rattle.art_plan.proofs.GoneNodes.{both_once, both_same, both_unlinked, both_words, gone_child, gone_children, gone_prefix, gone_same, gone_words, node_goes, only_goes}
use Rattle.art_plan.specs.Remove.Cases.{HasRow, IsShrink}
use Rattle.art_plan.specs.Remove.Removals.{IsSparse, removed, smaller_node}
use Rattle.art_plan.specs.declared.remove.OldLeaf.{OldLeaf}
use Rattle.art_step.specs.Deeds.{key_of}
use Rattle.art_step.specs.Knowledge.{IsNodeCell}
use Rattle.art_step.specs.Steps.Commit as commit
use Rattle.art_step.specs.Tokens.{links_of}
use Rattle.art_step.specs.declared.deeds.Act.TheVariants.{Remove}
use Rattle.art_step.specs.declared.deeds.Deed.TheVariants.{Done}
use Rattle.art_step.specs.declared.views.Sizes.{Sizes}
use Rattle.art_step.specs.declared.views.View.{View}
use Rattle.art_tree.proofs.Places.{at_place}
use Rattle.art_tree.specs.Heaps.{Cells, heap_of, node_prefix}
use Rattle.art_tree.specs.Tree.{HasTwo}
use Rattle.art_tree.specs.WordChanges.{WritesNode, cell_of}

module _ (z : Sizes) (u : View) (site : Site) (old : OldLeaf) (depth : ℕ) (below : Below) (byte number : ℕ) (body : Body) (writes : List Write) (knows : IsShrink z u site old depth below byte (smaller_node below.body.now number)) where
  abbrev k : List ℕ
  k = old.key.items

  abbrev l : ℕ
  l = old.number

  abbrev n : Node
  n = below.node

  abbrev m : Node
  m = smaller_node below.body.now number

  abbrev w : Words
  w = word_of below.body.now

  abbrev c : Change
  c = change_of (kept (site_stamp site) ∷ gone below.stamp ∷ []) (puts_of 0 writes) writes (Some number) body None (both_words l n) (removed old)

  none_put : (ws : List ℕ) → with_puts 1 c.puts.items ws ≡ ws
  none_put ws = with_puts-other 1 0 writes ws (λ e. omega arith)

  module _ (plan : IsSitePlan site (child_word (node m)) writes) (sparse : IsSparse below.body.now byte) (low : byte < 256) (layout : body.layout ≡ smaller below.body.now.layout)
      (shrunk : IsNodeOf (smaller below.body.now.layout) (word_of body) (prefix_of w) (without_child (child_of below.body.now.layout w) byte)) where
    made : node_made c ≡ Some m
    made = ap (λ (i : Layout). Some (record { layout = i; number = number })) layout

    module _ (v : View) (ready : IsReady u c v) (s s' : Cells) (b : Before z v s s') where
      m_written : WritesNode m.layout (s' (cell.Node m)) (node_prefix (s (cell.Node n))) (without_child (child_of n.layout (s (cell.Node n))) byte)
      m_written =
          writes_same m.layout (s' (cell.Node m)) (prefix_of w) (node_prefix (s (cell.Node n))) (without_child (child_of below.body.now.layout w) byte) (without_child (child_of n.layout (s (cell.Node n))) byte)
          (made_written z u v c ready m made s s' b (prefix_of w) _ shrunk)
          (sym (gone_prefix z u v c ready s s' b below.stamp refl none_put n below.body.now knows.there.read sparse.there.meaning))
          (λ e e-low. ap (λ (o : Option ℕ). cond (eqb e byte) None o) (sym (gone_children z u v c ready s s' b below.stamp refl none_put n below.body.now knows.there.read sparse.there.meaning e e-low)))

      -- it has two children, as the old one had three
      m_two : IsNodeCell n (s (cell.Node n)) → HasTwo (heap_of s') m
      m_two form =
          let words = gone_words z u v c ready s s' b below.stamp refl none_put n below.body.now knows.there.read in
          let child = gone_children z u v c ready s s' b below.stamp refl none_put n below.body.now knows.there.read sparse.there.meaning byte low in
          let count = cut_count below.body.now.layout w in
          let two = sparse.two in
          two_kept s s' n m byte (child_word (leaf l)) form low (child ∙ knows.at) (subst (λ (ws : Words). 3 ≤ count_of ws) (sym words) (omega (arith, two, count))) m_written.children

    shrink_may : (v : View) → IsReady u c v → commit.May z v (removed old) (leaf l ∷ node n ∷ []) (commit.coming v (leaf_linked c))
    shrink_may v ready s s' shape known turns =
        let b : Before z v s s' = record { shape = shape; knows = known; new = turns } in
        let at : IsWrittenAt s s' (site_stamp site) (take depth k) (Some (node n)) (Some (node m)) =
        site_written z u v c ready s s' b k depth (Some (node n)) (Some (node m)) writes site knows.there.place (put_plan site (node m) writes plan) refl (λ ws. refl) in
        let just = holds_just z u v c ready (λ d. (d ≡ cell.Node n) ⊎ ((d ≡ cell.Node m) ⊎ (d ≡ cell_of at.place)))
        (λ d. ⊎_elim
        (λ (e : d ≡ cell.Node n). inl (1, gone below.stamp, refl, e ∙ sym knows.there.read.cell))
        (⊎_elim (λ (e : d ≡ cell.Node m). inr (m, made, e)) (λ (e : d ≡ cell_of at.place). inl (0, kept (site_stamp site), refl, e ∙ at.cell_is))))
        (λ d. ⊎_elim
        (λ (t : IsTargetCell c d). ⊎_elim
        (λ (o : (t.0 ≡ 0) × (kept (site_stamp site) ≡ t.1)). inr (inr (t.3 ∙ ap (λ (y : Target). y.stamp.cell) (sym o.1) ∙ sym at.cell_is)))
        (λ (o : (t.0 ≡ 1) × (gone below.stamp ≡ t.1)). inl (t.3 ∙ ap (λ (y : Target). y.stamp.cell) (sym o.1) ∙ knows.there.read.cell))
        (one_of_two (kept (site_stamp site)) (gone below.stamp) t.0 t.1 t.2))
        (λ (o : IsMadeCell c d). let same : Some o.0 ≡ Some m = sym o.1 ∙ made in inr (inl (o.2 ∙ (let is : o.0 ≡ m = cc in ap cell.Node is))))) in
        let row : HasRow old s = so_held z u v c ready s s' b 1 (gone below.stamp) _ refl knows.old_leaf.row in
        let form = shape.nodes n (take depth k) (at_place (heap_of s) at.place (node n) (take depth k) at.at at.was) in
        same_commits z v (removed old) (node n ∷ leaf l ∷ []) (leaf l ∷ node n ∷ []) (node m ∷ []) (commit.coming v (leaf_linked c)) s s' (both_same l n) (both_once l n) (node_comes z u v c ready refl m made)
        (subst₂ (λ (key : List ℕ) (value : ℕ). commit.Commits z v (Done (Remove (key_of key)) (Removed value)) (node n ∷ leaf l ∷ []) (node m ∷ []) s s') row.0 row.1
        (shrink_commits z v s s' at.place (take depth k) n m byte l b (node_kept z u v c ready m knows.made) just (claims_one z u v c ready m made)
        (gone_same z u v c ready s s' b below.stamp refl none_put n below.body.now knows.there.read) at.put (m_written v ready s s' b) at.at at.was
        (gone_child z u v c ready s s' b below.stamp refl none_put n below.body.now knows.there.read sparse.there.meaning byte (leaf l) low knows.old_leaf.fits knows.at) (m_two v ready s s' b form)))

    children : NameThere z (child_of m.layout (word_of body))
    children = same_there z (without_child (child_of below.body.now.layout w) byte) (child_of m.layout (word_of body)) shrunk.children
        (without_child_there z (child_of below.body.now.layout w) byte (children_read z u below.stamp n below.body.now knows.there.read sparse.there.meaning))

    unlinks : links_of (both_words l n) ≡ leaf l ∷ node n ∷ []
    unlinks = both_unlinked l n knows.old_leaf.fits knows.there.fits

    pub shrink_planned : HasMeaning site → IsPlanned z u c
    shrink_planned meaning = two_planned z u (site_stamp site) (gone below.stamp) n (puts_of 0 writes) writes (Some number) body None (both_words l n) (removed old)
        (may_target_site z u k depth (Some (node n)) site knows.there.place)
        (may_target z u below.stamp n below.body.now knows.there.read (gone below.stamp) refl) knows.there.read.cell knows.there.apart
        (ap (map child_word) unlinks)
        (node_goes l n unlinks)
        (only_goes l n unlinks)
        (may_put_site z u c k depth (Some (node n)) (Some (node m)) writes (names_there z (node m) knows.made.fits knows.made.number) site knows.there.place meaning (put_plan site (node m) writes plan) refl)
        (may_make z u c m made knows.made shrunk.body children)
        (λ v ready. subst (λ (us : List Link). commit.May z v (removed old) us (commit.coming v (leaf_linked c))) (sym unlinks) (shrink_may v ready))
