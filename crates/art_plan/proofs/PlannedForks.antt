-- A leaf that comes beside another leaf, below a new node, is planned.
use Rattle.std.proofs.Common.{◌≡◌, ◌≢◌, ◌⊎◌, ℕ, ◌+◌, ◌<◌, List, [], ◌∷◌, ◌++◌, length, take, drop, get_or, Some, refl, sym, ap, ◌∙◌, subst, inl, inr, ⊎_elim}
use Rattle.std.proofs.Math.Seq.{take-add}
use Rattle.art_cell.specs.Children.{child_word}
use Rattle.art_cell.specs.Reads.{word_of}
use Rattle.art_cell.specs.Words.{child_of}
use Rattle.art_cell.specs.declared.cells.Body.{Body}
use Rattle.art_cell.specs.declared.cells.Cell.TheVariants as cell
use Rattle.art_cell.specs.declared.cells.Link.TheVariants.{Leaf as leaf, Node as node}
use Rattle.art_cell.specs.declared.cells.Layout.{Layout}
use Rattle.art_cell.specs.declared.cells.Layout.TheVariants.{Node4}
use Rattle.art_cell.specs.declared.cells.Write.{Write}
use Rattle.art_commit.proofs.ChangeForks.{fork_commits}
use Rattle.art_commit.proofs.Members.{same_commits}
use Rattle.art_commit.specs.CommitLaws.{Before, IsItsNode}
use Rattle.art_plan.specs.Insert.Cases.{IsForkLeaf}
use Rattle.art_plan.specs.Insert.Puts.{inserted, node4}
use Rattle.art_plan.specs.Puts.{IsSitePlan, change_of, puts_of}
use Rattle.art_plan.specs.declared.insert.NewLeaf.{NewLeaf}
use Rattle.art_plan.specs.declared.insert.Parting.{Parting}
use Rattle.art_node.specs.Prefixes.{IsNodeOf, two_of}
use Rattle.art_plan.specs.Changes.{IsPlanned, IsReady, leaf_linked, node_made}
use Rattle.art_plan.specs.Seen.{kept, site_stamp}
use Rattle.art_plan.specs.declared.changes.Change.{Change}
use Rattle.art_plan.specs.declared.changes.Target.{Target}
use Rattle.art_plan.specs.declared.changes.Site.{Site}
use Rattle.art_step.specs.Steps.Commit as commit
use Rattle.art_step.specs.declared.views.Sizes.{Sizes}
use Rattle.art_step.specs.declared.views.View.{View}
use Rattle.art_tree.specs.Heaps.{heap_of}
use Rattle.art_tree.specs.Tree.{Begins}
use Rattle.art_tree.specs.WordChanges.{FitsWord, cell_of}
use Rattle.art_plan.proofs.ForkNodes.{begins_at, two_there}
use Rattle.art_plan.proofs.ChildPlaces.{NameThere, same_there}
use Rattle.art_plan.proofs.MadeNodes.{claims_one, key_small, made_written}
use Rattle.art_plan.proofs.Planning.{both_come, may_make, one_of_one, one_planned}
use Rattle.art_plan.proofs.ReadyCells.{IsMadeCell, IsTargetCell, holds_just, leaf_kept, node_kept, so_held}
use Rattle.art_plan.proofs.SiteWords.{HasMeaning, IsWrittenAt, may_put_site, may_target_site, names_there, put_plan, site_written}

module _ (z : Sizes) (u : View) (site : Site) (new : NewLeaf) (parting : Parting) (other a number : ℕ) (body : Body) (writes : List Write) (knows : IsForkLeaf z u site new parting other a number) where
  abbrev k : List ℕ
  k = new.key.items

  abbrev at : ℕ
  at = parting.depth + parting.common

  abbrev common : List ℕ
  common = take parting.common (drop parting.depth k)

  abbrev c : Change
  c = change_of (kept (site_stamp site) ∷ []) (puts_of 0 writes) writes (Some number) body (Some new.number) [] (inserted new)

  module _ (plan : IsSitePlan site (child_word (node (node4 number))) writes) (inside : at < length k) (other-fits : FitsWord (leaf other)) (a-low : a < 256) (apart : a ≢ get_or k at 0)
      (layout : body.layout ≡ Node4) (forked : IsNodeOf Node4 (word_of body) common (two_of a (child_word (leaf other)) (get_or k at 0) (child_word (leaf new.number)))) where
    made : node_made c ≡ Some (node4 number)
    made = ap (λ (l : Layout). Some (record { layout = l; number = number })) layout

    module _ (v : View) (ready : IsReady u c v) where
      fork_leaf_may : commit.May z v (inserted new) [] (commit.coming v (leaf_linked c))
      fork_leaf_may s s' shape known turns =
          let b : Before z v s s' = record { shape = shape; knows = known; new = turns } in
          let w : IsWrittenAt s s' (site_stamp site) (take parting.depth k) (Some (leaf other)) (Some (node (node4 number))) =
          site_written z u v c ready s s' b k parting.depth (Some (leaf other)) (Some (node (node4 number))) writes site knows.place (put_plan site (node (node4 number)) writes plan) refl (λ ws. refl) in
          let just = holds_just z u v c ready (λ d. (d ≡ cell.Node (node4 number)) ⊎ ((d ≡ cell_of w.place) ⊎ IsItsNode (leaf other) d))
          (λ d. ⊎_elim
          (λ (e : d ≡ cell.Node (node4 number)). inr (node4 number, made, e))
          (⊎_elim (λ (e : d ≡ cell_of w.place). inl (0, kept (site_stamp site), refl, e ∙ w.cell_is)) (λ (i : IsItsNode (leaf other) d). let e = i.1 in absurd (cc))))
          (λ d. ⊎_elim
          (λ (t : IsTargetCell c d). inr (inl (t.3 ∙ ap (λ (y : Target). y.stamp.cell) (sym (one_of_one (kept (site_stamp site)) t.0 t.1 t.2).1) ∙ sym w.cell_is)))
          (λ (n : IsMadeCell c d). let same : Some n.0 ≡ Some (node4 number) = sym n.1 ∙ made in inl (n.2 ∙ (let is : n.0 ≡ node4 number = cc in ap cell.Node is)))) in
          let shown = so_held z u v c ready s s' b 0 (kept (site_stamp site)) _ refl knows.begins in
          let parts = take-add parting.depth parting.common k in
          same_commits z v (inserted new) [] [] (leaf new.number ∷ node (node4 number) ∷ []) (commit.coming v (leaf_linked c)) s s' (λ d. ((λ i. i), (λ i. i))) tt
          (both_come z u v c ready new.number refl (node4 number) made)
          (fork_commits z v s s' w.place (take parting.depth k) (leaf other) (node4 number) new.number a (get_or k at 0) common k new.value b
          (leaf_kept z u v c ready new.number k new.value knows.new_leaf) (node_kept z u v c ready (node4 number) knows.made) just (claims_one z u v c ready (node4 number) made) w.put
          (made_written z u v c ready (node4 number) made s s' b common _ forked) tt w.at w.was a-low (key_small z u new.number k new.value at knows.new_leaf) apart
          (λ i e. let is : other ≡ i = cc in subst (λ (j : ℕ). Begins (take parting.depth k ++ common ++ a ∷ []) ((heap_of s).key j)) is (subst (λ (p : List ℕ). Begins (p ++ a ∷ []) ((heap_of s).key other)) parts shown))
          (subst (λ (p : List ℕ). Begins (p ++ get_or k at 0 ∷ []) k) parts (begins_at k at inside)))

    children : NameThere z (child_of Node4 (word_of body))
    children = same_there z (two_of a (child_word (leaf other)) (get_or k at 0) (child_word (leaf new.number))) (child_of Node4 (word_of body)) forked.children
        (two_there z a (child_word (leaf other)) (get_or k at 0) (child_word (leaf new.number)) (names_there z (leaf other) other-fits knows.there) (names_there z (leaf new.number) knows.new_leaf.fits knows.new_leaf.number))

    pub fork_leaf_planned : HasMeaning site → IsPlanned z u c
    fork_leaf_planned meaning = one_planned z u (site_stamp site) (puts_of 0 writes) writes (Some number) body (Some new.number) [] (inserted new)
        (may_target_site z u k parting.depth (Some (leaf other)) site knows.place) refl (λ m i. absurd i)
        (may_put_site z u c k parting.depth (Some (leaf other)) (Some (node (node4 number))) writes (names_there z (node (node4 number)) knows.made.fits knows.made.number) site knows.place meaning (put_plan site (node (node4 number)) writes plan) refl)
        (may_make z u c (node4 number) made knows.made forked.body children)
        fork_leaf_may
