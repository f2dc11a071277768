-- A leaf that comes to a free place is planned.
use Rattle.std.proofs.Common.{◌≡◌, ℕ, List, [], ◌∷◌, take, drop, Some, None, refl, sym, ap, ◌∙◌, inl, ⊎_elim}
use Rattle.std.proofs.lemmas.List.{take-append-drop}
use Rattle.art_cell.specs.Children.{child_word}
use Rattle.art_cell.specs.declared.cells.Body.{Body}
use Rattle.art_cell.specs.declared.cells.Link.TheVariants.{Leaf as leaf}
use Rattle.art_cell.specs.declared.cells.Write.{Write}
use Rattle.art_commit.proofs.ChangeLeaves.{add_commits}
use Rattle.art_commit.proofs.Members.{same_commits}
use Rattle.art_commit.specs.CommitLaws.{Before}
use Rattle.art_plan.specs.Insert.Cases.{IsAdd}
use Rattle.art_plan.specs.Insert.Puts.{inserted}
use Rattle.art_plan.specs.Puts.{IsSitePlan, change_of, puts_of}
use Rattle.art_plan.specs.declared.insert.NewLeaf.{NewLeaf}
use Rattle.art_plan.specs.Changes.{IsPlanned, IsReady, leaf_linked}
use Rattle.art_plan.specs.Seen.{kept, site_stamp}
use Rattle.art_plan.specs.declared.changes.Change.{Change}
use Rattle.art_plan.specs.declared.changes.Site.{Site}
use Rattle.art_step.specs.Steps.Commit as commit
use Rattle.art_step.specs.declared.views.Sizes.{Sizes}
use Rattle.art_step.specs.declared.views.View.{View}
use Rattle.art_tree.specs.WordChanges.{cell_of}
use Rattle.art_plan.proofs.Planning.{leaf_comes, one_of_one, one_planned}
use Rattle.art_plan.proofs.ReadyCells.{claims_made, holds_just, leaf_kept, IsMadeCell, IsTargetCell}
use Rattle.art_plan.proofs.SiteWords.{HasMeaning, IsWrittenAt, may_put_site, may_target_site, names_there, put_plan, site_written}

module _ (z : Sizes) (u : View) (site : Site) (new : NewLeaf) (depth : ℕ) (body : Body) (writes : List Write) (knows : IsAdd z u site new depth) (plan : IsSitePlan site (child_word (leaf new.number)) writes) where
  abbrev k : List ℕ
  k = new.key.items

  abbrev c : Change
  c = change_of (kept (site_stamp site) ∷ []) (puts_of 0 writes) writes None body (Some new.number) [] (inserted new)

  module _ (v : View) (ready : IsReady u c v) where
    add_may : commit.May z v (inserted new) [] (commit.coming v (leaf_linked c))
    add_may s s' shape known turns =
        let b : Before z v s s' = record { shape = shape; knows = known; new = turns } in
        let w : IsWrittenAt s s' (site_stamp site) (take depth k) None (Some (leaf new.number)) = site_written z u v c ready s s' b k depth None (Some (leaf new.number)) writes site knows.place (put_plan site (leaf new.number) writes plan) refl (λ ws. refl) in
        let just = holds_just z u v c ready (λ d. d ≡ cell_of w.place)
        (λ d e. inl (0, kept (site_stamp site), refl, e ∙ w.cell_is))
        (λ d. ⊎_elim
        (λ (t : IsTargetCell c d). t.3 ∙ ap (λ y. y.stamp.cell) (sym (one_of_one (kept (site_stamp site)) t.0 t.1 t.2).1) ∙ sym w.cell_is)
        (λ (n : IsMadeCell c d). let e = n.1 in absurd (cc))) in
        same_commits z v (inserted new) [] [] (leaf new.number ∷ []) (commit.coming v (leaf_linked c)) s s' (λ d. ((λ i. i), (λ i. i))) tt (leaf_comes z u v c ready new.number refl refl)
        (add_commits z v s s' w.place (take depth k) new.number k new.value b (leaf_kept z u v c ready new.number k new.value knows.new_leaf) just
        (λ h n i free is. let e = claims_made z u v c ready h n i free is in absurd (cc)) w.put w.at w.was (drop depth k, take-append-drop depth k))

  pub add_planned : HasMeaning site → IsPlanned z u c
  add_planned meaning = one_planned z u (site_stamp site) (puts_of 0 writes) writes None body (Some new.number) [] (inserted new)
      (may_target_site z u k depth None site knows.place) refl (λ m i. absurd i)
      (may_put_site z u c k depth None (Some (leaf new.number)) writes (names_there z (leaf new.number) knows.new_leaf.fits knows.new_leaf.number) site knows.place meaning (put_plan site (leaf new.number) writes plan) refl)
      (λ n e. absurd (cc))
      add_may
