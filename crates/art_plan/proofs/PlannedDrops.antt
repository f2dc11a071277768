-- A leaf that goes from its place is planned.
use Rattle.std.proofs.Common.{◌≡◌, ℕ, ◌≤◌, List, [], ◌∷◌, map, take, Some, None, refl, sym, ap, ◌∙◌, subst, subst₂, inl, ⊎_elim, arith}
use Rattle.art_cell.specs.Children.{child_word}
use Rattle.art_cell.specs.Reads.{word_of}
use Rattle.art_cell.specs.Words.{Words, count_of}
use Rattle.art_cell.specs.declared.cells.Body.{Body}
use Rattle.art_cell.specs.declared.cells.Cell.{Cell}
use Rattle.art_cell.specs.declared.cells.Cell.TheVariants as cell
use Rattle.art_cell.specs.declared.cells.Link.{Link}
use Rattle.art_cell.specs.declared.cells.Link.TheVariants.{Leaf as leaf, Node as node}
use Rattle.art_cell.specs.declared.cells.Node.{Node}
use Rattle.art_cell.specs.declared.cells.Write.{Write}
use Rattle.art_commit.proofs.ChangeLeaves.{drop_commits}
use Rattle.art_commit.proofs.Members.{same_commits}
use Rattle.art_commit.specs.CommitLaws.{Before}
use Rattle.art_model.specs.declared.commands.Answer.TheVariants.{Removed}
use Rattle.art_plan.specs.Changes.{IsPlanned, IsReady, leaf_linked}
use Rattle.art_plan.specs.Puts.{IsDropPlan, IsTaken, change_of, puts_of}
use Rattle.art_plan.specs.Seen.{SiteFits, kept, site_stamp}
use Rattle.art_plan.specs.declared.changes.Change.{Change}
use Rattle.art_plan.specs.declared.changes.Site.{Site}
use Rattle.art_plan.specs.declared.changes.Site.TheVariants.{Root, Slot}
use Rattle.art_plan.specs.Remove.Cases.{HasRow, IsDrop}
use Rattle.art_plan.specs.Remove.Removals.{KeepsTwo, removed}
use Rattle.art_plan.specs.declared.remove.OldLeaf.{OldLeaf}
use Rattle.art_step.specs.Deeds.{key_of}
use Rattle.art_step.specs.Steps.Commit as commit
use Rattle.art_step.specs.Tokens.{links_of}
use Rattle.art_step.specs.Views.{Member}
use Rattle.art_step.specs.declared.deeds.Act.TheVariants.{Remove}
use Rattle.art_step.specs.declared.deeds.Deed.TheVariants.{Done}
use Rattle.art_step.specs.declared.views.Sizes.{Sizes}
use Rattle.art_step.specs.declared.views.View.{View}
use Rattle.art_tree.specs.Heaps.{Cells, heap_of}
use Rattle.art_tree.specs.Tree.{HasTwo}
use Rattle.art_tree.specs.Tree as tree
use Rattle.art_tree.specs.WordChanges.{WritesPlace, cell_of}
use Rattle.art_plan.proofs.CutWords.{cut_count, cut_words}
use Rattle.art_plan.proofs.MadeChanges.{taken_meaning}
use Rattle.art_plan.proofs.Planning.{none_come, one_of_one, one_planned, one_unlinked}
use Rattle.art_plan.proofs.ReadyCells.{claims_made, holds_just, so_held, IsMadeCell, IsTargetCell}
use Rattle.art_plan.proofs.SiteWords.{IsWrittenAt, drop_plan, may_put_site, may_target_site, site_written, whole_before}
use Rattle.art_plan.proofs.FewChildren.{has_word, two_kept}

module _ (z : Sizes) (u : View) (old : OldLeaf) (depth : ℕ) (body : Body) (writes : List Write) where
  abbrev k : List ℕ
  k = old.key.items

  abbrev l : ℕ
  l = old.number

  abbrev c : Site → Change
  c site = change_of (kept (site_stamp site) ∷ []) (puts_of 0 writes) writes None body None (child_word (leaf l) ∷ []) (removed old)

  module _ (v : View) (s s' : Cells) (b : Before z v s s') where
    abbrev written : (site : Site) → IsReady u (c site) v → SiteFits z u site k depth (Some (leaf l)) → IsDropPlan site writes → IsWrittenAt s s' (site_stamp site) (take depth k) (Some (leaf l)) None
    written site ready fits plan = site_written z u v (c site) ready s s' b k depth (Some (leaf l)) None writes site fits (drop_plan site writes plan) refl (λ ws. refl)

    -- a node of the site has two children left
    two_left : (site : Site) (ready : IsReady u (c site) v) (fits : SiteFits z u site k depth (Some (leaf l))) (plan : IsDropPlan site writes) → IsTaken site → KeepsTwo site
        → (n : Node) (byte : ℕ) → (written site ready fits plan).place ≡ tree.Slot n byte → HasTwo (heap_of s') n
    two_left (Root x) ready fits plan taken two n byte e =
        let w = written (Root x) ready fits plan in
        let is : cell.Node n ≡ cell.Anchor = ap cell_of (sym e) ∙ w.cell_is ∙ fits.read.cell in
        absurd (cc)
    two_left (Slot x at byte) ready fits plan taken two n b' e =
        let w = written (Slot x at byte) ready fits plan in
        let is : cell.Node fits.node ≡ cell.Node n = sym (ap cell_of (sym e) ∙ w.cell_is ∙ fits.read.cell) in
        let words : s (cell.Node n) ≡ cut_words at.now.layout (word_of at.now) =
        subst (λ (d : Cell). s d ≡ cut_words at.now.layout (word_of at.now)) is (whole_before z u v (c (Slot x at byte)) ready s s' b 0 (kept x) refl writes (λ ws. refl) fits.node at.now fits.read) in
        let put : WritesPlace s s' (tree.Slot n b') None = subst (λ (y : tree.Place). WritesPlace s s' y None) e w.put in
        let there : tree.PlaceAt (heap_of s) (tree.Slot n b') (take depth k) = subst (λ (y : tree.Place). tree.PlaceAt (heap_of s) y (take depth k)) e w.at in
        let was : (heap_of s).child n b' ≡ Some (leaf l) = ap (tree.child_at_place (heap_of s)) (sym e) ∙ w.was in
        let word = has_word s n b' (leaf l) put.0 was in
        two_kept s s' n n b' word.0 (b.shape.nodes n there.0 there.1) put.0 word.1 (subst (λ (ws : Words). 3 ≤ count_of ws) (sym words) (omega (arith, two, cut_count at.now.layout (word_of at.now)))) put.1.children

  module _ (site : Site) (knows : IsDrop z u site old depth) (plan : IsDropPlan site writes) (taken : IsTaken site) (two : KeepsTwo site) where
    drop_may : (v : View) → IsReady u (c site) v → commit.May z v (removed old) (leaf l ∷ []) (commit.coming v (leaf_linked (c site)))
    drop_may v ready s s' shape known turns =
        let b : Before z v s s' = record { shape = shape; knows = known; new = turns } in
        let w = written v s s' b site ready knows.place plan in
        let just = holds_just z u v (c site) ready (λ d. d ≡ cell_of w.place)
        (λ d e. inl (0, kept (site_stamp site), refl, e ∙ w.cell_is))
        (λ d. ⊎_elim
        (λ (t : IsTargetCell (c site) d). t.3 ∙ ap (λ y. y.stamp.cell) (sym (one_of_one (kept (site_stamp site)) t.0 t.1 t.2).1) ∙ sym w.cell_is)
        (λ (n : IsMadeCell (c site) d). let e = n.1 in absurd (cc))) in
        let row : HasRow old s = so_held z u v (c site) ready s s' b 0 (kept (site_stamp site)) _ refl knows.old_leaf.row in
        same_commits z v (removed old) (leaf l ∷ []) (leaf l ∷ []) [] (commit.coming v (leaf_linked (c site))) s s' (λ d. ((λ i. i), (λ i. i))) ((λ i. i), tt) (none_come z u v (c site) ready refl refl)
        (subst₂ (λ (key : List ℕ) (value : ℕ). commit.Commits z v (Done (Remove (key_of key)) (Removed value)) (leaf l ∷ []) [] s s') row.0 row.1
        (drop_commits z v s s' w.place (take depth k) l b just (λ h n i free is. let e = claims_made z u v (c site) ready h n i free is in absurd (cc)) w.put w.at w.was
        (two_left v s s' b site ready knows.place plan taken two)))

    unlinks : links_of (child_word (leaf l) ∷ []) ≡ leaf l ∷ []
    unlinks = one_unlinked (leaf l) knows.old_leaf.fits

    pub drop_planned : IsPlanned z u (c site)
    drop_planned = one_planned z u (site_stamp site) (puts_of 0 writes) writes None body None (child_word (leaf l) ∷ []) (removed old)
        (may_target_site z u k depth (Some (leaf l)) site knows.place)
        (ap (map child_word) unlinks)
        (λ m i. let gone = subst (λ (ds : List Link). Member (node m) ds) unlinks i in ⊎_elim (λ (e : node m ≡ leaf l). absurd (cc)) (λ (j : ⊥). absurd j) gone)
        (may_put_site z u (c site) k depth (Some (leaf l)) None writes tt site knows.place (taken_meaning site taken) (drop_plan site writes plan) refl)
        (λ n e. absurd (cc))
        (λ v ready. subst (λ (us : List Link). commit.May z v (removed old) us (commit.coming v (leaf_linked (c site)))) (sym unlinks) (drop_may v ready))
