-- A leaf that goes with a node, whose other child takes its place, is planned.
use Rattle.std.proofs.Common.{◌≡◌, ◌⊎◌, ℕ, List, [], ◌∷◌, ◌++◌, map, take, Some, None, refl, sym, ap, ap₂, ◌∙◌, subst, subst₂, inl, inr, ⊎_elim, arith}
use Rattle.art_cell.specs.Bodies.{IsBody}
use Rattle.art_cell.specs.Children.{child_word}
use Rattle.art_cell.specs.Reads.{word_of, written}
use Rattle.art_cell.specs.Words.{Words, child_of}
use Rattle.art_cell.specs.declared.cells.Body.{Body}
use Rattle.art_cell.specs.declared.cells.Cell.TheVariants as cell
use Rattle.art_cell.specs.declared.cells.Link.{Link}
use Rattle.art_cell.specs.declared.cells.Link.TheVariants.{Leaf as leaf, Node as node}
use Rattle.art_cell.specs.declared.cells.Node.{Node}
use Rattle.art_cell.specs.declared.cells.Write.{Write}
use Rattle.art_commit.proofs.ChangeMerges.{merge_commits}
use Rattle.art_commit.proofs.Members.{same_commits}
use Rattle.art_commit.specs.CommitLaws.{Before, IsItsNode}
use Rattle.art_model.specs.declared.commands.Answer.TheVariants.{Removed}
use Rattle.art_node.specs.Prefixes.{IsPrefixPlan}
use Rattle.art_path.specs.declared.prefixes.Parts.{Parts}
use Rattle.art_plan.proofs.ChildPlaces.{same_there}
use Rattle.art_plan.proofs.MadeNodes.{cut_node_prefix}
use Rattle.art_plan.proofs.Planning.{none_come, one_of_three, one_of_two, three_planned, two_planned}
use Rattle.art_plan.proofs.PutWords.{with_puts-append, with_puts-other}
use Rattle.art_plan.proofs.ReadyCells.{IsMadeCell, IsTargetCell, claims_made, holds_just, so_held}
use Rattle.art_plan.proofs.SiteWords.{HasMeaning, IsWrittenAt, children_read, may_put_site, may_put_whole, may_target, may_target_site, node_written, put_plan, site_written, whole_after, whole_before}
use Rattle.art_plan.specs.Changes.{IsPlanned, IsReady, MayPut, leaf_linked, with_puts}
use Rattle.art_plan.specs.Puts.{IsSitePlan, change_of, puts_of}
use Rattle.art_plan.specs.Seen.{gone, kept, site_stamp}
use Rattle.art_plan.specs.declared.changes.Change.{Change}
use Rattle.art_plan.specs.declared.changes.Put.{Put}
use Rattle.art_plan.specs.declared.changes.Target.{Target}
use Rattle.art_plan.specs.declared.changes.Below.{Below}
use Rattle.art_plan.specs.declared.changes.Site.{Site}
use Rattle.art_plan.proofs.GoneNodes.{both_once, both_same, both_unlinked, both_words, fits_there, gone_child, gone_no_third, gone_prefix, gone_same, node_goes, only_goes}
use Rattle.art_plan.specs.Remove.Cases.{HasRow, IsMergeLeaf, IsMergeNode}
use Rattle.art_plan.specs.Remove.Removals.{joined, removed}
use Rattle.art_plan.specs.declared.remove.OldLeaf.{OldLeaf}
use Rattle.art_step.proofs.SetsView.{member_append}
use Rattle.art_step.specs.Deeds.{key_of}
use Rattle.art_step.specs.Steps.Commit as commit
use Rattle.art_step.specs.Tokens.{links_of}
use Rattle.art_step.specs.Views.{IsChildWord, Member}
use Rattle.art_step.specs.declared.deeds.Act.TheVariants.{Remove}
use Rattle.art_step.specs.declared.deeds.Deed.TheVariants.{Done}
use Rattle.art_step.specs.declared.views.Sizes.{Sizes}
use Rattle.art_step.specs.declared.views.View.{View}
use Rattle.art_tree.specs.Heaps.{Cells, node_prefix}
use Rattle.art_tree.specs.WordChanges.{KeepsChildren, WritesNode, cell_of}

-- ---- the other child is a leaf

module _ (z : Sizes) (u : View) (site : Site) (old : OldLeaf) (depth : ℕ) (below : Below) (byte beside other : ℕ) (body : Body) (writes : List Write) (knows : IsMergeLeaf z u site old depth below byte beside other) (plan : IsSitePlan site (child_word (leaf other)) writes) where
  abbrev k : List ℕ
  k = old.key.items

  abbrev l : ℕ
  l = old.number

  abbrev n : Node
  n = below.node

  abbrev c : Change
  c = change_of (kept (site_stamp site) ∷ gone below.stamp ∷ []) (puts_of 0 writes) writes None body None (both_words l n) (removed old)

  none_put : (ws : List ℕ) → with_puts 1 c.puts.items ws ≡ ws
  none_put ws = with_puts-other 1 0 writes ws (λ e. omega arith)

  there : IsChildWord z (child_word (leaf other))
  there = children_read z u below.stamp n below.body.now knows.there.read knows.pair.meaning beside (child_word (leaf other)) knows.pair.low_beside knows.pair.another

  merge_leaf_may : (v : View) → IsReady u c v → commit.May z v (removed old) (leaf l ∷ node n ∷ []) (commit.coming v (leaf_linked c))
  merge_leaf_may v ready s s' shape known turns =
      let b : Before z v s s' = record { shape = shape; knows = known; new = turns } in
      let at : IsWrittenAt s s' (site_stamp site) (take depth k) (Some (node n)) (Some (leaf other)) =
      site_written z u v c ready s s' b k depth (Some (node n)) (Some (leaf other)) writes site knows.there.place (put_plan site (leaf other) writes plan) refl (λ ws. refl) in
      let just = holds_just z u v c ready (λ d. (d ≡ cell.Node n) ⊎ ((d ≡ cell_of at.place) ⊎ IsItsNode (leaf other) d))
      (λ d. ⊎_elim
      (λ (e : d ≡ cell.Node n). inl (1, gone below.stamp, refl, e ∙ sym knows.there.read.cell))
      (⊎_elim (λ (e : d ≡ cell_of at.place). inl (0, kept (site_stamp site), refl, e ∙ at.cell_is)) (λ (i : IsItsNode (leaf other) d). let e = i.1 in absurd (cc))))
      (λ d. ⊎_elim
      (λ (t : IsTargetCell c d). ⊎_elim
      (λ (o : (t.0 ≡ 0) × (kept (site_stamp site) ≡ t.1)). inr (inl (t.3 ∙ ap (λ (y : Target). y.stamp.cell) (sym o.1) ∙ sym at.cell_is)))
      (λ (o : (t.0 ≡ 1) × (gone below.stamp ≡ t.1)). inl (t.3 ∙ ap (λ (y : Target). y.stamp.cell) (sym o.1) ∙ knows.there.read.cell))
      (one_of_two (kept (site_stamp site)) (gone below.stamp) t.0 t.1 t.2))
      (λ (o : IsMadeCell c d). let e = o.1 in absurd (cc))) in
      let row : HasRow old s = so_held z u v c ready s s' b 1 (gone below.stamp) _ refl knows.old_leaf.row in
      same_commits z v (removed old) (node n ∷ leaf l ∷ []) (leaf l ∷ node n ∷ []) [] (commit.coming v (leaf_linked c)) s s' (both_same l n) (both_once l n) (none_come z u v c ready refl refl)
      (subst₂ (λ (key : List ℕ) (value : ℕ). commit.Commits z v (Done (Remove (key_of key)) (Removed value)) (node n ∷ leaf l ∷ []) [] s s') row.0 row.1
      (merge_commits z v s s' at.place (take depth k) (leaf other) n l beside byte b just (λ h o i free is. let e = claims_made z u v c ready h o i free is in absurd (cc))
      (gone_same z u v c ready s s' b below.stamp refl none_put n below.body.now knows.there.read) at.put tt at.at at.was
      (gone_child z u v c ready s s' b below.stamp refl none_put n below.body.now knows.there.read knows.pair.meaning beside (leaf other) knows.pair.low_beside (fits_there z (leaf other) there) knows.pair.another)
      (gone_child z u v c ready s s' b below.stamp refl none_put n below.body.now knows.there.read knows.pair.meaning byte (leaf l) knows.pair.low knows.old_leaf.fits knows.pair.one) knows.pair.apart
      (gone_no_third z u v c ready s s' b below.stamp refl none_put n below.body.now knows.there.read byte (child_word (leaf l)) beside (child_word (leaf other)) knows.pair)))

  leaf_unlinks : links_of (both_words l n) ≡ leaf l ∷ node n ∷ []
  leaf_unlinks = both_unlinked l n knows.old_leaf.fits knows.there.fits

  pub merge_leaf_planned : HasMeaning site → IsPlanned z u c
  merge_leaf_planned meaning = two_planned z u (site_stamp site) (gone below.stamp) n (puts_of 0 writes) writes None body None (both_words l n) (removed old)
      (may_target_site z u k depth (Some (node n)) site knows.there.place)
      (may_target z u below.stamp n below.body.now knows.there.read (gone below.stamp) refl) knows.there.read.cell knows.there.apart
      (ap (map child_word) leaf_unlinks)
      (node_goes l n leaf_unlinks)
      (only_goes l n leaf_unlinks)
      (may_put_site z u c k depth (Some (node n)) (Some (leaf other)) writes there site knows.there.place meaning (put_plan site (leaf other) writes plan) refl)
      (λ m e. absurd (cc))
      (λ v ready. subst (λ (us : List Link). commit.May z v (removed old) us (commit.coming v (leaf_linked c))) (sym leaf_unlinks) (merge_leaf_may v ready))

-- ---- the other child is a node

module _ (z : Sizes) (u : View) (site : Site) (old : OldLeaf) (depth : ℕ) (below : Below) (byte : ℕ) (lower : Below) (parts : Parts) (body : Body) (writes others : List Write) (knows : IsMergeNode z u site old depth below byte lower parts)
    (plan : IsSitePlan site (child_word (node lower.node)) writes) (gain : IsPrefixPlan lower.body.now.layout (word_of lower.body.now) others (joined parts)) (meaning : IsBody lower.body.now.layout (word_of lower.body.now)) where
  abbrev key : List ℕ
  key = old.key.items

  abbrev number : ℕ
  number = old.number

  abbrev upper : Node
  upper = below.node

  abbrev o : Node
  o = lower.node

  abbrev w : Words
  w = word_of lower.body.now

  abbrev change : Change
  change = change_of (kept (site_stamp site) ∷ gone below.stamp ∷ kept lower.stamp ∷ []) (puts_of 0 writes ++ puts_of 2 others) others None body None (both_words number upper) (removed old)

  -- the puts of each target
  first_puts : (ws : List ℕ) → with_puts 0 change.puts.items ws ≡ with_puts 0 (puts_of 0 writes) ws
  first_puts ws = with_puts-append 0 (puts_of 0 writes) (puts_of 2 others) ws ∙ with_puts-other 0 2 others (with_puts 0 (puts_of 0 writes) ws) (λ e. omega arith)

  second_puts : (ws : List ℕ) → with_puts 1 change.puts.items ws ≡ ws
  second_puts ws = with_puts-append 1 (puts_of 0 writes) (puts_of 2 others) ws ∙ with_puts-other 1 2 others (with_puts 1 (puts_of 0 writes) ws) (λ e. omega arith) ∙ with_puts-other 1 0 writes ws (λ e. omega arith)

  third_puts : (ws : List ℕ) → with_puts 2 change.puts.items ws ≡ with_puts 2 (puts_of 2 others) ws
  third_puts ws = with_puts-append 2 (puts_of 0 writes) (puts_of 2 others) ws ∙ ap (with_puts 2 (puts_of 2 others)) (with_puts-other 2 0 writes ws (λ e. omega arith))

  node_there : IsChildWord z (child_word (node o))
  node_there = children_read z u below.stamp upper below.body.now knows.there.read knows.pair.meaning parts.byte (child_word (node o)) knows.pair.low_beside knows.pair.another

  module _ (v : View) (ready : IsReady u change v) (s s' : Cells) (b : Before z v s s') where
    -- the lower node keeps its children, and gains the upper one's prefix and the byte
    o_gains : KeepsChildren s s' (node o) (λ i p. p ≡ node_prefix (s (cell.Node upper)) ++ parts.byte ∷ node_prefix (s (cell.Node i)))
    o_gains =
        let was = whole_before z u v change ready s s' b 2 (kept lower.stamp) refl others third_puts o lower.body.now knows.read in
        let now = whole_after z u v change ready s s' b 2 (kept lower.stamp) refl others third_puts o lower.body.now knows.read gain.exact in
        let front = gone_prefix z u v change ready s s' b below.stamp refl second_puts upper below.body.now knows.there.read knows.pair.meaning ∙ knows.front in
        let rest = ap node_prefix was ∙ cut_node_prefix lower.body.now.layout w meaning ∙ knows.rest in
        let kept_node : WritesNode lower.body.now.layout (written w others) (joined parts) (child_of lower.body.now.layout w) = record { body = gain.node.body; prefix = gain.node.prefix; children = gain.node.children } in (
          joined parts,
          ap₂ (λ (p q : List ℕ). p ++ parts.byte ∷ q) (sym front) (sym rest),
          node_written s s' lower.body.now o others (joined parts) knows.read.layout meaning was now kept_node,
        )

  merge_node_may : (v : View) → IsReady u change v → commit.May z v (removed old) (leaf number ∷ node upper ∷ []) (commit.coming v (leaf_linked change))
  merge_node_may v ready s s' shape known turns =
      let b : Before z v s s' = record { shape = shape; knows = known; new = turns } in
      let at : IsWrittenAt s s' (site_stamp site) (take depth key) (Some (node upper)) (Some (node o)) =
      site_written z u v change ready s s' b key depth (Some (node upper)) (Some (node o)) writes site knows.there.place (put_plan site (node o) writes plan) refl first_puts in
      let just = holds_just z u v change ready (λ d. (d ≡ cell.Node upper) ⊎ ((d ≡ cell_of at.place) ⊎ IsItsNode (node o) d))
      (λ d. ⊎_elim
      (λ (e : d ≡ cell.Node upper). inl (1, gone below.stamp, refl, e ∙ sym knows.there.read.cell))
      (⊎_elim
      (λ (e : d ≡ cell_of at.place). inl (0, kept (site_stamp site), refl, e ∙ at.cell_is))
      (λ (i : IsItsNode (node o) d). let same = i.1 in inl (2, kept lower.stamp, refl, i.2 ∙ (let is : i.0 ≡ o = cc in ap cell.Node is) ∙ sym knows.read.cell))))
      (λ d. ⊎_elim
      (λ (t : IsTargetCell change d). ⊎_elim
      (λ (i : (t.0 ≡ 0) × (kept (site_stamp site) ≡ t.1)). inr (inl (t.3 ∙ ap (λ (y : Target). y.stamp.cell) (sym i.1) ∙ sym at.cell_is)))
      (⊎_elim
      (λ (i : (t.0 ≡ 1) × (gone below.stamp ≡ t.1)). inl (t.3 ∙ ap (λ (y : Target). y.stamp.cell) (sym i.1) ∙ knows.there.read.cell))
      (λ (i : (t.0 ≡ 2) × (kept lower.stamp ≡ t.1)). inr (inr (o, refl, t.3 ∙ ap (λ (y : Target). y.stamp.cell) (sym i.1) ∙ knows.read.cell))))
      (one_of_three (kept (site_stamp site)) (gone below.stamp) (kept lower.stamp) t.0 t.1 t.2))
      (λ (i : IsMadeCell change d). let e = i.1 in absurd (cc))) in
      let row : HasRow old s = so_held z u v change ready s s' b 1 (gone below.stamp) _ refl knows.old_leaf.row in
      same_commits z v (removed old) (node upper ∷ leaf number ∷ []) (leaf number ∷ node upper ∷ []) [] (commit.coming v (leaf_linked change)) s s' (both_same number upper) (both_once number upper) (none_come z u v change ready refl refl)
      (subst₂ (λ (bytes : List ℕ) (value : ℕ). commit.Commits z v (Done (Remove (key_of bytes)) (Removed value)) (node upper ∷ leaf number ∷ []) [] s s') row.0 row.1
      (merge_commits z v s s' at.place (take depth key) (node o) upper number parts.byte byte b just (λ h i m free is. let e = claims_made z u v change ready h i m free is in absurd (cc))
      (gone_same z u v change ready s s' b below.stamp refl second_puts upper below.body.now knows.there.read) at.put (o_gains v ready s s' b) at.at at.was
      (gone_child z u v change ready s s' b below.stamp refl second_puts upper below.body.now knows.there.read knows.pair.meaning parts.byte (node o) knows.pair.low_beside (fits_there z (node o) node_there) knows.pair.another)
      (gone_child z u v change ready s s' b below.stamp refl second_puts upper below.body.now knows.there.read knows.pair.meaning byte (leaf number) knows.pair.low knows.old_leaf.fits knows.pair.one) knows.pair.apart
      (gone_no_third z u v change ready s s' b below.stamp refl second_puts upper below.body.now knows.there.read byte (child_word (leaf number)) parts.byte (child_word (node o)) knows.pair)))

  node_unlinks : links_of (both_words number upper) ≡ leaf number ∷ node upper ∷ []
  node_unlinks = both_unlinked number upper knows.old_leaf.fits knows.there.fits

  node_puts : HasMeaning site → (put : Put) → Member put (puts_of 0 writes ++ puts_of 2 others) → MayPut z change put
  node_puts site_meaning put m = ⊎_elim
      (may_put_site z u change key depth (Some (node upper)) (Some (node o)) writes node_there site knows.there.place site_meaning (put_plan site (node o) writes plan) refl put)
      (may_put_whole z u lower.stamp o lower.body.now knows.read change 2 (kept lower.stamp) others refl refl gain.exact gain.node.body
      (same_there z (child_of lower.body.now.layout w) (child_of lower.body.now.layout (written w others)) gain.node.children (children_read z u lower.stamp o lower.body.now knows.read meaning)) put)
      (member_append put (puts_of 0 writes) (puts_of 2 others) m)

  pub merge_node_planned : HasMeaning site → IsPlanned z u change
  merge_node_planned site_meaning = three_planned z u (site_stamp site) (gone below.stamp) upper (puts_of 0 writes ++ puts_of 2 others) others None body None (both_words number upper) (removed old) lower.stamp
      (may_target_site z u key depth (Some (node upper)) site knows.there.place)
      (may_target z u below.stamp upper below.body.now knows.there.read (gone below.stamp) refl)
      (may_target z u lower.stamp o lower.body.now knows.read (kept lower.stamp) refl) knows.there.read.cell knows.there.apart
      (λ e. knows.other (let same : cell.Node o ≡ cell.Node upper = sym knows.read.cell ∙ e in let is : o ≡ upper = cc in is))
      (λ e. knows.third (e ∙ knows.read.cell))
      (ap (map child_word) node_unlinks)
      (node_goes number upper node_unlinks)
      (only_goes number upper node_unlinks)
      (node_puts site_meaning)
      (λ m e. absurd (cc))
      (λ v ready. subst (λ (us : List Link). commit.May z v (removed old) us (commit.coming v (leaf_linked change))) (sym node_unlinks) (merge_node_may v ready))
