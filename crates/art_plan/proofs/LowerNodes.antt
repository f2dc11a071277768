-- The other child is a node, which was read whole too: what the plan knows that puts it in the node's place.
use Rattle.std.proofs.Common.{◌≡◌, ◌≢◌, ℕ, ◌-◌, ◌<◌, List, get_or, Option, Some, None, refl, sym, ap, ◌∙◌, subst}
use Rattle.std.specs.Borrow.{Bor}
use Rattle.art_cell.specs.Bodies.{IsBody}
use Rattle.art_cell.specs.Children.{child_word}
use Rattle.art_cell.specs.Leaves.{prefix_read}
use Rattle.art_cell.specs.Reads.{word_of}
use Rattle.art_cell.specs.Words.{child_of}
use Rattle.art_cell.specs.declared.cells.Body.{Body}
use Rattle.art_cell.specs.declared.cells.Cell.TheVariants as cell
use Rattle.art_cell.specs.declared.cells.Link.TheVariants.{Leaf as leaf, Node as node}
use Rattle.art_cell.specs.declared.cells.Node.{Node}
use Rattle.art_plan.proofs.FoundLeaves.{found_below, found_leaf, found_stands, found_whole}
use Rattle.art_plan.specs.ChooseRemove.Plans.{ArePartsOf, HasFound, HasOther}
use Rattle.art_plan.specs.ChooseRemove.Seen.{AreSeen, IsLowerSeen, IsSeen, StillKnown}
use Rattle.art_plan.specs.declared.choose_remove.Lower.{Lower}
use Rattle.art_plan.proofs.ChildSites.{stamp_in}
use Rattle.art_plan.proofs.PrefixBytes.{prefix_seen}
use Rattle.art_plan.proofs.SeenBodies.{seen_body, seen_child}
use Rattle.art_plan.proofs.WholeCells.{IsWhole, filled_agrees, read_whole}
use Rattle.art_plan.specs.ChooseInsert.Bodies.{IsFilled, site_in}
use Rattle.art_path.specs.declared.prefixes.Parts.{Parts}
use Rattle.art_plan.specs.ArtFind.ReadSets.{above_of, node_of}
use Rattle.art_plan.specs.ArtFind.Findings.{IsStanding}
use Rattle.art_plan.specs.ArtFind.Rereadings.{AreKnown}
use Rattle.art_plan.specs.ArtFind.declared.read_sets.ReadSet.{ReadSet}
use Rattle.art_plan.specs.ArtFind.declared.findings.Above.{Above}
use Rattle.art_plan.specs.ArtFind.declared.findings.Position.{Position}
use Rattle.art_plan.proofs.SiteWords.{children_read, not_own_child}
use Rattle.art_plan.specs.Seen.{site_stamp}
use Rattle.art_plan.specs.declared.changes.Site.{Site}
use Rattle.art_plan.proofs.GoneNodes.{fits_there}
use Rattle.art_plan.specs.Remove.Cases.{IsMergeNode}
use Rattle.art_plan.specs.Remove.Removals.{HasPair}
use Rattle.art_plan.specs.declared.remove.OldLeaf.{OldLeaf}
use Rattle.art_step.specs.Views.{size_of}
use Rattle.art_step.specs.declared.views.Sizes.{Sizes}
use Rattle.art_step.specs.declared.views.Stamp.{Stamp}
use Rattle.art_step.specs.declared.views.View.{View}
use Rattle.art_tree.proofs.Meanings.{child_is, child_named}
use Rattle.art_tree.specs.Heaps.{Cells, heap_of}
use Rattle.art_tree.specs.Tree.{path_past}

-- ---- the lower node

lower_whole : (z : Sizes) (u : View) (lower : Lower) (reads : List (Option ℕ)) → StillKnown z u lower reads → AreKnown reads 1 (size_of lower.stamp.cell) → IsWhole z u lower.stamp reads
lower_whole z u lower reads still whole = record { stamp = still.stamp; path = still.path; words = still.kept; known = whole }

module _ (z : Sizes) (lower : Lower) (reads : List (Option ℕ)) (seen : IsLowerSeen z lower reads) where
  seen_whole : IsWhole z seen.view lower.stamp reads
  seen_whole = lower_whole z seen.view lower reads seen.known seen.whole

  pub lower_bytes : prefix_read reads ≢ None
  lower_bytes = prefix_seen z seen.view lower.stamp reads seen_whole seen.tree seen.shape seen.holds lower.node seen.known.cell

  pub lower_meaning : (body : Body) → IsFilled lower.stamp.cell reads body → IsBody body.layout (word_of body)
  lower_meaning = seen_body z seen.view lower.stamp reads seen_whole seen.tree seen.shape seen.holds lower.node seen.known.cell

-- ---- the node

module _ (z : Sizes) (t : Position) (read_set : ReadSet) (old : OldLeaf) (is : HasFound t old) (seen : IsSeen z old.key.items t read_set) (n : Node) (on : t.stamp.cell ≡ cell.Node n) where
  abbrev last : ℕ
  last = get_or old.key.items (t.depth - 1) 0

  abbrev s : Cells
  s = seen.0.tree

  whole : IsWhole z seen.0.view t.stamp (node_of read_set)
  whole = found_whole z t read_set old is seen

  pub node_bytes : prefix_read (node_of read_set) ≢ None
  node_bytes = prefix_seen z seen.0.view t.stamp (node_of read_set) whole s seen.0.shape seen.0.holds n on

  -- is no child of its own
  pub lower_apart : (body : Body) → IsFilled t.stamp.cell (node_of read_set) body → (byte : ℕ) (m : Node) → HasPair body last (child_word (leaf old.number)) byte (child_word (node m)) → m ≢ n
  unfolding whole
  lower_apart body filled byte m pair same =
      let q = whole.path.0 in
      let there = sym (seen_child z seen.0.view t.stamp (node_of read_set) whole s seen.0.shape seen.0.holds n on body filled byte pair.low_beside) ∙ pair.another in
      let read = read_whole z seen.0.view t.stamp (node_of read_set) whole n on body filled in
      let fits = fits_there z (node m) (children_read z seen.0.view t.stamp n body read pair.meaning byte (child_word (node m)) pair.low_beside pair.another) in
      let names = child_is s n byte ∙ child_named (child_of n.layout (s (cell.Node n))) byte (node m) pair.low_beside fits there in
      not_own_child z s seen.0.shape n m byte (path_past (heap_of s) n q byte) ((q, found_stands z t read_set old is seen n on body filled, refl), names) (sym same)

  -- so it is another than the node
  pub lower_other : (body : Body) → IsFilled t.stamp.cell (node_of read_set) body → (byte : ℕ) (m : Node)
      → HasOther t read_set old byte (node m) → node n ≢ node m
  lower_other body filled byte m other same =
      let one : n ≡ m = cc in
      lower_apart body filled byte m (other.pair body (filled other.node other.is)) (sym one)

-- ---- the plan

module _ (t : Position) (read_set : ReadSet) (old : OldLeaf) (a : Above) (at : t.above ≡ Some a) (upper : Bor Body) (upper-filled : IsFilled a.stamp.cell (above_of read_set) upper.now) (site : Site)
    (named : site ≡ site_in a.stamp upper (get_or old.key.items (a.depth - 1) 0)) (lower : Lower) (reads : List (Option ℕ)) (on-low : lower.stamp.cell ≡ cell.Node lower.node) (parts : Parts) (are : ArePartsOf read_set lower reads parts) where
  -- the cell above is another one
  third : a.stamp.cell ≢ lower.stamp.cell → (site_stamp site).cell ≢ cell.Node lower.node
  third apart e = apart (sym (ap (λ (x : Stamp). x.cell) (ap site_stamp named ∙ stamp_in a.stamp upper (get_or old.key.items (a.depth - 1) 0))) ∙ e ∙ sym on-low)

  pub merge_node_knows : (low : Bor Body) → IsFilled lower.stamp.cell reads low.now → (z : Sizes) (u : View) → HasFound t old → (n : Node) → t.stamp.cell ≡ cell.Node n → HasOther t read_set old lower.byte (node lower.node) → (body : Bor Body) → IsFilled t.stamp.cell (node_of read_set) body.now
      → AreSeen z old.key.items t read_set → IsStanding z old.key.items t read_set u → StillKnown z u lower reads → AreKnown reads 1 (size_of lower.stamp.cell) → get_or old.key.items (a.depth - 1) 0 < 256
      → a.stamp.cell ≢ lower.stamp.cell
      → IsMergeNode z u site old a.depth (record { node = n; stamp = t.stamp; body = body }) (get_or old.key.items (t.depth - 1) 0) (record { node = lower.node; stamp = lower.stamp; body = low }) parts
  merge_node_knows low low-filled z u is n on other body filled seen standing still known small apart =
      let pair = other.pair body.now (filled other.node other.is) in
      record {
        there = found_below z t read_set old is seen.node n on a at (seen.above a at) upper body upper-filled filled u site named standing small;
        old_leaf = found_leaf z t read_set old is seen.node u standing;
        pair = subst (λ (b : ℕ). HasPair body.now (get_or old.key.items (t.depth - 1) 0) (child_word (leaf old.number)) b (child_word (node lower.node))) (sym are.byte) pair;
        read = read_whole z u lower.stamp reads (lower_whole z u lower reads still known) lower.node on-low low.now low-filled;
        third = third apart;
        other = lower_apart z t read_set old is seen.node n on body.now filled lower.byte lower.node pair;
        front = sym (are.front (word_of body.now) (filled_agrees z u t.stamp (node_of read_set) standing.place.kept n on body.now (filled n on)));
        rest = sym (are.rest (word_of low.now) (filled_agrees z u lower.stamp reads still.kept lower.node on-low low.now (low-filled lower.node on-low)));
      }
