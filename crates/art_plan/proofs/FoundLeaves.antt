-- A leaf was found: what is known of it, and of the cell that names it.
use Rattle.std.proofs.Common.{◌≡◌, ℕ, ◌-◌, ◌<◌, List, get_or, take, Some, sym, ap, ◌∙◌, subst}
use Rattle.std.specs.Borrow.{Bor}
use Rattle.art_cell.specs.Bodies.{IsBody}
use Rattle.art_cell.specs.Children.{child_word}
use Rattle.art_cell.specs.Reads.{word_of}
use Rattle.art_cell.specs.Words.{child_of}
use Rattle.art_cell.specs.declared.cells.Body.{Body}
use Rattle.art_cell.specs.declared.cells.Cell.{Cell}
use Rattle.art_cell.specs.declared.cells.Cell.TheVariants as cell
use Rattle.art_cell.specs.declared.cells.Link.TheVariants.{Leaf as leaf, Node as node}
use Rattle.art_cell.specs.declared.cells.Node.{Node}
use Rattle.art_plan.specs.ChooseRemove.Plans.{HasFound}
use Rattle.art_plan.specs.ChooseRemove.Seen.{IsSeen}
use Rattle.art_plan.proofs.AboveSites.{below_there, named_fits}
use Rattle.art_plan.proofs.ChildSites.{site_deep, site_fits, site_taken, slot_has, stamp_in}
use Rattle.art_plan.proofs.NewWords.{IsOtherRoot, IsSiteOf, site_of}
use Rattle.art_plan.proofs.RootWords.{root_some}
use Rattle.art_plan.proofs.SeenBodies.{low_byte, seen_body, seen_child, stands, word_named}
use Rattle.art_plan.proofs.WholeCells.{IsWhole, node_whole}
use Rattle.art_plan.specs.ChooseInsert.Bodies.{IsFilled, site_in}
use Rattle.art_plan.specs.ChooseInsert.Seen.{WasSeen}
use Rattle.art_plan.specs.ArtFind.Verdicts.{IsFound, Says}
use Rattle.art_plan.specs.ArtFind.declared.descents.Verdict.{Verdict}
use Rattle.art_plan.specs.ArtFind.declared.descents.Verdict.TheVariants.{Found}
use Rattle.art_plan.specs.ArtFind.ReadSets.{above_of, node_of}
use Rattle.art_plan.specs.ArtFind.Findings.{IsStanding}
use Rattle.art_plan.specs.ArtFind.declared.read_sets.ReadSet.{ReadSet}
use Rattle.art_plan.specs.ArtFind.declared.findings.Above.{Above}
use Rattle.art_plan.specs.ArtFind.declared.findings.Position.{Position}
use Rattle.art_plan.specs.Puts.{IsTaken}
use Rattle.art_plan.specs.Seen.{HasBelow}
use Rattle.art_plan.specs.declared.changes.Site.{Site}
use Rattle.art_plan.specs.Remove.Cases.{IsDrop, IsOldLeaf}
use Rattle.art_plan.specs.declared.remove.OldLeaf.{OldLeaf}
use Rattle.art_step.specs.Shows.{HasChild, Shows}
use Rattle.art_step.specs.declared.views.Sizes.{Sizes}
use Rattle.art_step.specs.declared.views.Stamp.{Stamp}
use Rattle.art_step.specs.declared.views.View.{View}
use Rattle.art_tree.proofs.ChildWords.{link_exact}
use Rattle.art_tree.specs.Heaps.{heap_of}
use Rattle.art_tree.specs.Tree.{StandsAt}

module _ (z : Sizes) (t : Position) (read_set : ReadSet) (old : OldLeaf) (is : HasFound t old) where
  abbrev k : List ℕ
  k = old.key.items

  abbrev last : ℕ
  last = get_or k (t.depth - 1) 0

  says : (u : View) → IsStanding z k t read_set u → Says z k t.depth t.stamp (Found old.number old.value) u
  says u standing = subst (λ (f : Verdict). Says z k t.depth t.stamp f u) is standing.says

  child : (u : View) → IsStanding z k t read_set u → Shows z u t.stamp (λ s. HasChild s t.stamp.cell (leaf old.number) (take t.depth k))
  child u standing s shape holds = ((says u standing).1 s shape holds).child

  module _ (seen : IsSeen z k t read_set) where
    pub found_there : IsFound seen.0.tree t.stamp.cell old.number k t.depth old.value
    found_there = (says seen.0.view seen.0.standing).1 seen.0.tree seen.0.shape seen.0.holds

    pub found_whole : IsWhole z seen.0.view t.stamp (node_of read_set)
    found_whole = node_whole z k t read_set seen.0.view seen.0.standing seen.1

    pub found_deep : (n : Node) → t.stamp.cell ≡ cell.Node n → 0 < t.depth
    found_deep = site_deep z seen.0.view t.stamp (node_of read_set) found_whole (leaf old.number) k t.depth seen.0.standing.deep (child seen.0.view seen.0.standing) seen.0.tree seen.0.shape seen.0.holds

    pub found_taken : (body : Bor Body) → IsFilled t.stamp.cell (node_of read_set) body.now → IsTaken (site_in t.stamp body last)
    found_taken = site_taken z seen.0.view t.stamp (node_of read_set) found_whole (leaf old.number) k t.depth seen.0.standing.deep (child seen.0.view seen.0.standing) seen.0.tree seen.0.shape seen.0.holds

    -- in the anchor the word that was read names the leaf
    pub found_root : IsOtherRoot t.stamp (node_of read_set) 0
    found_root =
        root_some z seen.0.view t.stamp (node_of read_set) found_whole seen.0.tree seen.0.shape seen.0.holds (leaf old.number)
        (take t.depth k) found_there.child

    pub found_site : (body : Bor Body) → IsFilled t.stamp.cell (node_of read_set) body.now → (site : Site)
        → site ≡ site_in t.stamp body last → IsSiteOf t.stamp (node_of read_set) site
    found_site body = site_of z t.stamp (node_of read_set) found_whole.stamp.inside body last

    -- in each tree that is as the stamp says the leaf has the key and the value
    pub found_leaf : (u : View) → IsStanding z k t read_set u → IsOldLeaf z u t.stamp old
    found_leaf u standing = record {
      row = λ s shape holds. let found = (says u standing).1 s shape holds in (found.is_key, found.is_value);
      fits = named_fits z seen.0.tree t.stamp.cell (leaf old.number) (take t.depth k) seen.0.shape found_there.child;
    }

  -- ---- the cell is a node

  module _ (seen : IsSeen z k t read_set) (n : Node) (on : t.stamp.cell ≡ cell.Node n) where
    names : (heap_of seen.0.tree).child n last ≡ Some (leaf old.number)
    names = (slot_has z seen.0.tree seen.0.shape (leaf old.number) k t.depth seen.0.standing.deep n
        (subst (λ (c : Cell). HasChild seen.0.tree c (leaf old.number) (take t.depth k)) on (found_there seen).child)).1

    module _ (body : Body) (filled : IsFilled t.stamp.cell (node_of read_set) body) where
      pub found_stands : StandsAt (heap_of seen.0.tree) (node n) (found_whole seen).path.0
      found_stands = stands z seen.0.view t.stamp (node_of read_set) (found_whole seen) seen.0.tree seen.0.shape seen.0.holds n on body filled

      pub found_meaning : IsBody body.layout (word_of body)
      found_meaning = seen_body z seen.0.view t.stamp (node_of read_set) (found_whole seen) seen.0.tree seen.0.shape seen.0.holds n on body filled

      pub found_low : last < 256
      found_low = low_byte z seen.0.tree seen.0.shape n (found_whole seen).path.0 found_stands last (leaf old.number) names

      -- it has the leaf at the last byte that leads there
      pub found_at : child_of body.layout (word_of body) last ≡ Some (child_word (leaf old.number))
      found_at =
          let named = word_named z seen.0.tree seen.0.shape n (found_whole seen).path.0 found_stands last (leaf old.number) names in
          seen_child z seen.0.view t.stamp (node_of read_set) (found_whole seen) seen.0.tree seen.0.shape seen.0.holds n on body filled last found_low
          ∙ named.1
          ∙ ap Some (sym (link_exact named.0 (leaf old.number) named.2).0)

    -- what a plan knows that writes the cell above
    pub found_below : (a : Above) → t.above ≡ Some a → WasSeen z k t read_set a.stamp (above_of read_set) → (upper lower : Bor Body) → IsFilled a.stamp.cell (above_of read_set) upper.now
        → IsFilled t.stamp.cell (node_of read_set) lower.now → (u : View) (site : Site) → site ≡ site_in a.stamp upper (get_or k (a.depth - 1) 0) → IsStanding z k t read_set u → get_or k (a.depth - 1) 0 < 256
        → HasBelow z u site k a.depth (record { node = n; stamp = t.stamp; body = lower })
    found_below a at above upper lower upper-filled lower-filled u site named standing low =
        subst (λ (p : Site). HasBelow z u p k a.depth (record { node = n; stamp = t.stamp; body = lower })) (sym named)
        (below_there z k t read_set n on a at above seen.1 upper lower upper-filled lower-filled u standing low)

  -- ---- it goes alone

  module _ (body : Bor Body) (filled : IsFilled t.stamp.cell (node_of read_set) body.now) where
    pub drop_knows : (u : View) → IsSeen z k t read_set → IsStanding z k t read_set u → last < 256 → IsDrop z u (site_in t.stamp body last) old t.depth
    drop_knows u seen standing low = record {
      place = site_fits z u t.stamp (node_of read_set) (node_whole z k t read_set u standing seen.1) (leaf old.number) k t.depth standing.deep (child u standing) body filled low;
      old_leaf = subst (λ (x : Stamp). IsOldLeaf z u x old) (sym (stamp_in t.stamp body last)) (found_leaf seen u standing);
    }
