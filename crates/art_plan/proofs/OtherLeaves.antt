-- Another leaf stands on the key's way: what a fork of both needs.
use Rattle.std.proofs.Common.{◌≡◌, ◌≢◌, ℕ, ◌+◌, ◌-◌, ◌<◌, ◌≤◌, List, [], ◌∷◌, ◌++◌, length, get_or, take, sym, ap, subst, arith}
use Rattle.std.specs.Borrow.{Bor}
use Rattle.art_cell.specs.Children.{child_word}
use Rattle.art_cell.specs.declared.cells.Body.{Body}
use Rattle.art_cell.specs.declared.cells.Link.{Link}
use Rattle.art_cell.specs.declared.cells.Cell.TheVariants as cell
use Rattle.art_cell.specs.declared.cells.Link.TheVariants.{Leaf as leaf}
use Rattle.art_cell.specs.declared.cells.Node.{Node}
use Rattle.art_cell.specs.declared.cells.Layout.TheVariants.{Node4}
use Rattle.art_plan.specs.ChooseInsert.Bodies.{IsFilled, site_in}
use Rattle.art_plan.specs.ChooseInsert.Needs.{needs_of}
use Rattle.art_plan.specs.ChooseInsert.Plans.{HasNeeded}
use Rattle.art_plan.specs.ChooseInsert.Seen.{IsSeen}
use Rattle.art_find.specs.Verdicts.{IsLeafMismatch, Says}
use Rattle.art_find.specs.declared.descents.Verdict.{Verdict}
use Rattle.art_find.specs.declared.descents.Verdict.TheVariants.{LeafMismatch}
use Rattle.art_plan.proofs.MadeNodes.{key_small}
use Rattle.art_plan.proofs.NewWords.{IsOtherRoot, IsSiteOf, site_of}
use Rattle.art_plan.proofs.RootWords.{root_other}
use Rattle.art_plan.specs.declared.changes.Site.{Site}
use Rattle.art_plan.specs.Insert.Cases.{IsForkLeaf, IsInHand}
use Rattle.art_plan.specs.Puts.{IsTaken}
use Rattle.art_plan.specs.declared.insert.NewLeaf.{NewLeaf}
use Rattle.art_find.specs.ReadSets.{node_of}
use Rattle.art_find.specs.Findings.{IsStanding}
use Rattle.art_find.specs.declared.read_sets.ReadSet.{ReadSet}
use Rattle.art_find.specs.declared.findings.Position.{Position}
use Rattle.art_step.specs.Shows.{HasChild, Shows}
use Rattle.art_step.specs.declared.views.Sizes.{Sizes}
use Rattle.art_step.specs.declared.views.Stamp.{Stamp}
use Rattle.art_step.specs.declared.views.View.{View}
use Rattle.art_tree.specs.Heaps.{heap_of}
use Rattle.art_tree.specs.Tree.{Begins}
use Rattle.art_plan.proofs.ChildSites.{site_deep, site_fits, site_taken, stamp_in}
use Rattle.art_plan.proofs.WholeCells.{IsWhole, node_whole}

module _ (z : Sizes) (k : List ℕ) (t : Position) (read_set : ReadSet) (l at byte : ℕ) (is : t.verdict ≡ LeafMismatch l at byte) where
  abbrev last : ℕ
  last = get_or k (t.depth - 1) 0

  -- ---- where it stands

  module _ (u : View) (standing : IsStanding z k t read_set u) where
    says : Says z k t.depth t.stamp (LeafMismatch l at byte) u
    says = subst (λ (f : Verdict). Says z k t.depth t.stamp f u) is standing.says

    child : Shows z u t.stamp (λ s. HasChild s t.stamp.cell (leaf l) (take t.depth k))
    child s shape holds = (says.2 s shape holds).child

  -- ---- what was seen

  module _ (seen : IsSeen z k t read_set) where
    there : IsLeafMismatch seen.vouched.tree t.stamp.cell l k t.depth at byte
    there = (says seen.vouched.view seen.vouched.standing).2 seen.vouched.tree seen.vouched.shape seen.vouched.holds

    whole : IsWhole z seen.vouched.view t.stamp (node_of read_set)
    whole = node_whole z k t read_set seen.vouched.view seen.vouched.standing seen.whole

    pub leaf_behind : t.depth ≤ at
    leaf_behind = there.behind

    pub leaf_inside : at < length k
    leaf_inside = (says seen.vouched.view seen.vouched.standing).1

    pub leaf_apart : byte ≢ get_or k at 0
    leaf_apart = there.parts.other

    pub leaf_deep : (n : Node) → t.stamp.cell ≡ cell.Node n → 0 < t.depth
    leaf_deep = site_deep z seen.vouched.view t.stamp (node_of read_set) whole (leaf l) k t.depth seen.vouched.standing.deep (child seen.vouched.view seen.vouched.standing)
        seen.vouched.tree seen.vouched.shape seen.vouched.holds

    pub leaf_taken : (body : Bor Body) → IsFilled t.stamp.cell (node_of read_set) body.now → IsTaken (site_in t.stamp body last)
    leaf_taken = site_taken z seen.vouched.view t.stamp (node_of read_set) whole (leaf l) k t.depth seen.vouched.standing.deep (child seen.vouched.view seen.vouched.standing)
        seen.vouched.tree seen.vouched.shape seen.vouched.holds

    -- in the anchor the word that was read names the leaf, and no other cell
    pub leaf_root : (d : Link) → leaf l ≢ d → IsOtherRoot t.stamp (node_of read_set) (child_word d)
    leaf_root =
        root_other z seen.vouched.view t.stamp (node_of read_set) whole seen.vouched.tree seen.vouched.shape seen.vouched.holds (leaf l)
        (take t.depth k) there.child

    pub leaf_site : (body : Bor Body) → IsFilled t.stamp.cell (node_of read_set) body.now → (site : Site)
        → site ≡ site_in t.stamp body last → IsSiteOf t.stamp (node_of read_set) site
    leaf_site body = site_of z t.stamp (node_of read_set) whole.stamp.inside body last

-- ---- the plan

module _ (z : Sizes) (t : Position) (read_set : ReadSet) (new : NewLeaf) (l at byte made : ℕ) (is : t.verdict ≡ LeafMismatch l at byte) (body : Bor Body) (filled : IsFilled t.stamp.cell (node_of read_set) body.now) where
  abbrev k : List ℕ
  k = new.key.items

  abbrev x : Stamp
  x = t.stamp

  pub leaf_knows : (u : View) → IsSeen z k t read_set → IsStanding z k t read_set u → IsInHand z u new → HasNeeded z u t.verdict made
      → IsForkLeaf z u (site_in x body (get_or k (t.depth - 1) 0)) new (record { depth = t.depth; common = at - t.depth }) l byte made
  leaf_knows u seen standing hand needed = record {
    place = site_fits z u x (node_of read_set) (node_whole z k t read_set u standing seen.whole) (leaf l) k t.depth standing.deep (child z k t read_set l at byte is u standing) body filled
        (key_small z u new.number k new.value (t.depth - 1) hand);
    there = says_now.0;
    begins = subst (λ (y : Stamp). Shows z u y (λ s. Begins (take (t.depth + (at - t.depth)) k ++ byte ∷ []) ((heap_of s).key l))) (sym (stamp_in x body (get_or k (t.depth - 1) 0)))
        (subst (λ (i : ℕ). Shows z u x (λ s. Begins (take i k ++ byte ∷ []) ((heap_of s).key l))) (sym all) (λ s shape holds. (says_now.2 s shape holds).parts.front));
    made = needed Node4 (ap (λ (f : Verdict). (needs_of f).node) is);
    new_leaf = hand;
  }
    where
      says_now : Says z k t.depth x (LeafMismatch l at byte) u
      says_now = says z k t read_set l at byte is u standing

      all : t.depth + (at - t.depth) ≡ at
      all = let low = leaf_behind z k t read_set l at byte is seen in omega (arith, low)
