-- The tree is empty: the site in the anchor.
use Rattle.std.proofs.Common.{◌≡◌, ℕ, List, refl, subst}
use Rattle.art_cell.specs.Children.{child_word}
use Rattle.art_cell.specs.declared.cells.Cell.TheVariants as cell
use Rattle.art_cell.specs.declared.cells.Link.{Link}
use Rattle.art_plan.proofs.NewWords.{IsOtherRoot}
use Rattle.art_plan.proofs.RootWords.{root_none}
use Rattle.art_plan.specs.ChooseInsert.Seen.{IsSeen}
use Rattle.art_find.specs.Verdicts.{Says}
use Rattle.art_find.specs.declared.descents.Verdict.{Verdict}
use Rattle.art_find.specs.declared.descents.Verdict.TheVariants.{Empty}
use Rattle.art_plan.specs.Insert.Cases.{IsAdd, IsInHand}
use Rattle.art_plan.specs.declared.insert.NewLeaf.{NewLeaf}
use Rattle.art_find.specs.ReadSets.{node_of}
use Rattle.art_find.specs.Findings.{IsStanding}
use Rattle.art_find.specs.declared.read_sets.ReadSet.{ReadSet}
use Rattle.art_find.specs.declared.findings.Position.{Position}
use Rattle.art_plan.specs.declared.changes.Site.TheVariants.{Root}
use Rattle.art_step.specs.declared.views.Sizes.{Sizes}
use Rattle.art_step.specs.declared.views.View.{View}
use Rattle.art_plan.proofs.WholeCells.{node_whole, read_root}

pub root_knows : (z : Sizes) (t : Position) (read_set : ReadSet) (new : NewLeaf) (u : View) → t.verdict ≡ Empty → IsSeen z new.key.items t read_set → IsStanding z new.key.items t read_set u → IsInHand z u new
    → IsAdd z u (Root t.stamp) new 0
root_knows z t read_set new u is seen standing hand =
    let k = new.key.items in
    let says = subst (λ (f : Verdict). Says z k t.depth t.stamp f u) is standing.says in
    let root = read_root z u t.stamp (node_of read_set) (node_whole z k t read_set u standing seen.whole) says.0 in
    record {
      place = record { word = root.0; read = root.1; shows = λ s shape holds. (refl, says.1 s shape holds) };
      new_leaf = hand;
    }

-- ---- the word that was read

module _ (z : Sizes) (k : List ℕ) (t : Position) (read_set : ReadSet) (is : t.verdict ≡ Empty) (seen : IsSeen z k t read_set) where
  says : Says z k t.depth t.stamp Empty seen.vouched.view
  says = subst (λ (f : Verdict). Says z k t.depth t.stamp f seen.vouched.view) is seen.vouched.standing.says

  pub root_at : t.stamp.cell ≡ cell.Anchor
  root_at = says.0

  -- names nothing
  pub root_empty : (d : Link) → IsOtherRoot t.stamp (node_of read_set) (child_word d)
  root_empty =
      root_none z seen.vouched.view t.stamp (node_of read_set)
      (node_whole z k t read_set seen.vouched.view seen.vouched.standing seen.whole) seen.vouched.tree seen.vouched.shape seen.vouched.holds
      (says.1 seen.vouched.tree seen.vouched.shape seen.vouched.holds)
