-- The node gives way to a smaller one: what that plan knows.
use Rattle.std.proofs.Common.{◌≡◌, ◌≢◌, ℕ, ◌-◌, ◌<◌, get_or, Some, refl, sym, ap, ◌∙◌, subst}
use Rattle.std.specs.Borrow.{Bor}
use Rattle.art_cell.specs.Children.{child_word}
use Rattle.art_cell.specs.Reads.{word_of}
use Rattle.art_cell.specs.Words.{child_of}
use Rattle.art_cell.specs.declared.cells.Body.{Body}
use Rattle.art_cell.specs.declared.cells.Cell.TheVariants as cell
use Rattle.art_cell.specs.declared.cells.Link.TheVariants.{Leaf as leaf, Node as node}
use Rattle.art_cell.specs.declared.cells.Node.{Node}
use Rattle.art_cell.specs.declared.cells.Layout.{Layout}
use Rattle.art_cell.specs.declared.cells.Layout.TheVariants.{Node4, Node16, Node48, Node256}
use Rattle.art_node.specs.Sizes.{smaller}
use Rattle.art_plan.proofs.FoundLeaves.{found_at, found_below, found_leaf, found_meaning}
use Rattle.art_plan.proofs.LeftChildren.{gives_sparse, gives_to}
use Rattle.art_plan.specs.ChooseRemove.Losses.{loss_at}
use Rattle.art_plan.specs.ChooseRemove.Plans.{HasFound, HasSmaller}
use Rattle.art_plan.specs.ChooseRemove.Seen.{AreSeen, IsSeen}
use Rattle.art_plan.specs.declared.choose_remove.Loss.TheVariants.{Shrinks}
use Rattle.art_plan.specs.ArtCommit.CommitLaws.{HasNode}
use Rattle.art_plan.specs.ChooseInsert.Bodies.{IsFilled, site_in}
use Rattle.art_plan.specs.ArtFind.ReadSets.{above_of, node_of}
use Rattle.art_plan.specs.ArtFind.Findings.{IsStanding}
use Rattle.art_plan.specs.ArtFind.declared.read_sets.ReadSet.{ReadSet}
use Rattle.art_plan.specs.ArtFind.declared.findings.Above.{Above}
use Rattle.art_plan.specs.ArtFind.declared.findings.Position.{Position}
use Rattle.art_plan.specs.declared.changes.Site.{Site}
use Rattle.art_plan.specs.Remove.Cases.{IsShrink}
use Rattle.art_plan.specs.Remove.Removals.{IsSparse, smaller_node}
use Rattle.art_plan.specs.declared.remove.OldLeaf.{OldLeaf}
use Rattle.art_step.specs.declared.views.Sizes.{Sizes}
use Rattle.art_step.specs.declared.views.View.{View}

-- the next smaller layout is another, but for the smallest
smaller_other : (k : Layout) → k ≢ Node4 → smaller k ≢ k
smaller_other Node4 other same = other refl
smaller_other Node16 other same = absurd (cc)
smaller_other Node48 other same = absurd (cc)
smaller_other Node256 other same = absurd (cc)

module _ (z : Sizes) (t : Position) (read_set : ReadSet) (old : OldLeaf) (is : HasFound t old) (m : Layout) (goes : loss_at t read_set ≡ Shrinks m) (n : Node) (on : t.stamp.cell ≡ cell.Node n) where
  abbrev last : ℕ
  last = get_or old.key.items (t.depth - 1) 0

  pub node_sparse : IsSeen z old.key.items t read_set → (body : Body) → IsFilled t.stamp.cell (node_of read_set) body → IsSparse body last
  node_sparse seen body filled = gives_sparse t read_set m goes n on body filled last (record {
    meaning = found_meaning z t read_set old is seen n on body filled;
    child = child_word (leaf old.number);
    there = found_at z t read_set old is seen n on body filled;
  })

  -- the smaller node is another
  pub smaller_apart : IsSeen z old.key.items t read_set → (body : Body) → IsFilled t.stamp.cell (node_of read_set) body → (made : ℕ)
      → node n ≢ node (smaller_node body made)
  smaller_apart seen body filled made same =
      let one : n ≡ smaller_node body made = cc in
      smaller_other body.layout (node_sparse seen body filled).layout (sym (ap (λ (o : Node). o.layout) one) ∙ sym (filled n on).layout)

  module _ (a : Above) (at : t.above ≡ Some a) (upper lower : Bor Body) (upper-filled : IsFilled a.stamp.cell (above_of read_set) upper.now) (lower-filled : IsFilled t.stamp.cell (node_of read_set) lower.now)
      (made : ℕ) (site : Site) (named : site ≡ site_in a.stamp upper (get_or old.key.items (a.depth - 1) 0)) where
    pub shrink_knows : (u : View) → AreSeen z old.key.items t read_set → IsStanding z old.key.items t read_set u → HasSmaller z u t read_set made → get_or old.key.items (a.depth - 1) 0 < 256
        → (byte : ℕ) → byte ≡ last → IsShrink z u site old a.depth (record { node = n; stamp = t.stamp; body = lower }) byte (smaller_node lower.now made)
    shrink_knows u seen standing hand low byte byte-is = record {
      there = found_below z t read_set old is seen.node n on a at (seen.above a at) upper lower upper-filled lower-filled u site named standing low;
      old_leaf = found_leaf z t read_set old is seen.node u standing;
      at = subst (λ (b : ℕ). child_of lower.now.layout (word_of lower.now) b ≡ Some (child_word (leaf old.number))) (sym byte-is) (found_at z t read_set old is seen.node n on lower.now lower-filled);
      made = subst (λ (k : Layout). HasNode z u (record { layout = k; number = made })) (gives_to t read_set m goes n on lower.now lower-filled) (hand m goes);
    }
