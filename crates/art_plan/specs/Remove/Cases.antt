-- What each case of a removal knows of what was read.
use Rattle.std.specs.Prelude.{◌≡◌, ◌≢◌, ℕ, Some}
use Rattle.art_cell.specs.Children.{child_word}
use Rattle.art_cell.specs.Reads.{word_of}
use Rattle.art_cell.specs.Words.{child_of, prefix_of}
use Rattle.art_cell.specs.declared.cells.Cell.TheVariants as cells
use Rattle.art_cell.specs.declared.cells.Link.TheVariants.{Leaf as leaf, Node as node}
use Rattle.art_cell.specs.declared.cells.Node.{Node}
use Rattle.art_commit.specs.CommitLaws.{HasNode}
use Rattle.art_path.specs.declared.prefixes.Parts.{Parts}
use Rattle.art_plan.specs.Seen.{HasBelow, IsReadWhole, SiteFits, site_stamp}
use Rattle.art_plan.specs.declared.changes.Below.{Below}
use Rattle.art_plan.specs.declared.changes.Site.{Site}
use Rattle.art_plan.specs.Remove.Removals.{HasPair}
use Rattle.art_plan.specs.declared.remove.OldLeaf.{OldLeaf}
use Rattle.art_step.specs.Shows.{Shows}
use Rattle.art_step.specs.declared.views.Sizes.{Sizes}
use Rattle.art_step.specs.declared.views.Stamp.{Stamp}
use Rattle.art_step.specs.declared.views.View.{View}
use Rattle.art_tree.specs.Heaps.{Cells, heap_of}
use Rattle.art_tree.specs.WordChanges.{FitsWord}

-- in a tree the leaf has its key and its value
abbrev pub HasRow : OldLeaf → Cells → Type 0
HasRow old s = ((heap_of s).key old.number ≡ old.key.items) × ((heap_of s).value old.number ≡ old.value)

-- so it is in each tree that is as the stamp says
pub record IsOldLeaf (z : Sizes) (u : View) (x : Stamp) (old : OldLeaf) : Type 0 where
  pub row : Shows z u x (HasRow old)
  pub fits : FitsWord (leaf old.number)

-- so many bytes of the key lead to the site, which has the leaf
pub record IsDrop (z : Sizes) (u : View) (site : Site) (old : OldLeaf) (depth : ℕ) : Type 0 where
  pub place : SiteFits z u site old.key.items depth (Some (leaf old.number))
  pub old_leaf : IsOldLeaf z u (site_stamp site) old

-- the node below the site has the leaf at the byte; a node m is in hand
pub record IsShrink (z : Sizes) (u : View) (site : Site) (old : OldLeaf) (depth : ℕ) (below : Below) (byte : ℕ) (m : Node) : Type 0 where
  pub there : HasBelow z u site old.key.items depth below
  pub old_leaf : IsOldLeaf z u below.stamp old
  pub at : child_of below.body.now.layout (word_of below.body.now) byte ≡ Some (child_word (leaf old.number))
  pub made : HasNode z u m

-- the node below the site has the leaf at the byte and another leaf beside it, and no other child
pub record IsMergeLeaf (z : Sizes) (u : View) (site : Site) (old : OldLeaf) (depth : ℕ) (below : Below) (byte beside other : ℕ)
    : Type 0 where
  pub there : HasBelow z u site old.key.items depth below
  pub old_leaf : IsOldLeaf z u below.stamp old
  pub pair : HasPair below.body.now byte (child_word (leaf old.number)) beside (child_word (leaf other))

-- the node below the site has the leaf at the byte and a node beside it, a third cell, that was read whole; the prefixes of both
-- nodes, and the byte of the lower one, are the parts
pub record IsMergeNode (z : Sizes) (u : View) (site : Site) (old : OldLeaf) (depth : ℕ) (below : Below) (byte : ℕ) (lower : Below)
    (parts : Parts) : Type 0 where
  pub there : HasBelow z u site old.key.items depth below
  pub old_leaf : IsOldLeaf z u below.stamp old
  pub pair : HasPair below.body.now byte (child_word (leaf old.number)) parts.byte (child_word (node lower.node))
  pub read : IsReadWhole z u lower.stamp lower.node lower.body.now
  pub third : (site_stamp site).cell ≢ cells.Node lower.node
  pub other : lower.node ≢ below.node
  pub front : prefix_of (word_of below.body.now) ≡ parts.front.items
  pub rest : prefix_of (word_of lower.body.now) ≡ parts.rest.items
