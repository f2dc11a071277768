-- What a pass has read of the cells that a change writes, and where a child word stands in them.
use Rattle.std.specs.Prelude.{◌≡◌, ◌≢◌, ℕ, ◌<◌, List, take, true, false, Option, Some}
use Rattle.art_cell.specs.Children.{child_word}
use Rattle.art_cell.specs.Reads.{word_of}
use Rattle.art_cell.specs.Words.{size}
use Rattle.art_cell.specs.declared.cells.Body.{Body}
use Rattle.art_cell.specs.declared.cells.Cell.TheVariants as cells
use Rattle.art_cell.specs.declared.cells.Link.{Link}
use Rattle.art_cell.specs.declared.cells.Link.TheVariants.{Node as node}
use Rattle.art_cell.specs.declared.cells.Node.{Node}
use Rattle.art_plan.specs.Changes.{MayTarget}
use Rattle.art_plan.specs.declared.changes.Target.{Target}
use Rattle.art_plan.specs.declared.changes.Below.{Below}
use Rattle.art_plan.specs.declared.changes.Site.{Site}
use Rattle.art_plan.specs.declared.changes.Site.TheVariants.{Root, Slot}
use Rattle.art_step.specs.Shows.{Shows}
use Rattle.art_step.specs.Views.{IsWordOf, Member, note_of}
use Rattle.art_step.specs.declared.views.Fact.TheVariants.{Word}
use Rattle.art_step.specs.declared.views.Sizes.{Sizes}
use Rattle.art_step.specs.declared.views.Stamp.{Stamp}
use Rattle.art_step.specs.declared.views.View.{View}
use Rattle.art_tree.specs.Heaps.{Cells, heap_of}
use Rattle.art_tree.specs.Tree.{PlaceAt, child_at_place}
use Rattle.art_tree.specs.Tree as tree
use Rattle.art_tree.specs.WordChanges.{FitsWord}

-- ---- cells that were read

-- the stamp's cell as a target, which stays in the tree
abbrev pub kept : Stamp → Target
kept x = record { stamp = x; obsolete = false }

-- or as one that goes
abbrev pub gone : Stamp → Target
gone x = record { stamp = x; obsolete = true }

-- the child word of the node
abbrev pub word_below : Below → ℕ
word_below below = child_word (node below.node)

-- the node may be locked under the stamp, and each of its words was noted: the body has them, and 0 in place of the version. Each
-- has the form of its place
pub record IsReadWhole (z : Sizes) (u : View) (x : Stamp) (n : Node) (body : Body) : Type 0 where
  pub may : MayTarget z u (kept x)
  pub cell : x.cell ≡ cells.Node n
  pub layout : body.layout ≡ n.layout
  pub noted : (i : ℕ) → 0 < i → i < size n.layout → Member (note_of x (Word i (word_of body i))) u.notes
  pub forms : (i : ℕ) → IsWordOf z (cells.Node n) i (word_of body i)
  pub version : word_of body 0 ≡ 0

-- the anchor may be locked under the stamp, and its child word was noted
pub record IsReadRoot (z : Sizes) (u : View) (x : Stamp) (word : ℕ) : Type 0 where
  pub may : MayTarget z u (kept x)
  pub cell : x.cell ≡ cells.Anchor
  pub noted : Member (note_of x (Word 1 word)) u.notes

-- ---- where a child word stands

-- the stamp of the cell
abbrev pub site_stamp : Site → Stamp
site_stamp (Root x) = x
site_stamp (Slot x body byte) = x

-- the path r leads to the place, which has this child, or none
abbrev pub HasAt : tree.Place → List ℕ → Option Link → Cells → Type 0
HasAt p r o s = PlaceAt (heap_of s) p r × (child_at_place (heap_of s) p ≡ o)

pub record IsAtRoot (z : Sizes) (u : View) (x : Stamp) (r : List ℕ) (o : Option Link) : Type 0 where
  pub word : ℕ
  pub read : IsReadRoot z u x word
  pub shows : Shows z u x (HasAt tree.Top r o)

pub record IsAtSlot (z : Sizes) (u : View) (x : Stamp) (body : Body) (byte : ℕ) (r : List ℕ) (o : Option Link) : Type 0 where
  pub node : Node
  pub read : IsReadWhole z u x node body
  pub low : byte < 256
  pub shows : Shows z u x (HasAt (tree.Slot node byte) r o)

-- so many bytes of the key lead to the site, which has this child, or none
abbrev pub SiteFits : Sizes → View → Site → List ℕ → ℕ → Option Link → Type 0
SiteFits z u (Root x) k depth o = IsAtRoot z u x (take depth k) o
SiteFits z u (Slot x body byte) k depth o = IsAtSlot z u x body.now byte (take depth k) o

-- the site, to which so many bytes of the key lead, has a node, another cell than its own, that was read whole
pub record HasBelow (z : Sizes) (u : View) (site : Site) (k : List ℕ) (depth : ℕ) (below : Below) : Type 0 where
  pub place : SiteFits z u site k depth (Some (node below.node))
  pub read : IsReadWhole z u below.stamp below.node below.body.now
  pub apart : (site_stamp site).cell ≢ cells.Node below.node
  pub fits : FitsWord (node below.node)
