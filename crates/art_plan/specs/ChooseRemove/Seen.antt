-- What has to be seen before a leaf goes.
use Rattle.std.specs.Prelude.{◌≡◌, ℕ, List, Option, Some}
use Rattle.art_cell.specs.declared.cells.Cell.TheVariants as cells
use Rattle.art_step.specs.Acting.{HasPath}
use Rattle.art_plan.specs.declared.choose_remove.Lower.{Lower}
use Rattle.art_plan.specs.ChooseInsert.Seen.{WasSeen}
use Rattle.art_plan.specs.ArtFind.ReadSets.{above_of, node_of}
use Rattle.art_plan.specs.ArtFind.Kept.{IsKept}
use Rattle.art_plan.specs.ArtFind.Rereadings.{AreKnown}
use Rattle.art_plan.specs.ArtFind.declared.read_sets.ReadSet.{ReadSet}
use Rattle.art_plan.specs.ArtFind.declared.findings.Above.{Above}
use Rattle.art_plan.specs.ArtFind.declared.findings.Position.{Position}
use Rattle.art_step.specs.Knowledge.{HoldsAll, IsShape}
use Rattle.art_step.specs.Shows.{HasStamp}
use Rattle.art_step.specs.Views.{size_of}
use Rattle.art_step.specs.declared.views.Sizes.{Sizes}
use Rattle.art_step.specs.declared.views.View.{View}
use Rattle.art_tree.specs.Heaps.{Cells}

-- all words of the cell that names the leaf were read, and a check succeeded after that
abbrev pub IsSeen : Sizes → List ℕ → Position → ReadSet → Type 0
IsSeen z k t read_set = WasSeen z k t read_set t.stamp (node_of read_set)

-- so it was, and so was the cell above
pub record AreSeen (z : Sizes) (k : List ℕ) (t : Position) (read_set : ReadSet) : Type 0 where
  pub node : IsSeen z k t read_set
  pub above : (a : Above) → t.above ≡ Some a → WasSeen z k t read_set a.stamp (above_of read_set)

-- ---- the lower node

-- the pass has its stamp, a path to it was noted, and each word that is kept of it was noted
pub record StillKnown (z : Sizes) (v : View) (lower : Lower) (reads : List (Option ℕ)) : Type 0 where
  pub cell : lower.stamp.cell ≡ cells.Node lower.node
  pub stamp : HasStamp z v lower.stamp
  pub path : HasPath v lower.stamp
  pub kept : IsKept z v lower.stamp reads

-- all its words were read, and a check of it succeeded after that: at some time all that was noted under its stamp held in a tree,
-- its path too
pub record IsLowerSeen (z : Sizes) (lower : Lower) (reads : List (Option ℕ)) : Type 0 where
  pub view : View
  pub known : StillKnown z view lower reads
  pub tree : Cells
  pub shape : IsShape z tree
  pub holds : HoldsAll view lower.stamp tree
  pub whole : AreKnown reads 1 (size_of lower.stamp.cell)
