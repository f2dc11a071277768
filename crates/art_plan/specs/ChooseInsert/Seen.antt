-- What has to be seen before a change is planned.
use Rattle.std.specs.Prelude.{◌≡◌, ℕ, List, Option, Some, true}
use Rattle.art_plan.specs.ChooseInsert.Needs.{needs_of}
use Rattle.art_find.specs.ReadSets.{above_of, node_of}
use Rattle.art_find.specs.Findings.{IsStanding}
use Rattle.art_find.specs.Rereadings.{AreKnown}
use Rattle.art_find.specs.declared.read_sets.ReadSet.{ReadSet}
use Rattle.art_find.specs.declared.findings.Above.{Above}
use Rattle.art_find.specs.declared.findings.Position.{Position}
use Rattle.art_step.specs.Knowledge.{HoldsAll, IsShape}
use Rattle.art_step.specs.Views.{size_of}
use Rattle.art_step.specs.declared.views.Sizes.{Sizes}
use Rattle.art_step.specs.declared.views.Stamp.{Stamp}
use Rattle.art_step.specs.declared.views.View.{View}
use Rattle.art_tree.specs.Heaps.{Cells}

-- at some time all that was noted under the stamp x held in a tree, when the key stood there and the read set was as it is now
pub record WasVouched (z : Sizes) (k : List ℕ) (t : Position) (read_set : ReadSet) (x : Stamp) : Type 0 where
  pub view : View
  pub standing : IsStanding z k t read_set view
  pub tree : Cells
  pub shape : IsShape z tree
  pub holds : HoldsAll view x tree

-- all words of the stamp's cell were read, and a check succeeded after that
abbrev pub WasSeen : Sizes → List ℕ → Position → ReadSet → Stamp → List (Option ℕ) → Type 0
WasSeen z k t read_set x reads = WasVouched z k t read_set x × AreKnown reads 1 (size_of x.cell)

-- all words of the cell were read, and a check succeeded after that; and so of the cell above, where it is written too
pub record IsSeen (z : Sizes) (k : List ℕ) (t : Position) (read_set : ReadSet) : Type 0 where
  pub vouched : WasVouched z k t read_set t.stamp
  pub whole : AreKnown (node_of read_set) 1 (size_of t.stamp.cell)
  pub above : (a : Above) → t.above ≡ Some a → (needs_of t.verdict).above ≡ true →
      WasSeen z k t read_set a.stamp (above_of read_set)
