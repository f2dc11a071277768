-- What the plan of a removal is, by what goes with the leaf.
use Rattle.std.specs.Prelude.{◌≡◌, ◌⊎◌, ℕ, ◌-◌, List, get_or, Option, Some, [], ◌∷◌}
use Rattle.art_cell.specs.Children.{child_word}
use Rattle.art_cell.specs.Reads.{Agrees}
use Rattle.art_cell.specs.Words.{Words, prefix_of}
use Rattle.art_cell.specs.declared.cells.Body.{Body}
use Rattle.art_cell.specs.declared.cells.Cell.TheVariants as cell
use Rattle.art_cell.specs.declared.cells.Link.{Link}
use Rattle.art_cell.specs.declared.cells.Link.TheVariants.{Leaf as leaf, Node as node}
use Rattle.art_cell.specs.declared.cells.Node.{Node}
use Rattle.art_cell.specs.declared.cells.Layout.{Layout}
use Rattle.art_plan.specs.ChooseRemove.Losses.{loss_at}
use Rattle.art_plan.specs.ChooseRemove.Seen.{AreSeen, IsSeen, StillKnown}
use Rattle.art_plan.specs.declared.choose_remove.Loss.TheVariants.{Shrinks}
use Rattle.art_plan.specs.declared.choose_remove.Lower.{Lower}
use Rattle.art_plan.specs.ArtCommit.CommitLaws.{HasNode}
use Rattle.art_plan.specs.ChooseInsert.Bodies.{HasWords}
use Rattle.art_plan.specs.ChooseInsert.Plans.{WasReadOf}
use Rattle.art_plan.specs.ArtFind.declared.descents.Verdict.TheVariants.{Found}
use Rattle.art_path.specs.declared.prefixes.Parts.{Parts}
use Rattle.art_plan.specs.ArtFind.ReadSets.{node_of}
use Rattle.art_plan.specs.ArtFind.Findings.{IsStanding}
use Rattle.art_plan.specs.ArtFind.declared.read_sets.ReadSet.{ReadSet}
use Rattle.art_plan.specs.ArtFind.declared.findings.Above.{Above}
use Rattle.art_plan.specs.ArtFind.declared.findings.Position.{Position}
use Rattle.art_plan.specs.Changes.{IsPlanned}
use Rattle.art_plan.specs.declared.changes.Change.{Change}
use Rattle.art_plan.specs.Remove.Removals.{HasPair, IsTooLong}
use Rattle.art_plan.specs.declared.remove.OldLeaf.{OldLeaf}
use Rattle.art_step.specs.declared.views.Sizes.{Sizes}
use Rattle.art_step.specs.declared.views.Stamp.{Stamp}
use Rattle.art_step.specs.declared.views.View.{View}
use Rattle.art_cell.specs.declared.cells.Cell.{Cell}

-- the leaf was found there
abbrev pub HasFound : Position → OldLeaf → Type 0
HasFound t old = t.verdict ≡ Found old.number old.value

-- ---- which cells are locked

-- the stamp is that of the cell that names the leaf
abbrev pub IsNodeAt : Position → Stamp → Type 0
IsNodeAt t x = x ≡ t.stamp

-- it is that, or that of the cell above
abbrev pub IsEitherAt : Position → Stamp → Type 0
IsEitherAt t x = IsNodeAt t x ⊎ ((a : Above) × (t.above ≡ Some a) × (x ≡ a.stamp))

-- it is one of these, or that of the lower node
abbrev pub IsAnyAt : Position → Lower → Stamp → Type 0
IsAnyAt t lower x = IsEitherAt t x ⊎ (x ≡ lower.stamp)

-- the child word of the node, if the cell is one
abbrev pub node_words : Cell → List ℕ
node_words (cell.Node n) = child_word (node n) ∷ []
node_words c = []

-- ---- the leaf alone

-- the change is a plan for each pass that has seen the cell that names the leaf, and still knows where it stands
abbrev pub PlansDrop : Position → ReadSet → OldLeaf → Change → Type 0
PlansDrop t read_set old c = (z : Sizes) (u : View) → IsSeen z old.key.items t read_set → IsStanding z old.key.items t read_set u → IsPlanned z u c

-- ---- the leaf and the node

-- a node of the layout that the node may give way to is in hand with this number
abbrev pub HasSmaller : Sizes → View → Position → ReadSet → ℕ → Type 0
HasSmaller z u t read_set made = (k : Layout) → loss_at t read_set ≡ Shrinks k → HasNode z u (record { layout = k; number = made })

-- the change is a plan for each pass that has seen the cell that names the leaf and the one above, still knows where the leaf stands,
-- and has the smaller node in hand
abbrev pub PlansShrink : Position → ReadSet → OldLeaf → ℕ → Change → Type 0
PlansShrink t read_set old made c = (z : Sizes) (u : View) → AreSeen z old.key.items t read_set → IsStanding z old.key.items t read_set u →
    HasSmaller z u t read_set made → IsPlanned z u c

-- ---- the leaf and the node, which keeps one other child

-- the cell is a node; whatever body has the words that were read of it has two children: the leaf, at the last byte that leads to it,
-- and this one beside it
pub record HasOther (t : Position) (read_set : ReadSet) (old : OldLeaf) (beside : ℕ) (d : Link) : Type 0 where
  pub node : Node
  pub is : t.stamp.cell ≡ cell.Node node
  pub pair : (body : Body) → HasWords node (node_of read_set) body →
      HasPair body (get_or old.key.items (t.depth - 1) 0) (child_word (leaf old.number)) beside (child_word d)

-- the change is a plan for each pass that has seen both cells, and still knows where the leaf stands
abbrev pub PlansMerge : Position → ReadSet → OldLeaf → Change → Type 0
PlansMerge t read_set old c = (z : Sizes) (u : View) → AreSeen z old.key.items t read_set → IsStanding z old.key.items t read_set u → IsPlanned z u c

-- ---- the leaf and the node, which keeps one other child, a node

-- the prefix of the node, the byte of the lower one, and the prefix of this, in whatever words agree with those that were read
pub record ArePartsOf (read_set : ReadSet) (lower : Lower) (reads : List (Option ℕ)) (parts : Parts) : Type 0 where
  pub front : (w : Words) → Agrees (node_of read_set) w → parts.front.items ≡ prefix_of w
  pub byte : parts.byte ≡ lower.byte
  pub rest : (w : Words) → Agrees reads w → parts.rest.items ≡ prefix_of w

-- these are the words that were read under the stamp: of the cell that names the leaf, of the cell above, or of the lower node
abbrev pub WasReadOfAny : Position → ReadSet → Lower → List (Option ℕ) → Stamp → List (Option ℕ) → Type 0
WasReadOfAny t read_set lower lower_reads x reads = WasReadOf t read_set x reads ⊎ ((x ≡ lower.stamp) × (reads ≡ lower_reads))

-- the change is a plan for each pass that has seen both cells, and still knows where the leaf stands, and the lower node
abbrev pub PlansMergeNode : Position → ReadSet → Lower → List (Option ℕ) → OldLeaf → Change → Type 0
PlansMergeNode t read_set lower reads old c = (z : Sizes) (u : View) → AreSeen z old.key.items t read_set → IsStanding z old.key.items t read_set u →
    StillKnown z u lower reads → IsPlanned z u c

-- the cell above is the lower node
pub record IsAlsoAbove (t : Position) (lower : Lower) : Type 0 where
  pub above : Above
  pub is : t.above ≡ Some above
  pub same : above.stamp.cell ≡ lower.stamp.cell

-- so it is, or the joined prefix is too long
abbrev pub MayNotMerge : Position → ReadSet → Lower → List (Option ℕ) → Type 0
MayNotMerge t read_set lower reads = IsAlsoAbove t lower ⊎ ((parts : Parts) × ArePartsOf read_set lower reads parts × IsTooLong parts)
