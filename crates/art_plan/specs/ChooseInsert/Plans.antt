-- What the plan of an insert is, by where its key stands.
use Rattle.std.specs.Prelude.{◌≡◌, ◌≢◌, ◌⊎◌, ℕ, true, Option, Some, ⊤, List, [], ◌∷◌, if◌then◌else◌}
use Rattle.art_cell.specs.declared.cells.Cell.TheVariants as cell
use Rattle.art_cell.specs.declared.cells.Layout.{Layout}
use Rattle.art_plan.specs.ArtCommit.CommitLaws.{HasNode}
use Rattle.art_plan.specs.ChooseInsert.Needs.{needs_of}
use Rattle.art_plan.specs.ChooseInsert.Seen.{IsSeen}
use Rattle.art_find.specs.declared.descents.Verdict.{Verdict}
use Rattle.art_find.specs.declared.descents.Verdict.TheVariants.{Empty, LeafMismatch, PrefixMismatch, NoChild}
use Rattle.art_plan.specs.Insert.Cases.{IsInHand}
use Rattle.art_plan.specs.declared.insert.NewLeaf.{NewLeaf}
use Rattle.art_find.specs.Findings.{IsStanding}
use Rattle.art_find.specs.ReadSets.{above_of, node_of}
use Rattle.art_find.specs.declared.read_sets.ReadSet.{ReadSet}
use Rattle.art_find.specs.declared.findings.Above.{Above}
use Rattle.art_find.specs.declared.findings.Position.{Position}
use Rattle.art_plan.specs.Changes.{IsPlanned, target_at}
use Rattle.art_plan.specs.declared.changes.Change.{Change}
use Rattle.art_plan.specs.declared.changes.Target.{Target}
use Rattle.art_step.specs.declared.views.Sizes.{Sizes}
use Rattle.art_step.specs.declared.views.Stamp.{Stamp}
use Rattle.art_step.specs.declared.views.View.{View}
use Rattle.art_cell.specs.Children.{child_word}
use Rattle.art_cell.specs.declared.cells.Link.TheVariants.{Node as node}

-- ---- the verdicts

-- the tree has no leaf with the key, and it is known where one would stand
abbrev pub Comes : Verdict → Type 0
Comes Empty = ⊤
Comes (LeafMismatch l at byte) = ⊤
Comes (PrefixMismatch n header at) = ⊤
Comes (NoChild n header) = ⊤
Comes verdict = ⊥

-- the node that is needed, if one is, is in hand with this number
abbrev pub HasNeeded : Sizes → View → Verdict → ℕ → Type 0
HasNeeded z u found made = (layout : Layout) → (needs_of found).node ≡ Some layout →
    HasNode z u (record { layout = layout; number = made })

-- ---- the plan

-- the change is a plan for each pass that has seen what is written, still knows where the key stands, and has in hand what is needed
abbrev pub PlansInsert : Position → ReadSet → NewLeaf → ℕ → Change → Type 0
PlansInsert t read_set new made c = (z : Sizes) (u : View) → IsSeen z new.key.items t read_set → IsStanding z new.key.items t read_set u →
    IsInHand z u new → HasNeeded z u t.verdict made → IsPlanned z u c

-- the child word of the node that gives way to a larger one, if one does
abbrev pub gives_way : Verdict → List ℕ
gives_way (NoChild n header) = if (needs_of (NoChild n header)).above then child_word (node n) ∷ [] else []
gives_way found = []

-- ---- which cells are locked

-- the stamp is that of the cell where the key stands, or of the cell above where that is written too
abbrev pub IsLockedAt : Position → Stamp → Type 0
IsLockedAt t x = (x ≡ t.stamp) ⊎ ((a : Above) × (t.above ≡ Some a) × ((needs_of t.verdict).above ≡ true) × (x ≡ a.stamp))

-- each cell that the change locks is under such a stamp
abbrev pub LocksOnly : (Stamp → Type 0) → Change → Type 0
LocksOnly so c = (i : ℕ) (x : Target) → target_at c i ≡ Some x → so x.stamp

-- ---- what was read of them

-- these are the words that were read under the stamp: of the cell where the key stands, or of the cell above
abbrev pub WasReadOf : Position → ReadSet → Stamp → List (Option ℕ) → Type 0
WasReadOf t read_set x reads =
    ((x ≡ t.stamp) × (reads ≡ node_of read_set)) ⊎ ((a : Above) × (t.above ≡ Some a) × (x ≡ a.stamp) × (reads ≡ above_of read_set))

-- the node that is made, if one is, is another cell than the one where the key stands
abbrev pub MakesAnother : Position → ℕ → Type 0
MakesAnother t made = (layout : Layout) → (needs_of t.verdict).node ≡ Some layout
    → t.stamp.cell ≢ cell.Node (record { layout = layout; number = made })
