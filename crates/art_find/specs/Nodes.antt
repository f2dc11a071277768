-- How a finding goes on from node to node.
use Rattle.std.specs.Prelude.{◌≡◌, ◌+◌, ℕ, Bool, true, false, List, Option, Result, Ok, Err}
use Rattle.art_find.specs.Descents.{stage_below, staged}
use Rattle.art_find.specs.Findings.{CameBack, FindingFits, WentOn}
use Rattle.art_find.specs.declared.descents.Descent.{Descent}
use Rattle.art_find.specs.declared.descents.NodeSeen.{NodeSeen}
use Rattle.art_find.specs.declared.descents.Stage.{Stage}
use Rattle.art_find.specs.declared.descents.Stage.TheVariants as stage
use Rattle.art_find.specs.declared.findings.Above.{Above}
use Rattle.art_find.specs.declared.findings.Finding.{Finding}
use Rattle.art_find.specs.declared.read_sets.ReadSet.{ReadSet}
use Rattle.art_find.specs.declared.nodes.Below.{Below}
use Rattle.art_find.specs.declared.nodes.Child.{Child}
use Rattle.art_find.specs.declared.nodes.NodeSearch.{NodeSearch}
use Rattle.art_step.specs.Steps.Read.{Outcome as ReadOutcome}
use Rattle.art_step.specs.declared.deeds.Deed.{Deed}
use Rattle.art_step.specs.declared.views.Sizes.{Sizes}
use Rattle.art_step.specs.declared.views.View.{View}

-- what stands beside a finding: the pass's view, the words that are kept, and how many turns are left
pub record Moment : Type 0 where
  pub sizes : Sizes
  pub view : View
  pub kept : ReadSet
  pub left : ℕ

abbrev pub moment : Sizes → View → ReadSet → ℕ → Moment
moment z v read_set left = record { sizes = z; view = v; kept = read_set; left = left }

-- steps were made from the one to the other, and none failed; each took a turn
pub record Came (k : List ℕ) (m : Finding) (a : Moment) (n : Finding) (b : Moment) : Type 0 where
  pub sizes : b.sizes ≡ a.sizes
  pub made : b.view.steps + b.left ≡ a.view.steps + a.left
  pub on : WentOn a.sizes k m a.kept a.view n b.kept b.view

-- and then one failed, which took a turn too
pub record CameOff (k : List ℕ) (m : Finding) (a : Moment) (n : Finding) (b : Moment) : Type 0 where
  pub made : b.view.steps + b.left ≡ a.view.steps + a.left
  pub back : CameBack a.sizes k m a.kept a.view n b.kept b.view

abbrev pub Arrives : Bool → List ℕ → Finding → Moment → Finding → Moment → Type 0
Arrives true k m a n b = Came k m a n b
Arrives false k m a n b = CameOff k m a n b

-- a way that went on has come to what it says; else the finding stands where it was left, and went on or came back
abbrev pub Reaches : {A : Type 0} → (A → Finding) → Result A Bool → List ℕ → Finding → Moment → Finding → Moment → Type 0
Reaches at (Ok x) k m a n b = Came k m a (at x) b
Reaches at (Err on) k m a n b = Arrives on k m a n b

-- from wherever steps had come to the one, they reach the other
abbrev pub LeadsOn : {A : Type 0} → (A → Finding) → Result A Bool → List ℕ → Finding → Moment → Finding → Moment → Type 0
LeadsOn at r k n b o c = (m : Finding) (a : Moment) → Came k m a n b → Reaches at r k m a o c

-- the finding knows what it should
abbrev pub FitsAt : List ℕ → Finding → Moment → Type 0
FitsAt k m a = (what : Option ℕ → Deed) × (u : View) × FindingFits a.sizes k what m a.kept u a.view

-- the header of a node was read, by the last step
abbrev pub IsHeaderRead : Sizes → View → Sizes → View → NodeSeen → Type 0
IsHeaderRead z v z' w seen = (z' ≡ z) × ReadOutcome z v w seen.stamp 1 seen.header

-- ---- where it stands, below or on a cell with this one above it

abbrev pub finding_at : Option Above → ℕ → Stage → Finding
finding_at above depth s = record { descent = record { depth = depth; stage = s }; above = above }

-- the cell that names this is stamped
abbrev pub finding_child : Option Above → Child → Finding
finding_child above c = finding_at above c.depth (stage.Child c.stamp c.link)

-- and checked
abbrev pub finding_below : Option Above → Below → Finding
finding_below above b = finding_at above b.depth (stage_below b.above b.link)

-- a node is searched
abbrev pub descent_search : NodeSearch → Descent
descent_search f = record { depth = f.depth; stage = staged f.sought f.seen }

abbrev pub finding_search : Option Above → NodeSearch → Finding
finding_search above f = finding_at above f.depth (staged f.sought f.seen)
