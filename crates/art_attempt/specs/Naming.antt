-- What a naming asks, and what it knows between two of its steps: there is a node below the one where the key stands.
use Rattle.std.specs.Prelude.{◌≡◌, ◌≢◌, ℕ, ◌+◌, ◌<◌, ◌≤◌, ◌++◌, ◌∷◌, [], List, take, Option, Some, None}
use Rattle.art_cell.specs.Bodies.{IsBody}
use Rattle.art_cell.specs.Children.{child_word}
use Rattle.art_cell.specs.Reads.{word_of}
use Rattle.art_cell.specs.Words.{child_of, prefix_of}
use Rattle.art_cell.specs.declared.cells.Body.{Body}
use Rattle.art_cell.specs.declared.cells.Cell.TheVariants as cell
use Rattle.art_cell.specs.declared.cells.Link.TheVariants.{Node as node}
use Rattle.art_cell.specs.declared.cells.Node.{Node}
use Rattle.art_find.specs.Descents.{IsReading}
use Rattle.art_find.specs.Findings.{IsStanding}
use Rattle.art_find.specs.Kept.{IsKept}
use Rattle.art_find.specs.ReadSets.{node_of}
use Rattle.art_find.specs.Rereadings.{AreKnown}
use Rattle.art_find.specs.declared.findings.Above.{Above as CellAbove}
use Rattle.art_find.specs.declared.findings.Position.{Position}
use Rattle.art_find.specs.declared.read_sets.ReadSet.{ReadSet}
use Rattle.art_attempt.specs.declared.naming.Named.{Named}
use Rattle.art_attempt.specs.declared.naming.Named.TheVariants.{Unchanged, Changed}
use Rattle.art_attempt.specs.declared.naming.Naming.{Naming}
use Rattle.art_attempt.specs.declared.naming.Naming.TheVariants.{Begin, Check, Ended}
use Rattle.art_step.specs.Acting.{HasPath}
use Rattle.art_step.specs.declared.actions.Action.{Action}
use Rattle.art_step.specs.declared.actions.Action.TheVariants as action
use Rattle.art_plan.specs.ChooseInsert.Bodies.{HasWords}
use Rattle.art_plan.specs.ChooseRemove.Others.{NamesChild}
use Rattle.art_step.specs.Shows.{HasStamp}
use Rattle.art_step.specs.Views.{Member, note_of, size_of}
use Rattle.art_step.specs.declared.views.Fact.TheVariants.{Starts}
use Rattle.art_step.specs.declared.views.Sizes.{Sizes}
use Rattle.art_step.specs.declared.views.Stamp.{Stamp}
use Rattle.art_step.specs.declared.views.View.{View}

-- ---- what it asks

-- the next step
abbrev pub asks : Position → Naming → Option Action
asks t (Begin n) = Some (action.Begin (cell.Node n))
asks t (Check x) = Some (action.Check t.stamp)
asks t (Ended e) = None

-- how it ended, if it has
abbrev pub ended_at : Naming → Option Named
ended_at (Ended e) = Some e
ended_at m = None

-- how many steps it makes at most from here on
abbrev pub steps_left : Naming → ℕ
steps_left (Begin n) = 2
steps_left (Check x) = 1
steps_left (Ended e) = 0

-- how many failures there are, of so many at the beginning: a version word that was not clear, or not the same, is one more
abbrev pub failures_of : Naming → ℕ → ℕ
failures_of (Ended Changed) n = n + 1
failures_of m n = n

-- ---- where the key stands

-- the pass only read, and the key stands where it stood
pub record StillStands (z : Sizes) (k : List ℕ) (t : Position) (read_set : ReadSet) (u v : View) : Type 0 where
  pub reads : IsReading u v
  pub later : u.steps ≤ v.steps
  pub standing : IsStanding z k t read_set v

-- all words of the cell where the key stands are known
abbrev pub KnowsHere : Position → ReadSet → Type 0
KnowsHere t read_set = AreKnown (node_of read_set) 1 (size_of t.stamp.cell)

-- it stands in a node of which all words are known, and one of them names the lower node
pub record StillNames (z : Sizes) (k : List ℕ) (t : Position) (n : Node) (read_set : ReadSet) (u v : View) : Type 0 where
  pub stands : StillStands z k t read_set u v
  pub whole : KnowsHere t read_set
  pub here : Node
  pub is : t.stamp.cell ≡ cell.Node here
  pub named : NamesChild t read_set (node n)

-- ---- the lower node

-- the body has this node as its child at the byte
pub record HasLower (body : Body) (byte : ℕ) (n : Node) : Type 0 where
  pub low : byte < 256
  pub there : child_of body.layout (word_of body) byte ≡ Some (child_word (node n))

-- the key stands in a node; whatever body has the words that were read of it is a node's, and has the lower node at one byte
pub record IsParent (t : Position) (read_set : ReadSet) (n : Node) : Type 0 where
  pub here : Node
  pub is : t.stamp.cell ≡ cell.Node here
  pub byte : ℕ
  pub meaning : (body : Body) → HasWords here (node_of read_set) body → IsBody body.layout (word_of body)
  pub has : (body : Body) → HasWords here (node_of read_set) body → HasLower body byte n

-- the path to the lower node was noted under the stamp, by whatever byte it is the child: the path by which the cell above has the node
-- where the key stands, then the prefix of that node, as it was read, then the byte
abbrev pub IsLed : List ℕ → Position → ReadSet → Node → View → Stamp → Type 0
IsLed k t read_set n v x = (here : Node) (a : CellAbove) (body : Body) (byte : ℕ) → t.stamp.cell ≡ cell.Node here → t.above ≡ Some a →
    HasWords here (node_of read_set) body → HasLower body byte n →
    Member (note_of x (Starts (take a.depth k ++ prefix_of (word_of body) ++ byte ∷ []))) v.notes

-- the lower node is stamped, and these words were read of it
pub record IsLower (z : Sizes) (n : Node) (x : Stamp) (lower : List (Option ℕ)) (v : View) : Type 0 where
  pub cell : x.cell ≡ cell.Node n
  pub stamp : HasStamp z v x
  pub kept : IsKept z v x lower

-- so it is, it is a child of the node where the key stands, and another node, and its path was noted too
pub record IsBelow (z : Sizes) (k : List ℕ) (t : Position) (read_set : ReadSet) (n : Node) (x : Stamp) (lower : List (Option ℕ)) (v : View)
    : Type 0 where
  pub on : IsLower z n x lower v
  pub parent : IsParent t read_set n
  pub other : t.stamp.cell ≢ cell.Node n
  pub path : HasPath v x
  pub led : IsLed k t read_set n v x

-- if the cell above were the lower node, this path would be noted under its stamp too
abbrev pub WouldLead : List ℕ → Position → ReadSet → Node → View → Type 0
WouldLead k t read_set n v = (a : CellAbove) → t.above ≡ Some a → a.stamp.cell ≡ cell.Node n → IsLed k t read_set n v a.stamp

-- but it is not that node
abbrev pub IsThird : Position → Node → Type 0
IsThird t n = (a : CellAbove) → t.above ≡ Some a → a.stamp.cell ≢ cell.Node n

-- ---- what it knows, of a pass that had the view u when it began

-- at each stage
abbrev pub StageFits : Sizes → List ℕ → Position → Node → Naming → ReadSet → List (Option ℕ) → View → View → Type 0
StageFits z k t n (Begin m) read_set lower u v = StillNames z k t n read_set u v × (m ≡ n)
StageFits z k t n (Check x) read_set lower u v = StillNames z k t n read_set u v × IsLower z n x lower v
StageFits z k t n (Ended (Unchanged x)) read_set lower u v = StillNames z k t n read_set u v × IsBelow z k t read_set n x lower v ×
    WouldLead k t read_set n v
StageFits z k t n (Ended Changed) read_set lower u v = IsReading u v

-- of a naming of the node n, of which these words were read
pub record Fits (z : Sizes) (k : List ℕ) (t : Position) (n : Node) (m : Naming) (read_set : ReadSet) (lower : List (Option ℕ))
    (u v : View) : Type 0 where
  pub stage : StageFits z k t n m read_set lower u v
  pub failures : v.failures ≡ failures_of m u.failures
  pub steps : v.steps + steps_left m ≤ u.steps + 2
