-- What a finding knows between two of its steps: what its descent does, and of the words that it keeps.
use Rattle.std.specs.Prelude.{◌≡◌, ◌≢◌, ◌+◌, ◌<◌, ◌≤◌, ◌⊎◌, ℕ, Bool, true, false, List, Option, Some, None, length, replicate, set, take, ⊤}
use Rattle.std.specs.Option.{option_map}
use Rattle.art_cell.specs.declared.cells.Cell.{Cell}
use Rattle.art_cell.specs.declared.cells.Cell.TheVariants as cell
use Rattle.art_cell.specs.declared.cells.Link.TheVariants.{Node as node}
use Rattle.art_cell.specs.declared.cells.Node.{Node}
use Rattle.art_step.specs.Acting.{Answers, HasPath, goes_on, telling}
use Rattle.art_find.specs.Descents.{Fits, Stays, asks, decided_at, ended_at, most_steps, stands_on}
use Rattle.art_find.specs.Verdicts.{Says}
use Rattle.art_step.specs.declared.actions.Answer.{Answer}
use Rattle.art_step.specs.declared.actions.Answer.TheVariants.{Begun, Checked}
use Rattle.art_step.specs.declared.actions.Answer.TheVariants as told
use Rattle.art_step.specs.declared.actions.Action.{Action}
use Rattle.art_step.specs.declared.actions.Action.TheVariants.{Read, ReadLeaf, Check, Settle}
use Rattle.art_find.specs.declared.descents.Verdict.{Verdict}
use Rattle.art_find.specs.ReadSets.{above_of, node_of}
use Rattle.art_find.specs.Kept.{IsKept}
use Rattle.art_find.specs.declared.read_sets.ReadSet.{ReadSet}
use Rattle.art_find.specs.declared.findings.Above.{Above}
use Rattle.art_find.specs.declared.findings.Finding.{Finding}
use Rattle.art_find.specs.declared.findings.Position.{Position}
use Rattle.art_step.specs.Shows.{HasChild, HasStamp, Shows}
use Rattle.art_step.specs.Views.{Member, note_of}
use Rattle.art_step.specs.declared.deeds.Deed.{Deed}
use Rattle.art_step.specs.declared.views.Fact.TheVariants.{Starts}
use Rattle.art_step.specs.declared.views.Sizes.{Sizes}
use Rattle.art_step.specs.declared.views.Stamp.{Stamp}
use Rattle.art_step.specs.declared.views.View.{View}

-- ---- what it knows

-- the cell above has the node as its child, to which the first bytes of the key lead, so many
pub record IsAboveOf (z : Sizes) (k : List ℕ) (v : View) (a : Above) (n : Node) : Type 0 where
  pub on : HasStamp z v a.stamp
  pub path : HasPath v a.stamp
  pub deep : a.depth ≤ length k
  pub shows : Shows z v a.stamp (λ s. HasChild s a.stamp.cell (node n) (take a.depth k))

-- nothing is above the anchor; above a node is a cell that has it as a child, and what is kept of that cell was read of it
abbrev pub IsUnder : Sizes → List ℕ → Option Above → List (Option ℕ) → View → Cell → Type 0
IsUnder z k above reads v cell.Anchor = above ≡ None
IsUnder z k above reads v (cell.Leaf l) = ⊥
IsUnder z k above reads v (cell.Node n) = (a : Above) × (above ≡ Some a) × IsAboveOf z k v a n × IsKept z v a.stamp reads

-- what is kept was read: of the cell where it stands, to which a path was noted (of a node, the one by which the cell above has it),
-- and of the cell above
pub record IsPlaced (z : Sizes) (k : List ℕ) (above : Option Above) (read_set : ReadSet) (v : View) (y : Stamp) : Type 0 where
  pub kept : IsKept z v y (node_of read_set)
  pub path : HasPath v y
  pub led : (a : Above) → above ≡ Some a → Member (note_of y (Starts (take a.depth k))) v.notes
  pub under : IsUnder z k above (above_of read_set) v y.cell

-- where it stands on a cell
abbrev pub PlaceFits : Sizes → List ℕ → Option Above → ReadSet → View → Option Stamp → Type 0
PlaceFits z k above read_set v None = ⊤
PlaceFits z k above read_set v (Some y) = IsPlaced z k above read_set v y

-- at each stage
pub record FindingFits (z : Sizes) (k : List ℕ) (what : Option ℕ → Deed) (m : Finding) (read_set : ReadSet) (u v : View) : Type 0 where
  pub descent : Fits z k what m.descent u v
  pub place : PlaceFits z k m.above read_set v (stands_on m.descent.stage)

-- ---- what it has found

abbrev pub position_of : Finding → Stamp × Verdict → Position
position_of m found = record { stamp = found.0; depth = m.descent.depth; above = m.above; verdict = found.1 }

abbrev pub position_at : Finding → Option Position
position_at m = option_map (position_of m) (decided_at m.descent.stage)

-- the cell is stamped, what was read there shows where the key stands, and all that was read is kept
pub record IsStanding (z : Sizes) (k : List ℕ) (t : Position) (read_set : ReadSet) (v : View) : Type 0 where
  pub stamp : HasStamp z v t.stamp
  pub deep : t.depth ≤ length k
  pub says : Says z k t.depth t.stamp t.verdict v
  pub place : IsPlaced z k t.above read_set v t.stamp

-- ---- what it keeps

-- the place that is asked for is one of a cell
abbrev pub AsksPlace : Option Action → Type 0
AsksPlace (Some (Read x i)) = i < 266
AsksPlace asked = ⊤

-- a check is asked for that settles an answer
abbrev pub IsToSettle : Action → Type 0
IsToSettle (Settle x) = ⊤
IsToSettle asked = ⊥

-- a word of a leaf is asked for
abbrev pub AsksLeaf : Option Action → Type 0
AsksLeaf (Some (ReadLeaf x l i)) = ⊤
AsksLeaf asked = ⊥

-- a word that was asked for is kept
abbrev pub reads_heard : Option Action → ℕ → List (Option ℕ) → List (Option ℕ)
reads_heard (Some (Read x i)) word reads = set reads i (Some word)
reads_heard asked word reads = reads

pub record IsHeard (asked : Option Action) (word : ℕ) (old new : ReadSet) : Type 0 where
  pub node : node_of new ≡ reads_heard asked word (node_of old)
  pub above : above_of new ≡ above_of old

-- nothing is kept yet of the cell where it stands
pub record IsCleared (reads : List (Option ℕ)) (new : ReadSet) : Type 0 where
  pub node : node_of new ≡ replicate 266 None
  pub above : above_of new ≡ reads

-- a version word was asked for, and this is asked next: a read of a cell where it was entered
abbrev pub Enters : Option Action → Option Action → ℕ → Option Above → ReadSet → Option Above → ReadSet → Type 0
Enters (Some (Check x)) (Some (Read y i)) depth above read_set above' read_set' = (above' ≡ Some (record { stamp = x; depth = depth })) × IsCleared (node_of read_set) read_set'
Enters asked (Some (Read y i)) depth above read_set above' read_set' = (above' ≡ None) × IsCleared (above_of read_set) read_set'
Enters asked next depth above read_set above' read_set' = (above' ≡ above) × (read_set' ≡ read_set)

-- by what was asked and answered, and what is asked next
abbrev pub Keeps : Answer → Option Action → Option Action → ℕ → Option Above → ReadSet → Option Above → ReadSet → Type 0
Keeps (told.Word word) asked next depth above read_set above' read_set' = (above' ≡ above) × IsHeard asked word read_set read_set'
Keeps (Begun r) asked next depth above read_set above' read_set' = Enters asked next depth above read_set above' read_set'
Keeps (Checked r) asked next depth above read_set above' read_set' = Enters asked next depth above read_set above' read_set'
Keeps answer asked next depth above read_set above' read_set' = (above' ≡ above) × (read_set' ≡ read_set)

-- ---- a step of a finding

-- it makes no step more: the place of the key is known, or it has ended
abbrev pub IsThere : Finding → Type 0
IsThere m = (position_at m ≢ None) ⊎ (ended_at m.descent.stage ≢ None)

-- the step that it asked for was made and answered so
pub record WasLooked (z : Sizes) (m : Finding) (asked : Action) (answer : Answer) (v w : View) : Type 0 where
  pub asked_it : asks m.descent.stage ≡ Some asked
  pub row : (d : Deed) → Answers z (telling d) asked answer v w

-- and it heard that: it has come further, or restarts
pub record HasHeard (z : Sizes) (k : List ℕ) (answer : Answer) (m : Finding) (read_set : ReadSet) (v : View) (m' : Finding) (read_set' : ReadSet) (w : View) : Type 0 where
  pub further : goes_on answer ≡ true → most_steps m.descent.depth m.descent.stage < most_steps m'.descent.depth m'.descent.stage
  pub anew : goes_on answer ≡ false → most_steps m'.descent.depth m'.descent.stage ≡ 0
  pub stays : Stays answer m.descent m'.descent
  pub going : ended_at m'.descent.stage ≡ None
  pub fits : (what : Option ℕ → Deed) (u : View) → FindingFits z k what m read_set u v → FindingFits z k what m' read_set' u w

-- a step was made and heard, after which it goes on or restarts
abbrev pub LookedOn : Sizes → List ℕ → Bool → Finding → ReadSet → View → Finding → ReadSet → View → Type 0
LookedOn z k on m read_set v m' read_set' w = (asked : Action) × (answer : Answer) × WasLooked z m asked answer v w × HasHeard z k answer m read_set v m' read_set' w × (on ≡ goes_on answer)

-- steps were made and heard one after another, and none failed: it has come further by as many as there were
pub record WentOn (z : Sizes) (k : List ℕ) (m : Finding) (read_set : ReadSet) (v : View) (m' : Finding) (read_set' : ReadSet) (w : View) : Type 0 where
  pub later : v.steps ≤ w.steps
  pub failures : w.failures ≡ v.failures
  pub further : w.steps + most_steps m.descent.depth m.descent.stage ≤ v.steps + most_steps m'.descent.depth m'.descent.stage
  pub going : ended_at m.descent.stage ≡ None → ended_at m'.descent.stage ≡ None
  pub fits : (what : Option ℕ → Deed) (u : View) → FindingFits z k what m read_set u v → FindingFits z k what m' read_set' u w

-- and then one failed, after which it restarts
pub record CameBack (z : Sizes) (k : List ℕ) (m : Finding) (read_set : ReadSet) (v : View) (m' : Finding) (read_set' : ReadSet) (w : View) : Type 0 where
  pub middle : Finding
  pub kept : ReadSet
  pub view : View
  pub on : WentOn z k m read_set v middle kept view
  pub back : LookedOn z k false middle kept view m' read_set' w

-- whether it went on to the last, or came back
abbrev pub Descends : Sizes → List ℕ → Bool → Finding → ReadSet → View → Finding → ReadSet → View → Type 0
Descends z k true m read_set v m' read_set' w = WentOn z k m read_set v m' read_set' w
Descends z k false m read_set v m' read_set' w = CameBack z k m read_set v m' read_set' w
