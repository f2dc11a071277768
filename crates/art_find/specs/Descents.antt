-- What a descent by a key knows between two of its steps.
use Rattle.std.specs.Prelude.{◌≡◌, ◌≢◌, ℕ, zero, suc, ◌+◌, ◌*◌, ◌<◌, ◌≤◌, List, [], length, take, Option, Some, None, Ok, Err, ⊤}
use Rattle.art_cell.specs.declared.cells.Cell.TheVariants as cell
use Rattle.art_cell.specs.declared.cells.Link.{Link}
use Rattle.art_cell.specs.declared.cells.Link.TheVariants.{Leaf as leaf, Node as node}
use Rattle.art_cell.specs.declared.cells.Node.{Node}
use Rattle.art_cell.specs.Words.{size}
use Rattle.art_find.specs.Compares.{IsWithin}
use Rattle.art_find.specs.Verdicts.{Says, value_of}
use Rattle.art_find.specs.Ways.{IsAtKeys, IsAtLeaf, IsAtSlot, IsInKey, IsInPrefix, IsOnNode, count_in}
use Rattle.art_step.specs.Acting.{HasPath, WasChecked}
use Rattle.art_step.specs.declared.actions.Answer.{Answer}
use Rattle.art_find.specs.declared.descents.Beside.{Beside}
use Rattle.art_step.specs.declared.actions.Answer.TheVariants.{Begun, Checked}
use Rattle.art_step.specs.declared.actions.Answer.TheVariants as told
use Rattle.art_step.specs.declared.actions.Action.{Action}
use Rattle.art_step.specs.declared.actions.Action.TheVariants.{Begin, Read, ReadLeaf, Check, Settle}
use Rattle.art_find.specs.declared.descents.Descent.{Descent}
use Rattle.art_find.specs.declared.descents.LeafSeen.{LeafSeen}
use Rattle.art_find.specs.declared.descents.NodeSeen.{NodeSeen}
use Rattle.art_find.specs.declared.descents.Stage.{Stage}
use Rattle.art_find.specs.declared.descents.Stage.TheVariants.{Start, Anchor, Child, Below, Both, Header, Prefix, Keys, Slot, Value, Length, Bytes, Decided, Ended}
use Rattle.art_find.specs.declared.descents.Verdict.{Verdict}
use Rattle.art_find.specs.declared.descents.Verdict.TheVariants as verdict
use Rattle.art_node.specs.declared.searches.Sought.{Sought}
use Rattle.art_node.specs.declared.searches.Sought.TheVariants as sought
use Rattle.art_path.specs.declared.compared.Compared.{Compared}
use Rattle.art_step.specs.Events.{MakesEvent}
use Rattle.art_step.specs.Shows.{HasChild, HasStamp, OnlyReads, OnlyTells, Shows}
use Rattle.art_step.specs.Views.{Member, NamesLink, note_of}
use Rattle.art_step.specs.WordPlaces.{HasVersion}
use Rattle.art_step.specs.declared.deeds.Deed.{Deed}
use Rattle.art_step.specs.declared.views.Fact.{Fact}
use Rattle.art_step.specs.declared.views.Fact.TheVariants.{Word}
use Rattle.art_step.specs.declared.views.Sizes.{Sizes}
use Rattle.art_step.specs.declared.views.Stamp.{Stamp}
use Rattle.art_step.specs.declared.views.View.{View}

-- ---- what it asks and answers

-- the next step
abbrev pub asks : Stage → Option Action
asks Start = Some (Begin cell.Anchor)
asks (Anchor x) = Some (Read x 1)
asks (Child x d) = Some (Check x)
asks (Below x n) = Some (Begin (cell.Node n))
asks (Both x y n) = Some (Check x)
asks (Header y n) = Some (Read y 1)
asks (Prefix seen i r) = Some (Read seen.stamp (2 + i))
asks (Keys seen i) = Some (Read seen.stamp (10 + i))
asks (Slot seen place) = Some (Read seen.stamp place)
asks (Value x l) = Some (ReadLeaf x l 0)
asks (Length x l value) = Some (ReadLeaf x l 1)
asks (Bytes seen i r) = Some (ReadLeaf seen.stamp seen.leaf (2 + i))
asks (Decided x found) = Some (Settle x)
asks (Ended o) = None

-- what it answers, where it has come to that
abbrev pub answer_at : Stage → Option ℕ
answer_at (Decided x found) = value_of found
answer_at (Ended o) = o
answer_at stage = None

abbrev pub ended_at : Stage → Option (Option ℕ)
ended_at (Ended o) = Some o
ended_at stage = None

-- what it has found, and the stamp under which that was read, where the check of the stamp settles it
abbrev pub decided_at : Stage → Option (Stamp × Verdict)
decided_at (Decided x found) = Some (x, found)
decided_at stage = None

-- ---- where it goes

-- the stamp on whose cell it stands
abbrev pub stands_on : Stage → Option Stamp
stands_on Start = None
stands_on (Anchor x) = Some x
stands_on (Child x d) = Some x
stands_on (Below x n) = Some x
stands_on (Both x y n) = Some x
stands_on (Header y n) = Some y
stands_on (Prefix seen i r) = Some seen.stamp
stands_on (Keys seen i) = Some seen.stamp
stands_on (Slot seen place) = Some seen.stamp
stands_on (Value x l) = Some x
stands_on (Length x l value) = Some x
stands_on (Bytes seen i r) = Some seen.stamp
stands_on (Decided x found) = Some x
stands_on (Ended o) = None

-- the stage after a version word was clear, and gave this stamp
abbrev pub stage_begun : Stamp → Stage → Stage
stage_begun y Start = Anchor y
stage_begun y (Below x n) = Both x y n
stage_begun y stage = stage

-- the stage after the cell that names a link was checked
abbrev pub stage_below : Stamp → Link → Stage
stage_below x (leaf l) = Value x l
stage_below x (node n) = Below x n

-- the stage after a check
abbrev pub stage_checked : Stage → Stage
stage_checked (Child x d) = stage_below x d
stage_checked (Both x y n) = Header y n
stage_checked (Decided x found) = Ended (value_of found)
stage_checked stage = stage

-- the stage after a search in a node
abbrev pub staged : Sought → NodeSeen → Stage
staged (sought.Keys i) seen = Keys seen i
staged (sought.Child place) seen = Slot seen place
staged sought.Nothing seen = Decided seen.stamp (verdict.NoChild seen.node seen.header)

-- ---- how far it has come

-- of the words of keys in a node at most two are read, and the first of those is any
abbrev pub later_key : ℕ → ℕ
later_key zero = 0
later_key (suc i) = 1

-- at most so many steps were made since the descent last began
abbrev pub most_steps : ℕ → Stage → ℕ
most_steps depth Start = 0
most_steps depth (Anchor x) = 1
most_steps depth (Child x d) = 18 * depth + 2
most_steps depth (Below x n) = 18 * depth + 3
most_steps depth (Both x y n) = 18 * depth + 4
most_steps depth (Header y n) = 18 * depth + 5
most_steps depth (Prefix seen i r) = 18 * depth + 6 + i
most_steps depth (Keys seen i) = 18 * depth + 14 + later_key i
most_steps depth (Slot seen place) = 18 * depth + 16
most_steps depth (Value x l) = 18 * depth + 3
most_steps depth (Length x l value) = 18 * depth + 4
most_steps depth (Bytes seen i r) = 18 * depth + 5 + i
most_steps depth (Decided x found) = 18 * depth + 17
most_steps depth (Ended o) = 18 * depth + 18

-- ---- what it knows

-- the pass, which began with the view u, did nothing but read; it is pinned and holds nothing
pub record IsReading (u v : View) : Type 0 where
  pub only : OnlyReads u v
  pub free : v.held ≡ []
  pub pinned : v.pin ≢ 0

-- and the node is stamped
pub record IsStamped (z : Sizes) (u v : View) (y : Stamp) (n : Node) : Type 0 where
  pub reads : IsReading u v
  pub stamp : HasStamp z v y
  pub cell : y.cell ≡ cell.Node n

-- and a path to it was noted: its words may be read
pub record IsOn (z : Sizes) (u v : View) (y : Stamp) (n : Node) : Type 0 where
  pub reads : IsReading u v
  pub stamp : HasStamp z v y
  pub cell : y.cell ≡ cell.Node n
  pub path : HasPath v y

-- or a cell that was checked and names a leaf
pub record IsAbove (z : Sizes) (u v : View) (x : Stamp) (l : ℕ) : Type 0 where
  pub reads : IsReading u v
  pub stamp : HasStamp z v x
  pub inside : l < z.leaves
  pub checked : WasChecked x (leaf l) v

-- the path to a node, of whose prefix and words something was read
pub record IsPrefix (z : Sizes) (k : List ℕ) (depth : ℕ) (seen : NodeSeen) (i : ℕ) (r : Compared) (v : View) : Type 0 where
  pub deep : depth ≤ length k
  pub more : 8 * i < count_in seen.header
  pub short : depth + count_in seen.header < 64
  pub within : IsWithin k depth (8 * i) r
  pub shows : Shows z v seen.stamp (λ s. IsInPrefix s seen.node k depth seen.header i r)

pub record IsSearch (z : Sizes) (k : List ℕ) (depth : ℕ) (seen : NodeSeen) (i : ℕ) (v : View) : Type 0 where
  pub deep : depth < length k
  pub few : i < 32
  pub inside : 10 + i < size seen.node.layout
  pub shows : Shows z v seen.stamp (λ s. IsAtKeys s seen.node k depth seen.header i)

pub record IsSlot (z : Sizes) (k : List ℕ) (depth : ℕ) (seen : NodeSeen) (place : ℕ) (v : View) : Type 0 where
  pub deep : depth < length k
  pub after : 0 < place
  pub inside : place < size seen.node.layout
  pub shows : Shows z v seen.stamp (λ s. IsAtSlot s seen.node k depth seen.header place)

pub record IsKey (z : Sizes) (k : List ℕ) (depth : ℕ) (seen : LeafSeen) (i : ℕ) (r : Beside) (v : View) : Type 0 where
  pub more : 8 * i < seen.count
  pub few : seen.count ≤ 64
  pub within : IsWithin k 0 (8 * i) r.compared
  pub shows : Shows z v seen.stamp (λ s. IsInKey s seen k (take depth k) i r)

-- the word was noted under the stamp
pub record WasNoted (v : View) (x : Stamp) (word : ℕ) : Type 0 where
  pub place : ℕ
  pub noted : Member (note_of x (Word place word)) v.notes

-- a word that names the cell was
pub record WasNamed (x : Stamp) (d : Link) (v : View) : Type 0 where
  pub fact : Fact
  pub noted : Member (note_of x fact) v.notes
  pub names : NamesLink fact d

-- the cell is stamped, and names what the first bytes of the key lead to
pub record IsChild (z : Sizes) (k : List ℕ) (depth : ℕ) (x : Stamp) (d : Link) (v : View) : Type 0 where
  pub stamp : HasStamp z v x
  pub deep : depth ≤ length k
  pub noted : WasNamed x d v
  pub shows : Shows z v x (λ s. HasChild s x.cell d (take depth k))

-- at each stage, of a pass that began with the view u and now has the view v; what it does where it settles the answer is this
abbrev pub StageFits : Sizes → List ℕ → (Option ℕ → Deed) → ℕ → Stage → View → View → Type 0
StageFits z k what depth Start u v = IsReading u v
StageFits z k what depth (Anchor x) u v = IsReading u v × HasStamp z v x × (x.cell ≡ cell.Anchor) × HasPath v x
StageFits z k what depth (Child x d) u v = IsReading u v × IsChild z k depth x d v
StageFits z k what depth (Below x n) u v = IsReading u v × IsChild z k depth x (node n) v × HasVersion z (cell.Node n)
StageFits z k what depth (Both x y n) u v = IsStamped z u v y n × IsChild z k depth x (node n) v
StageFits z k what depth (Header y n) u v = IsOn z u v y n × (depth ≤ length k) × Shows z v y (λ s. IsOnNode s n k depth)
StageFits z k what depth (Prefix seen i r) u v = IsOn z u v seen.stamp seen.node × IsPrefix z k depth seen i r v
StageFits z k what depth (Keys seen i) u v = IsOn z u v seen.stamp seen.node × IsSearch z k depth seen i v
StageFits z k what depth (Slot seen place) u v = IsOn z u v seen.stamp seen.node × IsSlot z k depth seen place v
StageFits z k what depth (Value x l) u v = IsAbove z u v x l × IsChild z k depth x (leaf l) v
StageFits z k what depth (Length x l value) u v = IsAbove z u v x l × (depth ≤ length k) × Shows z v x (λ s. IsAtLeaf s x.cell l (take depth k) value)
StageFits z k what depth (Bytes seen i r) u v = IsAbove z u v seen.stamp seen.leaf × (depth ≤ length k) × IsKey z k depth seen i r v
StageFits z k what depth (Decided x found) u v = IsReading u v × (depth ≤ length k) × HasStamp z v x × Says z k depth x found v
StageFits z k what depth (Ended o) u v = MakesEvent u v (what o) × OnlyTells u v

-- the descent by the key k
abbrev pub Fits : Sizes → List ℕ → (Option ℕ → Deed) → Descent → View → View → Type 0
Fits z k what m u v = StageFits z k what m.depth m.stage u v

-- ---- after an answer

-- it comes from the first to the second: a word leaves it on its cell, and a version word that was clear or unchanged leads to
-- one stage
abbrev pub Stays : Answer → Descent → Descent → Type 0
Stays (Begun (Ok x)) m m' = m' ≡ record m { stage = stage_begun x m.stage }
Stays (Begun (Err e)) m m' = ⊤
Stays (told.Word a) m m' = stands_on m'.stage ≡ stands_on m.stage
Stays (Checked (Ok x)) m m' = m' ≡ record m { stage = stage_checked m.stage }
Stays (Checked (Err e)) m m' = ⊤
Stays answer m m' = ⊥
