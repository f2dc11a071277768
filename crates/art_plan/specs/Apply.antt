-- What the making of a change knows between two of its steps.
use Rattle.std.specs.Prelude.{◌≡◌, ◌≢◌, ◌⊎◌, ℕ, Bool, ◌==◌, ◌+◌, ◌-◌, ◌*◌, ◌<◌, ◌≤◌, ◌++◌, List, [], length, take, true, false, Option, Some, None, Result, Ok, Err, ⊤}
use Rattle.std.specs.Option.{option_map, option_and_then}
use Rattle.std.specs.List.{cons_option}
use Rattle.art_cell.specs.declared.cells.Cell.TheVariants as cell
use Rattle.art_cell.specs.declared.cells.Link.{Link}
use Rattle.art_cell.specs.declared.cells.Link.TheVariants.{Node as node}
use Rattle.art_cell.specs.declared.cells.Node.{Node}
use Rattle.art_plan.specs.Changes.{OnlyLocks, leaf_linked, put_at, target_at, targets, unlinked}
use Rattle.art_plan.specs.Whole.{HoldsWhole, IsWhole, filled_ends, made_at, made_word}
use Rattle.art_step.specs.Acting.{Answers}
use Rattle.art_step.specs.declared.actions.Action.{Action}
use Rattle.art_step.specs.declared.actions.Answer.{Answer}
use Rattle.art_step.specs.declared.actions.Action.TheVariants.{Upgrade, Claim, Write, Commit, Release}
use Rattle.art_step.specs.declared.actions.Effects.{Effects}
use Rattle.art_plan.specs.declared.changes.Change.{Change}
use Rattle.art_plan.specs.declared.changes.Put.{Put}
use Rattle.art_plan.specs.declared.changes.Target.{Target}
use Rattle.art_plan.specs.declared.apply.Apply.{Apply}
use Rattle.art_plan.specs.declared.apply.Apply.TheVariants.{Upgrading, Claiming, Filling, Writing, Committing, Releasing, ReleasingNode, GivingUp, Ended}
use Rattle.art_step.specs.Events.{MakesEvent}
use Rattle.art_step.specs.Shows.{rest_of}
use Rattle.art_step.specs.Steps.Commit.{all_retired}
use Rattle.art_step.specs.Steps.Give.{HandsOver}
use Rattle.art_step.specs.Views.{IsOnce, Member, last_counter, links_in_limbo}
use Rattle.art_step.specs.declared.faults.UpgradeFault.{UpgradeFault}
use Rattle.art_step.specs.declared.faults.UpgradeFault.TheVariants as fault
use Rattle.art_step.specs.declared.views.Found.{Found}
use Rattle.art_step.specs.declared.views.Pin.{Pin}
use Rattle.art_step.specs.declared.views.Sizes.{Sizes}
use Rattle.art_step.specs.declared.views.View.{View}

-- ---- what it asks

-- what comes about at its commit
abbrev pub brings : Change → Option Effects
brings c = Some c.effects

-- the cell of a target is released, as the change says
abbrev pub releases : Target → Action
releases x = Release x.stamp.cell x.obsolete

-- a word of the target is put
abbrev pub put_into : Put → Target → Action
put_into p x = Write x.stamp.cell p.place p.value

-- the next step
abbrev pub asks : Change → Apply → Option Action
asks c (Upgrading i) = option_map (λ (x : Target). Upgrade x.stamp) (target_at c i)
asks c (Claiming b) = option_map Claim (made_at b c)
asks c (Filling b place) = option_map (λ (n : Node). Write (cell.Node n) place (made_word b c place)) (made_at b c)
asks c (Writing j) = option_and_then (λ (p : Put). option_map (put_into p) (target_at c p.target)) (put_at c j)
asks c Committing = option_map (λ (x : Target). Commit x.stamp.cell x.obsolete) (target_at c 0)
asks c (Releasing i) = option_map releases (target_at c i)
asks c (ReleasingNode b) = option_map (λ (n : Node). Release (cell.Node n) false) (made_at b c)
asks c (GivingUp locked released e) = option_map (λ (x : Target). Release x.stamp.cell false) (target_at c released)
asks c (Ended r) = None

-- how it ended, if it has
abbrev pub ended_at : Apply → Option (Result ⊤ UpgradeFault)
ended_at (Ended r) = Some r
ended_at stage = None

-- the fault for which it is given up, if it is
abbrev pub fault_of : Apply → Option UpgradeFault
fault_of (GivingUp locked released e) = Some e
fault_of (Ended (Err e)) = Some e
fault_of stage = None

-- ---- how far it has come

-- at most so many steps were made
abbrev pub most_steps : Apply → ℕ
most_steps (Upgrading i) = i
most_steps (Claiming false) = 5
most_steps (Claiming true) = 6
most_steps (Filling false place) = 7 + place
most_steps (Filling true place) = 273 + place
most_steps (Writing j) = 539 + j
most_steps Committing = 573
most_steps (Releasing i) = 573 + i
most_steps (ReleasingNode false) = 578
most_steps (ReleasingNode true) = 579
most_steps (GivingUp locked released e) = 6 + released
most_steps (Ended r) = 580

-- how many words of the new nodes are written, the version's place among them: of the first so many, and so many of the copy
abbrev pub so_many : ℕ → ℕ → Bool → ℕ
so_many a b false = a
so_many a b true = b

-- 1 of each that there is
abbrev pub claim_of : Option Node → ℕ
claim_of None = 0
claim_of (Some n) = 1

abbrev pub claims : Change → Bool → ℕ
claims c b = claim_of (made_at b c)

-- before the node is claimed, and before the word at the place is written
abbrev pub at_claim : Change → Bool → Bool → ℕ
at_claim c false = so_many 0 0
at_claim c true = so_many (claims c false) 0

abbrev pub at_fill : Change → Bool → ℕ → Bool → ℕ
at_fill c false place = so_many place (claims c true)
at_fill c true place = so_many (filled_ends c false) place

-- so many after the claim of this one
abbrev pub claimed_so : Change → Bool → Bool → ℕ
claimed_so c false = so_many (claims c false) 0
claimed_so c true = so_many (claims c false) (claims c true)

-- so many after the release of this one
abbrev pub released_so : Change → Bool → Bool → ℕ
released_so c false = so_many 0 (filled_ends c true)
released_so c true = so_many 0 0

-- before the node is released
abbrev pub at_release : Change → Bool → Bool → ℕ
at_release c false = filled_ends c
at_release c true = so_many 0 (filled_ends c true)

-- ---- how many words it has still to write

-- all cells are held, and words are to be written
abbrev pub is_writing : Apply → Bool
is_writing (Filling b place) = true
is_writing (Writing j) = true
is_writing stage = false

-- of the new nodes: so many of this one from a place on, and after the first all words of the copy
abbrev pub fills_left : Change → Bool → ℕ → ℕ
fills_left c false place = filled_ends c false - place + (filled_ends c true - claims c true)
fills_left c true place = filled_ends c true - place

-- so many, of the new nodes and of the targets
abbrev pub words_left : Change → Apply → ℕ
words_left c (Filling b place) = fills_left c b place + length c.puts.items
words_left c (Writing j) = length c.puts.items - j
words_left c stage = 0

-- from one stage to another all of them are written, so many, and the commit is next; where there is none, nothing is done
pub record WritesAll (c : Change) (m m' : Apply) (n : ℕ) : Type 0 where
  pub count : n ≡ words_left c m
  pub some : 0 < n → m' ≡ Committing
  pub none : n ≡ 0 → m' ≡ m

-- so many words were written, and but for the steps and for what is held the pass is as it was
abbrev pub OnlyWrites : View → View → ℕ → Type 0
OnlyWrites v w n = w ≡ record v { steps = v.steps + n; held = w.held }

-- ---- how it runs

-- no cell was locked yet
abbrev pub is_begun : Apply → Bool
is_begun (Upgrading i) = i == 0
is_begun m = false

-- neither a step nor a failure is taken back, nor a word that was found, and the last check is the same
pub record KeepsCheck (v w : View) : Type 0 where
  pub steps : v.steps ≤ w.steps
  pub failures : v.failures ≤ w.failures
  pub found : (x : Found) → Member x v.found → Member x w.found
  pub checked : w.checked ≡ v.checked

-- from one stage to another: each step took a turn while there was one, there were few, and it is given up for the fault that it had
pub record Runs (m m' : Apply) (v w : View) (left left' : ℕ) : Type 0 where
  pub keeps : KeepsCheck v w
  pub turns : left' ≡ left - (w.steps - v.steps)
  pub few : w.steps + most_steps m ≤ v.steps + most_steps m'
  pub stays : (e : UpgradeFault) → fault_of m ≡ Some e → fault_of m' ≡ Some e

-- it has ended, or no cell is locked and one turn is left
abbrev pub HasRun : Apply → ℕ → Type 0
HasRun m left = ((r : Result ⊤ UpgradeFault) × (ended_at m ≡ Some r)) ⊎ ((is_begun m ≡ true) × (left ≡ 1))

-- it asks for nothing, or its step was made and answered so
abbrev pub Makes : Sizes → Change → Apply → Option Answer → View → View → Type 0
Makes z c m None v w = (asks c m ≡ None) × (w ≡ v)
Makes z c m (Some answer) v w = (asked : Action) × (asks c m ≡ Some asked) × Answers z (brings c) asked answer v w

-- ---- what it knows, of a pass that had the view u when the change was planned

-- the cells that it needs so far are locked, and nothing is told
pub record IsLocking (u : View) (c : Change) (to : ℕ) (ps : List Put) (filled : Bool → ℕ) (v : View) : Type 0 where
  pub same : OnlyLocks u v
  pub holds : HoldsWhole u c 0 to ps filled v.held
  pub early : 0 < to → v.committed ≡ false

-- an upgrade failed: the word of a target was another, or its counter was at its end
abbrev pub Fails : View → Target → UpgradeFault → View → Type 0
Fails u x (fault.Changed e) v = (e.cell ≡ x.stamp.cell) × (e.seen ≡ x.stamp.version) × (e.found ≢ e.seen) × (v.failures ≡ u.failures + 1)
Fails u x (fault.Exhausted e) v = (e ≡ x.stamp.cell) × (4 * last_counter ≤ x.stamp.version) × (v.failures ≡ u.failures)

pub record HasFailed (u : View) (c : Change) (e : UpgradeFault) (v : View) : Type 0 where
  pub index : ℕ
  pub target : Target
  pub is : target_at c index ≡ Some target
  pub fails : Fails u target e v
  pub rest : rest_of (record v { held = u.held; committed = u.committed }) ≡ rest_of u

-- those above it are still held, from one on, unchanged
pub record GivesUp (u : View) (c : Change) (from to : ℕ) (e : UpgradeFault) (v : View) : Type 0 where
  pub failed : HasFailed u c e v
  pub holds : HoldsWhole u c from to [] (so_many 0 0) v.held
  pub early : from < to → v.committed ≡ false

-- what comes into the tree
abbrev pub linked : Change → List Link
linked c = cons_option (leaf_linked c) (cons_option (option_map node (made_at false c)) (cons_option (option_map node (made_at true c)) []))

-- the event was made: what comes left the hand, what goes is in limbo, each number once, and nothing else changed but what is held
pub record IsCommitted (u : View) (c : Change) (v : View) : Type 0 where
  pub event : MakesEvent u v c.effects.deed
  pub hand : HandsOver u.hand (linked c) v.hand
  pub pins : List Pin
  pub limbo : v.limbo ≡ all_retired pins (unlinked c) ++ u.limbo
  pub once : IsOnce (links_in_limbo v.limbo)
  pub rest :
      rest_of (record v { seen = u.seen; own = u.own; held = u.held; committed = u.committed; hand = u.hand; limbo = u.limbo }) ≡ rest_of u
  pub stamps : v.stamps ≡ u.stamps
  pub notes : v.notes ≡ u.notes
  pub failures : v.failures ≡ u.failures

-- the targets from an index on are still held, and of the new nodes those of which so many words are, which are none of those that it
-- unlinks
pub record IsReleasing (u : View) (c : Change) (from : ℕ) (filled : Bool → ℕ) (v : View) : Type 0 where
  pub done : IsCommitted u c v
  pub stays : (b : Bool) (n : Node) → made_at b c ≡ Some n → Member (node n) (unlinked c) → ⊥
  pub holds : HoldsWhole u c from (targets c) c.puts.items filled v.held
  pub late : v.committed ≡ true

-- the change is made, or was given up with nothing told; nothing is held
pub record IsOver (u : View) (c : Change) (r : Result ⊤ UpgradeFault) (v : View) : Type 0 where
  pub free : v.held ≡ []
  pub done : (x : ⊤) → r ≡ Ok x → IsCommitted u c v
  pub failed : (e : UpgradeFault) → r ≡ Err e → HasFailed u c e v

-- there is such a node
abbrev pub HasMade : Change → Bool → Type 0
HasMade c b = (n : Node) × (made_at b c ≡ Some n)

-- at each stage
abbrev pub StageFits : Change → Apply → View → View → Type 0
StageFits c (Upgrading i) u v = (i < targets c) × IsLocking u c i [] (so_many 0 0) v
StageFits c (Claiming b) u v = HasMade c b × IsLocking u c (targets c) [] (at_claim c b) v
StageFits c (Filling b place) u v = (0 < place) × (place < filled_ends c b) × IsLocking u c (targets c) [] (at_fill c b place) v
StageFits c (Writing j) u v = ((p : Put) × (put_at c j ≡ Some p)) × IsLocking u c (targets c) (take j c.puts.items) (filled_ends c) v
StageFits c Committing u v = IsLocking u c (targets c) c.puts.items (filled_ends c) v
StageFits c (Releasing i) u v = (i < targets c) × IsReleasing u c i (filled_ends c) v
StageFits c (ReleasingNode b) u v = HasMade c b × IsReleasing u c (targets c) (at_release c b) v
StageFits c (GivingUp locked released e) u v = (released < locked) × (locked ≤ targets c) × GivesUp u c released locked e v
StageFits c (Ended r) u v = IsOver u c r v

-- the change has few targets and few words
pub record IsSmall (c : Change) : Type 0 where
  pub targets : length c.targets.items ≤ 5
  pub puts : length c.puts.items ≤ 33

-- it was planned for the view u, and made so many steps at most
pub record Fits (z : Sizes) (c : Change) (m : Apply) (u v : View) : Type 0 where
  pub planned : IsWhole z u c
  pub small : IsSmall c
  pub stage : StageFits c m u v
  pub steps : v.steps ≤ u.steps + most_steps m
