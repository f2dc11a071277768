-- What an attempt of a write asks, and what it knows between two of its steps.
use Rattle.std.specs.Prelude.{◌≡◌, ◌⊎◌, ℕ, ◌-◌, ◌*◌, ◌<◌, ◌≤◌, ◌+◌, ◌++◌, List, [], Option, Some, None, Bool, true, false, ◌==◌, if◌then◌else◌}
use Rattle.std.specs.Option.{unwrap_or}
use Rattle.std.specs.Prelude.{Result, Ok, Err, ⊤}
use Rattle.art_attempt.specs.Cases.{IsCaseOf, IsChosen, LeavesOther, LocksChecked, cells_of, demand_of, effects_of, made_by}
use Rattle.art_attempt.specs.Cases.{ComesThere, HasLeaf, IsWay}
use Rattle.art_attempt.specs.Trying.{HasSpent, IsCheckOf, IsKey, IsLater, StillTries, StoodAtCheck}
use Rattle.art_attempt.specs.declared.attempts.Attempt.{Attempt}
use Rattle.art_attempt.specs.declared.attempts.Ending.{Ending}
use Rattle.art_attempt.specs.declared.attempts.Ending.TheVariants.{New, Present, Gone, Absent, Full, Exhausted, Overlaps, Restart}
use Rattle.art_attempt.specs.declared.attempts.Job.{Job}
use Rattle.art_attempt.specs.declared.attempts.Job.TheVariants.{Insert, Remove}
use Rattle.art_attempt.specs.declared.attempts.Part.{Part}
use Rattle.art_attempt.specs.declared.attempts.Part.TheVariants as part
use Rattle.art_attempt.specs.declared.attempts.Stage.{Stage}
use Rattle.art_attempt.specs.declared.attempts.Stage.TheVariants as stage
use Rattle.art_attempt.specs.declared.attempts.Case.{Case}
use Rattle.art_attempt.specs.declared.attempts.Case.TheVariants.{NewLeaf, Shrink}
use Rattle.art_attempt.specs.declared.attempts.Room.{Room}
use Rattle.art_cell.specs.declared.cells.Cell.{Cell as CellOf}
use Rattle.art_cell.specs.declared.Link.TheVariants.{Node as node}
use Rattle.art_cell.specs.declared.Node.{Node as NodeOf}
use Rattle.art_cell.specs.declared.cells.Pool.{Pool}
use Rattle.art_find.specs.Descents as descents
use Rattle.art_find.specs.Findings.{FindingFits, IsStanding, position_at}
use Rattle.art_find.specs.ReadSets.{node_of}
use Rattle.art_find.specs.Rereadings.{RereadingFits, reads_next}
use Rattle.art_find.specs.Verdicts.{value_of}
use Rattle.art_find.specs.declared.findings.Finding.{Finding}
use Rattle.art_find.specs.declared.findings.Position.{Position}
use Rattle.art_find.specs.declared.read_sets.Rereading.{Rereading}
use Rattle.art_find.specs.declared.descents.Verdict.{Verdict}
use Rattle.art_find.specs.declared.descents.Verdict.TheVariants as verdict
use Rattle.art_epoch.specs.Stocks.{HasStock}
use Rattle.art_attempt.specs.Naming as naming
use Rattle.art_attempt.specs.Naming.{StillStands}
use Rattle.art_attempt.specs.Reserve as reserve
use Rattle.art_attempt.specs.Reserve.{HasAll, HasNone}
use Rattle.art_attempt.specs.Validate as validate
use Rattle.art_attempt.specs.declared.naming.Naming.{Naming}
use Rattle.art_attempt.specs.declared.reserve.Reserve.{Reserve}
use Rattle.art_attempt.specs.declared.validate.Validate.{Validate}
use Rattle.art_step.specs.Acting.{goes_on, passed}
use Rattle.art_step.specs.declared.actions.Action.{Action}
use Rattle.art_step.specs.declared.actions.Action.TheVariants.{Check, Settle}
use Rattle.art_step.specs.declared.actions.Answer.{Answer}
use Rattle.art_step.specs.declared.actions.Answer.TheVariants.{Upgraded}
use Rattle.art_plan.specs.Apply as apply
use Rattle.art_plan.specs.Apply.{fault_of, is_begun, most_steps}
use Rattle.art_plan.specs.declared.apply.Apply.{Apply}
use Rattle.art_model.specs.declared.commands.Answer.TheVariants as reply
use Rattle.art_plan.specs.Changes.{IsPlanned, target_at, unlinked}
use Rattle.art_plan.specs.ChooseInsert.Plans.{Comes, LocksOnly}
use Rattle.art_plan.specs.ChooseRemove.Losses.{loss_at}
use Rattle.art_plan.specs.declared.choose_remove.Loss.TheVariants as loss
use Rattle.art_plan.specs.declared.changes.Target.{Target}
use Rattle.art_plan.specs.declared.insert.NewLeaf.{NewLeaf as Row}
use Rattle.art_step.specs.Events.{MakesEvent}
use Rattle.art_step.specs.Shows.{rest_of}
use Rattle.art_step.specs.Steps.Check as check
use Rattle.art_step.specs.Steps.Commit.{all_retired}
use Rattle.art_step.specs.Views.{IsOnce, last_counter, links_in_limbo, size_of}
use Rattle.art_step.specs.declared.deeds.Act.TheVariants as act
use Rattle.art_step.specs.declared.deeds.Deed.{Deed}
use Rattle.art_step.specs.declared.deeds.Deed.TheVariants.{Done}
use Rattle.art_step.specs.declared.faults.Changed.{Changed}
use Rattle.art_step.specs.declared.faults.UpgradeFault.{UpgradeFault}
use Rattle.art_step.specs.declared.faults.UpgradeFault.TheVariants as fault
use Rattle.art_step.specs.declared.views.Pin.{Pin}
use Rattle.art_step.specs.declared.views.Sizes.{Sizes}
use Rattle.art_step.specs.declared.views.Stamp.{Stamp}
use Rattle.art_step.specs.declared.views.View.{View}

-- ---- what it asks

-- the check of the place settles the answer: a row is there that was to come, or none is that was to go
abbrev pub settles : Job → Verdict → Bool
settles Insert (verdict.Found l value) = true
settles Insert found = false
settles Remove (verdict.Found l value) = false
settles Remove found = true

-- such a check tells it; of any other place a check tells nothing
abbrev pub check_as : Bool → Stamp → Action
check_as true x = Settle x
check_as false x = Check x

abbrev pub check_of : Job → Position → Action
check_of j t = check_as (settles j t.verdict) t.stamp

-- the check of the place, once there is one; until then what the descent asks
abbrev pub asks_place : Job → Option Position → Option Action → Option Action
asks_place j (Some t) o = Some (check_of j t)
asks_place j None o = o

abbrev pub finding_asks : Job → Finding → Option Action
finding_asks j m = asks_place j (position_at m) (descents.asks m.descent.stage)

abbrev pub supply_asks : Reserve → Room → Option Action
supply_asks s r = reserve.asks r.row.key.items r.row.value r.stock s

abbrev pub reading_asks : Position → Rereading → Option Action
reading_asks t q = reads_next t.stamp q

abbrev pub naming_asks : Position → Naming → Option Action
naming_asks t s = naming.asks t s

abbrev pub validate_asks : Position → Case → Validate → Option Action
validate_asks t c s = validate.asks t (cells_of c t.verdict) s

-- where the key stands so
abbrev pub part_asks : Part → Position → Room → Option Action
part_asks (part.Reserve c s) t r = supply_asks s r
part_asks (part.Reading q) t r = reading_asks t q
part_asks (part.Naming byte n s) t r = naming_asks t s
part_asks (part.Validate c s) t r = validate_asks t c s

abbrev pub apply_asks : Apply → Room → Option Action
apply_asks s r = apply.asks r.change s

abbrev pub asks_at : Stage → Attempt → Room → Option Action
asks_at (stage.Finding f) m r = finding_asks m.job f
asks_at (stage.Placed t q) m r = part_asks q t r
asks_at (stage.Apply s) m r = apply_asks s r
asks_at (stage.Ended e) m r = None

-- the next step
abbrev pub asks : Attempt → Room → Option Action
asks m r = asks_at m.stage m r

-- where it stands at a place already, that is this one
abbrev pub StandsAt : Position → Stage → Type 0
StandsAt t (stage.Placed s q) = s ≡ t
StandsAt t s = ⊤

abbrev pub ending_at : Stage → Option Ending
ending_at (stage.Ended e) = Some e
ending_at s = None

-- how it ended, if it has
abbrev pub ended_at : Attempt → Option Ending
ended_at m = ending_at m.stage

-- ---- what it tells

-- the key is there, with this value, and keeps it
abbrev pub present : Row → ℕ → Deed
present row stands = Done (act.Insert row.key row.value) (reply.Present stands)

-- no row has the key
abbrev pub absent : Row → Deed
absent row = Done (act.Remove row.key) reply.Absent

-- where the check of the place settles the answer, of a row whose key stands with this value or has none
abbrev pub settled_by : Job → Row → ℕ → Deed
settled_by Insert row stands = present row stands
settled_by Remove row stands = absent row

abbrev pub settled_of : Job → Row → Option ℕ → Deed
settled_of j row o = settled_by j row (unwrap_or o 0)

-- the value that was found, where the check of the place settles the answer
abbrev pub value_found : Option Position → ℕ
value_found (Some t) = unwrap_or (value_of t.verdict) 0
value_found None = 0

-- while the place is sought; later no check settles the answer
abbrev pub found_in : Stage → ℕ
found_in (stage.Finding f) = value_found (position_at f)
found_in s = 0

abbrev pub found_at : Attempt → ℕ
found_at m = found_in m.stage

abbrev pub deed_by : Job → Finding → Room → Deed
deed_by j f r = settled_by j r.row (value_found (position_at f))

abbrev pub deed_at : Attempt → Room → Deed
deed_at m r = settled_by m.job r.row (found_at m)

-- how it ends at a place where no leaf may come
abbrev pub entered_by : Verdict → Option Ending
entered_by (verdict.Found l value) = Some (Present value)
entered_by verdict.Overlaps = Some Overlaps
entered_by found = None

-- how it ends where the change was given up
abbrev pub given_up : UpgradeFault → Ending
given_up (fault.Changed e) = Restart
given_up (fault.Exhausted c) = Exhausted c

-- how it ends where the change was made, of a row that had this value
abbrev pub written : Job → ℕ → Ending
written Insert value = New
written Remove value = Gone value

-- how it ends by how its change did
abbrev pub ended_so : Job → ℕ → Result ⊤ UpgradeFault → Ending
ended_so j value (Ok done) = written j value
ended_so j value (Err e) = given_up e

-- ---- what it knows, of a pass that had the view u at the beginning

-- just the numbers of the stock are in hand
abbrev pub HasHand : Sizes → View → Room → Type 0
HasHand z v r = HasStock z r.row.key.items r.row.value v r.stock

-- but for steps, so many at most, what is in hand and what reading changes, the pass is as it was
pub record EndsWithin (z : Sizes) (u : View) (n : ℕ) (r : Room) (v : View) : Type 0 where
  pub still : StillTries u v
  pub spent : HasSpent z u n v
  pub has : HasHand z v r

-- so an attempt ends, with few steps
abbrev pub EndsSo : Sizes → View → Room → View → Type 0
EndsSo z u r v = EndsWithin z u 23100 r v

-- the place is sought
pub record IsFinding (z : Sizes) (u : View) (j : Job) (f : Finding) (r : Room) (v : View) : Type 0 where
  pub early : View
  pub base : StillTries u early
  pub later : IsLater early v
  pub spent : HasSpent z u (descents.most_steps f.descent.depth f.descent.stage) v
  pub has : HasHand z early r
  pub fits : FindingFits z r.row.key.items (settled_of j r.row) f r.read_set early v
  pub going : descents.ended_at f.descent.stage ≡ None

-- from the view v to the view w the place of the key that was found was checked, which tells the answer or nothing
abbrev pub told_as : Bool → Deed → Option Deed
told_as true d = Some d
told_as false d = None

pub record WasPlaced (z : Sizes) (u : View) (j : Job) (t : Position) (r : Room) (v w : View) : Type 0 where
  pub by : Finding
  pub finding : IsFinding z u j by r v
  pub there : position_at by ≡ Some t
  pub checked : check.Unchanged z v w t.stamp (told_as (settles j t.verdict) (deed_by j by r))
  pub later : IsLater v w
  pub step : w.steps ≤ v.steps + 1

-- why numbers are wanted: a leaf may come, or a smaller node would do
abbrev pub WantsNumbers : Sizes → View → Case → Position → Room → View → Type 0
WantsNumbers z u NewLeaf t r v = ComesThere z u t r v
WantsNumbers z u (Shrink layout) t r v = HasLeaf t r × (loss_at t r.read_set ≡ loss.Shrinks layout)
WantsNumbers z u c t r v = ⊥

-- numbers come into the hand, or all did, or one was not found
pub record HasSupplies (z : Sizes) (u : View) (j : Job) (t : Position) (c : Case) (s : Reserve) (r : Room) (v : View) : Type 0 where
  pub early : View
  pub base : StillTries u early
  pub spent : HasSpent z u 1203 early
  pub case : IsCaseOf j c
  pub standing : IsStanding z r.row.key.items t r.read_set early
  pub wants : WantsNumbers z u c t r early
  pub fits : reserve.Fits z (demand_of z c t.verdict) r.row.key.items r.row.value s r.stock early v

-- at most so many steps were made, with one for each word of the node before this place
abbrev pub reading_most : Rereading → ℕ
reading_most q = 1467 - (266 - q.place)

-- the words of the node are read, or all are known; it goes by those that were read
pub record IsReadingOn (z : Sizes) (u : View) (j : Job) (t : Position) (q : Rereading) (r : Room) (v : View) : Type 0 where
  pub early : View
  pub base : StillTries u early
  pub later : IsLater early v
  pub spent : HasSpent z u (reading_most q) v
  pub has : HasHand z early r
  pub job : j ≡ Remove
  pub leaf : HasLeaf t r
  pub reads : StillStands z r.row.key.items t r.read_set early v
  pub merges : loss_at t r.read_set ≡ loss.Merges
  pub fits : RereadingFits z v t.stamp q (node_of r.read_set)

-- what was found when the case was chosen
abbrev pub IsKnown : Sizes → View → Case → Position → Room → View → Type 0
IsKnown z u NewLeaf t r v = Comes t.verdict × HasAll (demand_of z NewLeaf t.verdict) r.stock
IsKnown z u c t r v = HasLeaf t r × IsChosen z c t r.read_set r.gone r.stock u v

-- the node that takes the place of the one that goes is stamped, and that one is checked; it is its child at this byte
pub record IsNaming (z : Sizes) (u : View) (j : Job) (t : Position) (byte : ℕ) (n : NodeOf) (s : Naming) (r : Room)
    (v : View) : Type 0 where
  pub early : View
  pub base : StillTries u early
  pub later : IsLater early v
  pub spent : HasSpent z u 21700 early
  pub has : HasHand z early r
  pub job : j ≡ Remove
  pub leaf : HasLeaf t r
  pub leaves : LeavesOther z t r.read_set r.gone byte (node n)
  pub fits : naming.Fits z r.row.key.items t n s r.read_set r.lower early v

-- what is still to be read is read, and the cells are checked
pub record IsValidating (z : Sizes) (u : View) (j : Job) (t : Position) (c : Case) (s : Validate) (r : Room) (v : View) : Type 0 where
  pub early : View
  pub base : StillTries u early
  pub later : IsLater early v
  pub spent : HasSpent z u 21702 early
  pub has : HasHand z early r
  pub case : IsCaseOf j c
  pub known : IsKnown z u c t r v
  pub fits : validate.Fits z r.row.key.items t (cells_of c t.verdict) s r.read_set r.lower early v

-- the change is that of the case, which what was read and found tells; it unlinks what the case says, in that order
pub record GoesBy (z : Sizes) (u : View) (t : Position) (c : Case) (r : Room) (v : View) : Type 0 where
  pub told : IsWay z u c t r v
  pub effects : r.change.effects ≡ effects_of c t r.row r.gone

-- each cell that the change locks is one of this case, and was checked
abbrev pub HasLocks : View → Position → Case → Room → View → Type 0
HasLocks u t c r v = LocksOnly (LocksChecked u c t v) r.change

-- the change of the room may be made, and is that of the case
pub record MayMake (z : Sizes) (u : View) (j : Job) (t : Position) (c : Case) (r : Room) (v : View) : Type 0 where
  pub case : IsCaseOf j c
  pub planned : IsPlanned z v r.change
  pub leaf : (l : ℕ) → r.change.effects.leaf ≡ Some l → r.stock.leaf ≡ Some l
  pub deed : r.change.effects.deed ≡ made_by j r.row r.gone
  pub goes : GoesBy z u t c r v
  pub locks : HasLocks u t c r v

-- the change is made, of this place and in this case
pub record HasMade (z : Sizes) (u : View) (j : Job) (s : Apply) (r : Room) (v : View) : Type 0 where
  pub position : Position
  pub chosen : Case
  pub early : View
  pub base : StillTries u early
  pub later : IsLater early v
  pub spent : HasSpent z u 22500 early
  pub case : IsCaseOf j chosen
  pub locks : HasLocks u position chosen r v
  pub goes : GoesBy z u position chosen r v
  pub has : HasHand z early r
  pub plain : r.change.copy ≡ None
  pub leaf : (l : ℕ) → r.change.effects.leaf ≡ Some l → r.stock.leaf ≡ Some l
  pub deed : r.change.effects.deed ≡ made_by j r.row r.gone
  pub fits : apply.Fits z r.change s early v

abbrev pub free_at : Stage → Bool
free_at (stage.Apply s) = is_begun s
free_at s = true

-- nothing is held
abbrev pub is_free : Attempt → Bool
is_free m = free_at m.stage

-- ---- how many steps are left

-- of one attempt after another, where so many turns are left: as many, and at most 580 after the last of them, while a cell is held
abbrev pub tries_left : ℕ → ℕ
tries_left left = if left == 0 then 0 else left + 581

-- a counter at its end ends all attempts
abbrev pub is_last : Option UpgradeFault → Bool
is_last (Some (fault.Exhausted c)) = true
is_last e = false

-- of a making that holds a cell, after which none comes, or others may
abbrev pub last_left : Apply → ℕ
last_left m = 581 - most_steps m

abbrev pub held_left : ℕ → Apply → ℕ
held_left left m = if left == 0 then last_left m else if is_last (fault_of m) then last_left m else left + 581

abbrev pub apply_left : ℕ → Apply → ℕ
apply_left left m = if is_begun m then tries_left left else held_left left m

abbrev pub ended_left : ℕ → Ending → ℕ
ended_left left Restart = tries_left left
ended_left left e = 0

abbrev pub left_at : ℕ → Stage → ℕ
left_at left (stage.Apply s) = apply_left left s
left_at left (stage.Ended e) = ended_left left e
left_at left s = tries_left left

-- at most so many steps come, with those of the attempts that come after this one
abbrev pub steps_left : ℕ → Attempt → ℕ
steps_left left m = left_at left m.stage

-- ---- how it ends

-- the change was made: one event; what the change unlinked is in limbo, what it linked left the hand
pub record HasWritten (z : Sizes) (u : View) (j : Job) (t : Position) (c : Case) (r : Room) (v : View) : Type 0 where
  pub case : IsCaseOf j c
  pub event : MakesEvent u v (made_by j r.row r.gone)
  pub goes : GoesBy z u t c r v
  pub pins : List Pin
  pub limbo : v.limbo ≡ all_retired pins (unlinked r.change) ++ u.limbo
  pub once : IsOnce (links_in_limbo v.limbo)
  pub rest :
      rest_of (record v { seen = u.seen; own = u.own; committed = u.committed; hand = u.hand; limbo = u.limbo }) ≡ rest_of u
  pub free : v.held ≡ []
  pub later : IsLater u v
  pub has : HasHand z v r

-- the check of the place told this: one event
pub record HasSettled (z : Sizes) (u : View) (r : Room) (d : Deed) (v : View) : Type 0 where
  pub event : MakesEvent u v d
  pub rest : rest_of (record v { seen = u.seen; own = u.own; committed = u.committed; hand = u.hand }) ≡ rest_of u
  pub free : v.held ≡ []
  pub later : IsLater u v
  pub has : HasHand z v r

-- the last check was of the place of the key, where a leaf might come and a number of the pool is wanted; no free word gave one since
pub record IsFull (z : Sizes) (u : View) (t : Position) (r : Room) (pool : Pool) (v : View) : Type 0 where
  pub stood : StoodAtCheck z u r.row.key.items t r.read_set v
  pub checked : IsCheckOf t.stamp v
  pub comes : Comes t.verdict
  pub none : HasNone z (demand_of z NewLeaf t.verdict) pool u v
  pub after : v.checked.step ≤ none.since

-- the change of the case would lock this cell, whose counter is at its end: since the view u its version word was found so
pub record IsExhausted (z : Sizes) (u : View) (j : Job) (t : Position) (c : Case) (r : Room) (x : CellOf) (v : View) : Type 0 where
  pub case : IsCaseOf j c
  pub deed : r.change.effects.deed ≡ made_by j r.row r.gone
  pub goes : GoesBy z u t c r v
  pub index : ℕ
  pub target : Target
  pub is : target_at r.change index ≡ Some target
  pub cell_is : x ≡ target.stamp.cell
  pub at_end : 4 * last_counter ≤ target.stamp.version
  pub locks : LocksChecked u c t v target.stamp

-- the last check was of the place of the key, where by what the pass then knew a key begins this one, or this one begins it
pub record IsOverlap (z : Sizes) (u : View) (t : Position) (r : Room) (v : View) : Type 0 where
  pub stood : StoodAtCheck z u r.row.key.items t r.read_set v
  pub checked : IsCheckOf t.stamp v
  pub overlaps : t.verdict ≡ verdict.Overlaps

-- of a write that does this at this place, in this case
abbrev pub EndsBy : Sizes → View → Job → Position → Case → Room → Ending → View → Type 0
EndsBy z u j t c r New v = (j ≡ Insert) × HasWritten z u j t c r v
EndsBy z u j t c r (Present stands) v = (j ≡ Insert) × HasSettled z u r (present r.row stands) v
EndsBy z u j t c r (Gone value) v = (j ≡ Remove) × HasWritten z u j t c r v × (r.gone.value ≡ value)
EndsBy z u j t c r Absent v = (j ≡ Remove) × HasSettled z u r (absent r.row) v
EndsBy z u j t c r (Full pool) v = (j ≡ Insert) × EndsSo z u r v × IsFull z u t r pool v
EndsBy z u j t c r (Exhausted x) v = EndsSo z u r v × IsExhausted z u j t c r x v
EndsBy z u j t c r Overlaps v = (j ≡ Insert) × EndsSo z u r v × IsOverlap z u t r v
EndsBy z u j t c r Restart v = EndsSo z u r v × (u.failures < v.failures)

-- of the place and the case of which its end speaks
pub record EndFits (z : Sizes) (u : View) (j : Job) (r : Room) (e : Ending) (v : View) : Type 0 where
  pub position : Position
  pub case : Case
  pub ends : EndsBy z u j position case r e v

-- ---- why it is tried anew

-- the change is given up for a cell that was changed: it was before this answer, or the answer says so of an upgrade
abbrev pub IsGivenUpBy : Apply → Answer → Type 0
IsGivenUpBy s answer = (e : Changed) × ((fault_of s ≡ Some (fault.Changed e)) ⊎ (answer ≡ Upgraded (Err (fault.Changed e))))

-- a version word was locked, obsolete or changed: the last answer said so, or the change was given up for it
abbrev pub IsRestartBy : Stage → Answer → Type 0
IsRestartBy (stage.Apply s) answer = IsGivenUpBy s answer
IsRestartBy s answer = goes_on answer ≡ false

-- ---- why it ends as an overlap

-- the place of the key was known, one where a key begins the other, and its check succeeded
pub record IsOverlapBy (m : Attempt) (answer : Answer) : Type 0 where
  pub job : m.job ≡ Insert
  pub by : Finding
  pub finding : m.stage ≡ stage.Finding by
  pub position : Position
  pub there : position_at by ≡ Some position
  pub overlaps : position.verdict ≡ verdict.Overlaps
  pub succeeded : passed answer ≡ true

-- ---- at each stage

abbrev pub PartFits : Sizes → View → Job → Position → Part → Room → View → Type 0
PartFits z u j t (part.Reserve c s) r v = HasSupplies z u j t c s r v × (reserve.ended_at s ≡ None)
PartFits z u j t (part.Reading q) r v = IsReadingOn z u j t q r v × (q.place < size_of t.stamp.cell)
PartFits z u j t (part.Naming byte n s) r v = IsNaming z u j t byte n s r v × (naming.ended_at s ≡ None)
PartFits z u j t (part.Validate c s) r v = IsValidating z u j t c s r v × (validate.ended_at s ≡ None)

abbrev pub StageFits : Sizes → View → Stage → Attempt → Room → View → Type 0
StageFits z u (stage.Finding f) m r v = IsFinding z u m.job f r v
StageFits z u (stage.Placed t q) m r v = PartFits z u m.job t q r v
StageFits z u (stage.Apply s) m r v = HasMade z u m.job s r v × (apply.ended_at s ≡ None)
StageFits z u (stage.Ended e) m r v = EndFits z u m.job r e v

-- the room is one of a key
pub record IsRoom (z : Sizes) (r : Room) : Type 0 where
  pub sizes : r.sizes ≡ z
  pub key : IsKey r.row.key.items

-- it is an attempt of the same job still, of the same row but for the number that its leaf has
pub record IsSameTry (m n : Attempt) (r s : Room) : Type 0 where
  pub job : n.job ≡ m.job
  pub key : s.row.key ≡ r.row.key
  pub value : s.row.value ≡ r.row.value

pub record Fits (z : Sizes) (u : View) (m : Attempt) (r : Room) (v : View) : Type 0 where
  pub room : IsRoom z r
  pub stage : StageFits z u m.stage m r v
