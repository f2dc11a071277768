-- What a validation asks, and what it knows between two of its steps.
use Rattle.std.specs.Prelude.{◌≡◌, ℕ, ◌+◌, ◌-◌, ◌<◌, ◌≤◌, nat_lt, List, Bool, Option, Some, None, unwrap_or, ⊤, if◌then◌else◌}
use Rattle.std.specs.Option.{option_map, option_and_then}
use Rattle.art_cell.specs.Reads.{word_read}
use Rattle.art_find.specs.Descents.{IsReading}
use Rattle.art_find.specs.Kept.{StaysRead}
use Rattle.art_find.specs.ReadSets.{above_of, node_of}
use Rattle.art_find.specs.Rereadings.{AreKnown, RereadingFits, reads_next}
use Rattle.art_find.specs.Ways.{count_in}
use Rattle.art_find.specs.declared.findings.Above.{Above as CellAbove}
use Rattle.art_find.specs.declared.findings.Position.{Position}
use Rattle.art_find.specs.declared.read_sets.ReadSet.{ReadSet}
use Rattle.art_find.specs.declared.read_sets.Rereading.{Rereading}
use Rattle.art_attempt.specs.Naming.{IsBelow, KnowsHere, StillNames, StillStands, WouldLead}
use Rattle.art_attempt.specs.declared.validate.Cells.{Cells}
use Rattle.art_attempt.specs.declared.validate.Role.{Role}
use Rattle.art_attempt.specs.declared.validate.Role.TheVariants.{Above, Here, Lower}
use Rattle.art_attempt.specs.declared.validate.Validate.{Validate}
use Rattle.art_attempt.specs.declared.validate.Validate.TheVariants.{Read, Header, Check, Torn, Ended}
use Rattle.art_attempt.specs.declared.validate.Validated.{Validated}
use Rattle.art_attempt.specs.declared.validate.Validated.TheVariants.{Unchanged, Changed}
use Rattle.art_step.specs.Acting.{passed}
use Rattle.art_step.specs.declared.actions.Action.{Action}
use Rattle.art_step.specs.declared.actions.Action.TheVariants as action
use Rattle.art_step.specs.declared.actions.Answer.{Answer}
use Rattle.art_plan.specs.declared.choose_remove.Lower.{Lower as LowerNode}
use Rattle.art_step.specs.Steps.Check as check
use Rattle.art_step.specs.Views.{Member, size_of}
use Rattle.art_step.specs.declared.views.Sizes.{Sizes}
use Rattle.art_step.specs.declared.views.Stamp.{Stamp}
use Rattle.art_step.specs.declared.views.View.{View}
use Rattle.art_step.specs.declared.views.Word.TheVariants.{Version}

-- ---- the cells

abbrev pub stamp_above : CellAbove → Stamp
stamp_above a = a.stamp

abbrev pub stamp_below : LowerNode → Stamp
stamp_below l = l.stamp

-- that of the cell above, where it is wanted and there is one
abbrev pub over_of : Bool → Option CellAbove → Option Stamp
over_of wanted above = if wanted then option_map stamp_above above else None

-- the stamp of the cell in this role, if it is validated
abbrev pub stamp_of : Position → Cells → Role → Option Stamp
stamp_of t o Above = over_of o.above t.above
stamp_of t o Here = Some t.stamp
stamp_of t o Lower = option_map stamp_below o.lower

-- the words that were read of it
abbrev pub reads_of : ReadSet → List (Option ℕ) → Role → List (Option ℕ)
reads_of read_set lower Above = above_of read_set
reads_of read_set lower Here = node_of read_set
reads_of read_set lower Lower = lower

-- those of the others stay
abbrev pub OthersStay : Role → ReadSet → List (Option ℕ) → ReadSet → List (Option ℕ) → Type 0
OthersStay Above read_set lower read_set' lower' = (node_of read_set' ≡ node_of read_set) × (lower' ≡ lower)
OthersStay Here read_set lower read_set' lower' = (above_of read_set' ≡ above_of read_set) × (lower' ≡ lower)
OthersStay Lower read_set lower read_set' lower' = read_set' ≡ read_set

-- of the cells above this one; or of all
abbrev pub Until : (Role → Type 0) → Role → Type 0
Until so Above = ⊤
Until so Here = so Above
Until so Lower = so Above × so Here

abbrev pub Each : (Role → Type 0) → Type 0
Each so = (role : Role) → so role

-- ---- what it asks

abbrev pub reads_by : Rereading → Stamp → Option Action
reads_by r x = reads_next x r

abbrev pub checks_of : Stamp → Action
checks_of x = action.Check x

-- the next step
abbrev pub asks : Position → Cells → Validate → Option Action
asks t o (Read role r) = option_and_then (reads_by r) (stamp_of t o role)
asks t o (Header r) = option_and_then (reads_by r) (stamp_of t o Lower)
asks t o (Check role) = option_map checks_of (stamp_of t o role)
asks t o Torn = option_map checks_of (stamp_of t o Lower)
asks t o (Ended e) = None

-- how it ended, if it has
abbrev pub ended_at : Validate → Option Validated
ended_at (Read role r) = None
ended_at (Header r) = None
ended_at (Check role) = None
ended_at Torn = None
ended_at (Ended e) = Some e

-- how many steps it makes at most after the words of this cell, and where it is checked: a cell has at most 265 words after its version word
abbrev pub left_after : Role → ℕ
left_after Above = 533
left_after Here = 268
left_after Lower = 3

abbrev pub left_from : Role → ℕ
left_from Above = 3
left_from Here = 2
left_from Lower = 1

-- from here on
abbrev pub steps_left : Validate → ℕ
steps_left (Read role r) = 266 - r.place + left_after role
steps_left (Header r) = 266 - r.place + left_after Lower
steps_left (Check role) = left_from role
steps_left Torn = left_from Lower
steps_left (Ended e) = 0

-- how many failures there are, of so many at the beginning: a check that failed is one more
abbrev pub failures_of : Validate → ℕ → ℕ
failures_of (Read role r) n = n
failures_of (Header r) n = n
failures_of (Check role) n = n
failures_of Torn n = n
failures_of (Ended Unchanged) n = n
failures_of (Ended Changed) n = n + 1

-- no step failed since the view u, and those that were made since and those that are left are at most so many
pub record HasLeft (u v : View) (left most : ℕ) : Type 0 where
  pub failures : v.failures ≡ u.failures
  pub steps : v.steps + left ≤ u.steps + most

-- the first cell that is checked, and the one after this: from the top down
abbrev pub first_check : Option Stamp → Validate
first_check (Some above) = Check Above
first_check None = Check Here

abbrev pub check_below : Option LowerNode → Validate
check_below (Some l) = Check Lower
check_below None = Ended Unchanged

abbrev pub next_check : Cells → Role → Validate
next_check o Above = Check Here
next_check o Here = check_below o.lower
next_check o Lower = Ended Unchanged

-- what comes after the header of the node below is known, by which its path with its prefix has so many bytes: its check where they are
-- more than in any tree, and else this
abbrev pub after_header : ℕ → Validate → Validate
after_header bytes next = if nat_lt 63 bytes then Torn else next

-- a check that succeeded leads to the next one
abbrev pub after_check : Answer → Validate → Validate
after_check answer next = if passed answer then next else Ended Changed

-- ---- what it knows, of a pass that had the view u when it began

-- what a node below is to the one where the key stands
abbrev pub BelowFits : Sizes → List ℕ → Position → ReadSet → Option LowerNode → List (Option ℕ) → View → View → Type 0
BelowFits z k t read_set None lower u v = ⊤
BelowFits z k t read_set (Some l) lower u v = StillNames z k t l.node read_set u v × IsBelow z k t read_set l.node l.stamp lower v ×
    WouldLead k t read_set l.node v

-- the pass only read, and the key stands where it stood; so does the node below
pub record Knows (z : Sizes) (k : List ℕ) (t : Position) (o : Cells) (read_set : ReadSet) (lower : List (Option ℕ)) (u v : View)
    : Type 0 where
  pub stands : StillStands z k t read_set u v
  pub below : BelowFits z k t read_set o.lower lower u v

-- all words of the cell in this role are known, if it is validated
abbrev pub KnowsWords : Position → Cells → ReadSet → List (Option ℕ) → Role → Type 0
KnowsWords t o read_set lower role =
    (x : Stamp) → stamp_of t o role ≡ Some x → AreKnown (reads_of read_set lower role) 1 (size_of x.cell)

-- how many bytes the prefix of a node has, by the words that were read of it
abbrev pub prefix_in : List (Option ℕ) → ℕ
prefix_in reads = count_in (unwrap_or (word_read reads 1) 0)

-- how many bytes lead to what the cell above names; above the anchor is none
abbrev pub depth_under : Option CellAbove → ℕ
depth_under (Some a) = a.depth
depth_under None = 0

-- how many bytes the path of the node below has with its prefix: those that lead to the node where the key stands, the prefix of that
-- node, one byte, and its own prefix
abbrev pub path_below : Position → ReadSet → List (Option ℕ) → ℕ
path_below t read_set lower = depth_under t.above + prefix_in (node_of read_set) + 1 + prefix_in lower

-- its header is known, by which they are no more than in a tree
pub record IsShort (t : Position) (read_set : ReadSet) (lower : List (Option ℕ)) : Type 0 where
  pub header : ℕ
  pub known : word_read lower 1 ≡ Some header
  pub short : path_below t read_set lower ≤ 63

-- or by which they are more
pub record IsLong (t : Position) (read_set : ReadSet) (lower : List (Option ℕ)) : Type 0 where
  pub header : ℕ
  pub known : word_read lower 1 ≡ Some header
  pub long : 63 < path_below t read_set lower

-- words of the cell in this role may be read: of the node below none but the header, unless that tells a short path
abbrev pub MayRead : Position → ReadSet → List (Option ℕ) → Role → Type 0
MayRead t read_set lower Above = ⊤
MayRead t read_set lower Here = ⊤
MayRead t read_set lower Lower = IsShort t read_set lower

-- the version word of the stamp's cell was found at that step, as it is stamped
abbrev pub FoundAt : Stamp → ℕ → View → Type 0
FoundAt x step v = Member (record { word = Version x.cell x.version; step = step }) v.found

-- what was known of the words of the cell where the key stands is known, and once all of them are, they stay
pub record NodeStays (t : Position) (read_set read_set' : ReadSet) : Type 0 where
  pub stays : StaysRead (node_of read_set) (node_of read_set')
  pub whole : KnowsHere t read_set → node_of read_set' ≡ node_of read_set

-- since the view u, and not after v, a check of the stamp succeeded, when this was known of the words as they are now
pub record CheckedSince (z : Sizes) (k : List ℕ) (t : Position) (o : Cells) (read_set : ReadSet) (lower : List (Option ℕ)) (u : View)
    (x : Stamp) (v : View) : Type 0 where
  pub before : View
  pub knows : Knows z k t o read_set lower u before
  pub after : View
  pub passed : check.Unchanged z before after x None
  pub done : after.steps ≤ v.steps
  pub found : FoundAt x after.steps v

-- a check of the cell in this role succeeded, if it is validated
abbrev pub RoleWasChecked : Sizes → List ℕ → Position → Cells → ReadSet → List (Option ℕ) → View → View → Role → Type 0
RoleWasChecked z k t o read_set lower u v role =
    (x : Stamp) → stamp_of t o role ≡ Some x → CheckedSince z k t o read_set lower u x v

-- the last check that succeeded came after the view u, and what the pass knew then it knows now
pub record HasJustChecked (u v : View) : Type 0 where
  pub stamps : v.checked.stamps ≡ v.stamps
  pub notes : v.checked.notes ≡ v.notes
  pub after : u.steps < v.checked.step
  pub done : v.checked.step ≤ v.steps

-- all words of all cells were known when each of them was checked
pub record IsValidated (z : Sizes) (k : List ℕ) (t : Position) (o : Cells) (read_set : ReadSet) (lower : List (Option ℕ)) (u v : View)
    : Type 0 where
  pub words : Each (KnowsWords t o read_set lower)
  pub checked : Each (RoleWasChecked z k t o read_set lower u v)
  pub just : HasJustChecked u v

-- words of the cell in this role are read
pub record IsRereading (z : Sizes) (t : Position) (o : Cells) (read_set : ReadSet) (lower : List (Option ℕ)) (v : View) (role : Role)
    (r : Rereading) : Type 0 where
  pub stamp : Stamp
  pub is : stamp_of t o role ≡ Some stamp
  pub fits : RereadingFits z v stamp r (reads_of read_set lower role)
  pub more : r.place < size_of stamp.cell

-- at each stage
abbrev pub StageFits : Sizes → List ℕ → Position → Cells → Validate → ReadSet → List (Option ℕ) → View → View → Type 0
StageFits z k t o (Read role r) read_set lower u v = Knows z k t o read_set lower u v × Until (KnowsWords t o read_set lower) role ×
    IsRereading z t o read_set lower v role r × MayRead t read_set lower role
StageFits z k t o (Header r) read_set lower u v = Knows z k t o read_set lower u v × Until (KnowsWords t o read_set lower) Lower ×
    IsRereading z t o read_set lower v Lower r × (r.place ≡ 1)
StageFits z k t o (Check role) read_set lower u v = Knows z k t o read_set lower u v × Each (KnowsWords t o read_set lower) ×
    Until (RoleWasChecked z k t o read_set lower u v) role × ((x : Stamp) × (stamp_of t o role ≡ Some x))
StageFits z k t o Torn read_set lower u v = Knows z k t o read_set lower u v × Until (KnowsWords t o read_set lower) Lower ×
    IsLong t read_set lower × ((x : Stamp) × (stamp_of t o Lower ≡ Some x))
StageFits z k t o (Ended Unchanged) read_set lower u v = Knows z k t o read_set lower u v × IsValidated z k t o read_set lower u v
StageFits z k t o (Ended Changed) read_set lower u v = IsReading u v

pub record Fits (z : Sizes) (k : List ℕ) (t : Position) (o : Cells) (m : Validate) (read_set : ReadSet) (lower : List (Option ℕ))
    (u v : View) : Type 0 where
  pub stage : StageFits z k t o m read_set lower u v
  pub failures : v.failures ≡ failures_of m u.failures
  pub steps : v.steps + steps_left m ≤ u.steps + 798
