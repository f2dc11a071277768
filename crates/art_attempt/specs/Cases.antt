-- What a write changes in each case: what it wants in hand, which cells it reads and locks, and what it comes of.
use Rattle.std.specs.Prelude.{◌≡◌, ◌⊎◌, ℕ, List, [], Option, Some, None, Bool, true, false, ⊤}
use Rattle.art_attempt.specs.Trying.{IsCheckOf, StoodAtCheck, WasChecked}
use Rattle.art_attempt.specs.declared.attempts.Job.{Job}
use Rattle.art_attempt.specs.declared.attempts.Job.TheVariants.{Insert, Remove}
use Rattle.art_attempt.specs.declared.attempts.Case.{Case}
use Rattle.art_attempt.specs.declared.attempts.Case.TheVariants.{NewLeaf, DropLeaf, Shrink, MergeLeaf, MergeNode, Torn}
use Rattle.art_attempt.specs.declared.attempts.Room.{Room}
use Rattle.art_cell.specs.declared.Link.{Link}
use Rattle.art_cell.specs.declared.Link.TheVariants.{Leaf as leaf, Node as node}
use Rattle.art_cell.specs.declared.cells.Layout.{Layout}
use Rattle.art_find.specs.ReadSets.{node_of}
use Rattle.art_find.specs.declared.findings.Position.{Position}
use Rattle.art_find.specs.declared.read_sets.ReadSet.{ReadSet}
use Rattle.art_find.specs.declared.descents.Verdict.{Verdict}
use Rattle.art_epoch.specs.Stocks.{node_in}
use Rattle.art_epoch.specs.declared.stocks.Stock.{Stock}
use Rattle.art_attempt.specs.Reserve.{HasNone}
use Rattle.art_attempt.specs.Naming.{KnowsHere}
use Rattle.art_attempt.specs.declared.validate.Cells.{Cells}
use Rattle.art_attempt.specs.declared.reserve.Demand.{Demand}
use Rattle.art_step.specs.declared.actions.Effects.{Effects}
use Rattle.art_model.specs.declared.commands.Answer.TheVariants as reply
use Rattle.art_plan.specs.Changes.{targets}
use Rattle.art_plan.specs.ChooseInsert.Needs.{needs_of}
use Rattle.art_plan.specs.ChooseInsert.Plans.{Comes, IsLockedAt, gives_way}
use Rattle.art_plan.specs.ChooseRemove.Losses.{loss_at}
use Rattle.art_plan.specs.ChooseRemove.Plans.{HasFound, HasOther, IsAnyAt, IsEitherAt, IsNodeAt, node_words}
use Rattle.art_plan.specs.ChooseRemove.Seen.{IsSeen}
use Rattle.art_plan.specs.Insert.Puts.{insert_effects, inserted}
use Rattle.art_plan.specs.Remove.Removals.{remove_effects}
use Rattle.art_plan.specs.declared.choose_remove.Loss.TheVariants as loss
use Rattle.art_plan.specs.declared.insert.NewLeaf.{NewLeaf as Row}
use Rattle.art_plan.specs.declared.remove.OldLeaf.{OldLeaf}
use Rattle.art_step.specs.Views.{pool_of_layout}
use Rattle.art_step.specs.declared.deeds.Act.TheVariants as act
use Rattle.art_step.specs.declared.deeds.Deed.{Deed}
use Rattle.art_step.specs.declared.deeds.Deed.TheVariants.{Done}
use Rattle.art_step.specs.declared.views.Sizes.{Sizes}
use Rattle.art_step.specs.declared.views.Stamp.{Stamp}
use Rattle.art_step.specs.declared.views.View.{View}

-- ---- of which job

-- a leaf comes in an insert alone
abbrev pub IsCaseOf : Job → Case → Type 0
IsCaseOf Insert NewLeaf = ⊤
IsCaseOf Insert c = ⊥
IsCaseOf Remove NewLeaf = ⊥
IsCaseOf Remove c = ⊤

-- what is committed: the row came, or that with its key went
abbrev pub made_by : Job → Row → OldLeaf → Deed
made_by Insert row gone = inserted row
made_by Remove row gone = Done (act.Remove row.key) (reply.Removed gone.value)

-- ---- what is wanted

abbrev pub comes_in : Case → Bool
comes_in NewLeaf = true
comes_in c = false

abbrev pub node_for : Case → Verdict → Option Layout
node_for NewLeaf found = (needs_of found).node
node_for (Shrink layout) found = Some layout
node_for c found = None

-- what is wanted in hand
abbrev pub demand_of : Sizes → Case → Verdict → Demand
demand_of z c found = record { leaf = comes_in c; node = node_for c found; sizes = z }

-- which cells are validated beside the one where the key stands
abbrev pub cells_of : Case → Verdict → Cells
cells_of NewLeaf found = record { above = (needs_of found).above; lower = None }
cells_of DropLeaf found = record { above = false; lower = None }
cells_of (Shrink layout) found = record { above = true; lower = None }
cells_of (MergeLeaf other) found = record { above = true; lower = None }
cells_of (MergeNode l) found = record { above = true; lower = Some l }
cells_of Torn found = record { above = false; lower = None }

-- ---- what is locked and unlinked

-- the stamp is that of a cell that is locked
abbrev pub IsLockedBy : Case → Position → Stamp → Type 0
IsLockedBy NewLeaf t x = IsLockedAt t x
IsLockedBy DropLeaf t x = IsNodeAt t x
IsLockedBy (Shrink layout) t x = IsEitherAt t x
IsLockedBy (MergeLeaf other) t x = IsEitherAt t x
IsLockedBy (MergeNode l) t x = IsAnyAt t l x
IsLockedBy Torn t x = ⊥

-- and since the view u its version word was found as it is stamped
pub record LocksChecked (u : View) (c : Case) (t : Position) (v : View) (x : Stamp) : Type 0 where
  pub by : IsLockedBy c t x
  pub checked : WasChecked u x v

-- so many cells are locked where a leaf goes
abbrev pub locks_of : Case → ℕ
locks_of DropLeaf = 1
locks_of (Shrink layout) = 2
locks_of (MergeLeaf other) = 2
locks_of (MergeNode l) = 3
locks_of c = 0

-- the child words of what leaves the tree with the leaf: of the node that names it, unless that stays
abbrev pub leaves_by : Case → Position → List ℕ
leaves_by (Shrink layout) t = node_words t.stamp.cell
leaves_by (MergeLeaf other) t = node_words t.stamp.cell
leaves_by (MergeNode l) t = node_words t.stamp.cell
leaves_by c t = []

-- what comes about at the commit: the deed, the leaf, what is unlinked
abbrev pub effects_of : Case → Position → Row → OldLeaf → Effects
effects_of NewLeaf t row gone = insert_effects row (gives_way t.verdict)
effects_of c t row gone = remove_effects gone (leaves_by c t)

-- ---- what was found

-- a leaf may come where the key stood at the last check
pub record ComesThere (z : Sizes) (u : View) (t : Position) (r : Room) (v : View) : Type 0 where
  pub stood : StoodAtCheck z u r.row.key.items t r.read_set v
  pub checked : IsCheckOf t.stamp v
  pub comes : Comes t.verdict

-- the leaf with the row's key was found
pub record HasLeaf (t : Position) (r : Room) : Type 0 where
  pub found : HasFound t r.gone
  pub key : r.gone.key ≡ r.row.key

-- where the cell is seen with the words of the node as they are now, whatever is read above it, it keeps this child at this byte
abbrev pub LeavesOther : Sizes → Position → ReadSet → OldLeaf → ℕ → Link → Type 0
LeavesOther z t read_set old byte d =
    (later : ReadSet) → node_of later ≡ node_of read_set → IsSeen z old.key.items t later → HasOther t later old byte d

-- it is not seen so
abbrev pub IsNeverSeen : Sizes → Position → ReadSet → OldLeaf → Type 0
IsNeverSeen z t read_set old = (later : ReadSet) → node_of later ≡ node_of read_set → IsSeen z old.key.items t later → ⊥

-- a smaller node would do, and since the view u no free word of its pool gave a number
pub record HasNoSmaller (z : Sizes) (t : Position) (read_set : ReadSet) (u v : View) : Type 0 where
  pub layout : Layout
  pub shrinks : loss_at t read_set ≡ loss.Shrinks layout
  pub none : HasNone z (demand_of z (Shrink layout) t.verdict) (pool_of_layout layout) u v

-- the leaf goes alone: its cell keeps its layout, or no smaller node was found
abbrev pub MayStay : Sizes → Position → ReadSet → View → View → Type 0
MayStay z t read_set u v = (loss_at t read_set ≡ loss.Leaf) ⊎ HasNoSmaller z t read_set u v

-- what is known of the case that was chosen, of a pass that had the view u at the beginning
abbrev pub IsChosen : Sizes → Case → Position → ReadSet → OldLeaf → Stock → View → View → Type 0
IsChosen z NewLeaf t read_set old s u v = ⊥
IsChosen z DropLeaf t read_set old s u v = MayStay z t read_set u v
IsChosen z (Shrink layout) t read_set old s u v = (loss_at t read_set ≡ loss.Shrinks layout) × ((i : ℕ) × (node_in s layout ≡ Some i))
IsChosen z (MergeLeaf other) t read_set old s u v = KnowsHere t read_set × ((byte : ℕ) × LeavesOther z t read_set old byte (leaf other))
IsChosen z (MergeNode l) t read_set old s u v = KnowsHere t read_set × LeavesOther z t read_set old l.byte (node l.node)
IsChosen z Torn t read_set old s u v = KnowsHere t read_set × IsNeverSeen z t read_set old

-- what was read tells this case; from a cell that may shrink a leaf goes alone only where since the view u no free word gave a number
abbrev pub IsTold : Sizes → Case → Position → ReadSet → OldLeaf → View → View → Type 0
IsTold z NewLeaf t read_set old u v = ⊥
IsTold z DropLeaf t read_set old u v = MayStay z t read_set u v
IsTold z (Shrink layout) t read_set old u v = loss_at t read_set ≡ loss.Shrinks layout
IsTold z (MergeLeaf other) t read_set old u v = (byte : ℕ) × HasOther t read_set old byte (leaf other)
IsTold z (MergeNode l) t read_set old u v = HasOther t read_set old l.byte (node l.node)
IsTold z Torn t read_set old u v = ⊥

-- the leaf was found where its key stood at the last check, and what was read and found tells the case; so many cells are locked
pub record LeafGoes (z : Sizes) (u : View) (c : Case) (t : Position) (r : Room) (v : View) : Type 0 where
  pub leaf : HasLeaf t r
  pub stood : StoodAtCheck z u r.row.key.items t r.read_set v
  pub told : IsTold z c t r.read_set r.gone u v
  pub locks : targets r.change ≡ locks_of c

-- a leaf may come where its key stood at the last check
pub record LeafComes (z : Sizes) (u : View) (t : Position) (r : Room) (v : View) : Type 0 where
  pub stood : StoodAtCheck z u r.row.key.items t r.read_set v
  pub comes : Comes t.verdict

-- a leaf comes where its key stood, and one that goes does so in the case that was found
abbrev pub IsWay : Sizes → View → Case → Position → Room → View → Type 0
IsWay z u NewLeaf t r v = LeafComes z u t r v
IsWay z u c t r v = LeafGoes z u c t r v
