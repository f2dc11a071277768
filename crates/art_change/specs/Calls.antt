-- What a call is asked for, what is known of it between two steps, and what a client sees of it in the end.
use Rattle.std.specs.Option.{option_map}
use Rattle.std.specs.Prelude.{◌≡◌, ◌⊎◌, ℕ, ◌+◌, ◌≤◌, List, length, Bool, true, false, Option, Some, None, ⊤}
use Rattle.arrayvec.specs.ArrayVec.{ArrayVec}
use Rattle.art_change.specs.Outcomes.{of_seek, of_write}
use Rattle.art_change.specs.declared.callers.Call.{Call}
use Rattle.art_change.specs.declared.callers.Call.TheVariants as call
use Rattle.art_change.specs.declared.callers.Caller.{Caller}
use Rattle.art_change.specs.declared.outcomes.Outcome.{Outcome}
use Rattle.art_change.specs.declared.outcomes.Outcome.TheVariants as outcome
use Rattle.art_change.specs.Writes as writes
use Rattle.art_change.specs.Writes.{HasGround, IsApart, IsReady, WillRefuse}
pub use Rattle.art_change.specs.Writes.{HoldsOrTold, IsFresh}
use Rattle.art_change.specs.ArtAttempt.declared.attempts.Job.{Job}
use Rattle.art_change.specs.ArtAttempt.declared.attempts.Job.TheVariants as job
use Rattle.art_change.specs.declared.writes.WriteOutcome.{WriteOutcome}
use Rattle.art_change.specs.declared.writes.Write.{Write}
use Rattle.art_epoch.specs.Limbo.{places_of}
use Rattle.art_epoch.specs.declared.limbo.Place.{Place}
use Rattle.art_change.specs.ArtFind.Driven.{get_done}
use Rattle.art_epoch.specs.declared.stocks.Stock.{Stock}
use Rattle.art_key.specs.Bounds.{is_before}
use Rattle.art_key.specs.declared.bounds.Bound.{Bound}
use Rattle.art_look.specs.Driven.{IsSeen}
use Rattle.art_look.specs.Seen.{bound_at, look_done}
use Rattle.art_look.specs.declared.looks.Seen.{Seen}
use Rattle.art_model.specs.declared.commands.Answer.TheVariants as reply
use Rattle.art_look.specs.Seeks as seeks
use Rattle.art_look.specs.Seeks.{WillBeBusy}
use Rattle.art_look.specs.Sought.{HasSpent}
use Rattle.art_look.specs.Walks.{aim_of}
use Rattle.art_look.specs.declared.seeks.Seek.{Seek}
use Rattle.art_look.specs.declared.walks.Aim.{Aim}
use Rattle.art_look.specs.declared.walks.Aim.TheVariants as aim
use Rattle.art_step.specs.Deeds.{bound_of}
use Rattle.art_step.specs.Events.{SeesEvent}
use Rattle.art_step.specs.Histories.{AreApart}
use Rattle.art_step.specs.declared.deeds.Act.TheVariants as act
use Rattle.art_step.specs.declared.deeds.Deed.{Deed}
use Rattle.art_step.specs.declared.deeds.Deed.TheVariants.{Done}
use Rattle.art_step.specs.declared.views.Sizes.{Sizes}
use Rattle.art_step.specs.declared.views.View.{View}
use Rattle.art_tree.specs.Looks.{IsBelow}
use Rattle.art_tree.specs.declared.bounds.Bound.TheVariants.{To}

-- ---- what is asked for

-- an insert of a key with its value, a removal, a get, or a look from a key on, before a bound
pub data Wish : Type 0 where
  Insert : ArrayVec ℕ → ℕ → Wish
  Remove : ArrayVec ℕ → Wish
  Get : ArrayVec ℕ → Wish
  Look : ArrayVec ℕ → Bound → Wish

-- a write of this key, and of this value where a row comes
abbrev pub write_wish : Job → ArrayVec ℕ → ℕ → Wish
write_wish job.Insert k value = Insert k value
write_wish job.Remove k value = Remove k

-- its key may be one of a command; a look may have any
abbrev pub IsAdmitted : (List ℕ → Type 0) → Wish → Type 0
IsAdmitted A (Insert k value) = A k.items
IsAdmitted A (Remove k) = A k.items
IsAdmitted A (Get k) = A k.items
IsAdmitted A (Look lo hi) = ⊤

-- its event, if it makes one
abbrev pub told_by : Wish → Outcome → Option Deed
told_by (Insert k value) outcome.New = Some (Done (act.Insert k value) reply.Inserted)
told_by (Insert k value) (outcome.Present stands) = Some (Done (act.Insert k value) (reply.Present stands))
told_by (Remove k) (outcome.Gone had) = Some (Done (act.Remove k) (reply.Removed had))
told_by (Remove k) outcome.Absent = Some (Done (act.Remove k) reply.Absent)
told_by (Get k) (outcome.Found value) = Some (get_done k.items (Some value))
told_by (Get k) outcome.Absent = Some (get_done k.items None)
told_by (Look lo hi) (outcome.Seen seen) = Some (look_done seen)
told_by w o = None

-- it may end so
abbrev pub may_end : Wish → Outcome → Bool
may_end (Insert k value) outcome.New = true
may_end (Insert k value) (outcome.Present stands) = true
may_end (Insert k value) (outcome.Full pool) = true
may_end (Insert k value) outcome.Overlaps = true
may_end (Insert k value) (outcome.Exhausted c) = true
may_end (Insert k value) (outcome.Crowded b) = true
may_end (Remove k) (outcome.Gone had) = true
may_end (Remove k) outcome.Absent = true
may_end (Remove k) (outcome.Exhausted c) = true
may_end (Remove k) (outcome.Crowded b) = true
may_end (Get k) (outcome.Found value) = true
may_end (Get k) outcome.Absent = true
may_end (Look lo hi) (outcome.Seen seen) = true
may_end w outcome.Busy = true
may_end w o = false

-- ---- a pass that may call

-- of at most 32 passes, this one is idle and holds nothing, and has nothing in hand; what waits in limbo is as the caller has it
pub record IsCaller (z : Sizes) (u : View) (c : Caller) : Type 0 where
  pub few : z.passes ≤ 32
  pub sizes : c.room.sizes ≡ z
  pub ready : IsReady z u c.own (places_of c.limbo) c.room.stock

-- ---- between two steps of a call

-- a write of this goes on, in so many turns, of a pass that had the view u
pub record IsWriting (z : Sizes) (j : Job) (k : ArrayVec ℕ) (value turns : ℕ) (u : View) (c : Caller) (m : Write) (v : View) : Type 0 where
  pub job_is : m.job ≡ j
  pub turns_are : m.turns ≡ turns
  pub key_is : c.room.row.key ≡ k
  pub value_is : c.room.row.value ≡ value
  pub few : z.passes ≤ 32
  pub waited : List Place
  pub stock : Stock
  pub ready : IsReady z u c.own waited stock
  pub fits : writes.Fits z u waited m c.room (places_of c.limbo) v

-- a seek of this
pub record IsSeeking (z : Sizes) (a : Aim) (k : ArrayVec ℕ) (hi : Bound) (turns : ℕ) (u : View) (c : Caller) (m : Seek) (v : View)
    : Type 0 where
  pub aim_is : aim_of m.walk ≡ a
  pub turns_are : m.turns ≡ turns
  pub key_is : c.key ≡ k
  pub bound_is : c.hi ≡ hi
  pub short : length k.items ≤ 64
  pub caller : IsCaller z u c
  pub fits : seeks.Fits z k.items hi u m c.path_buffer v

-- a get has no upper end
abbrev pub GoesOn : Sizes → Wish → ℕ → View → Caller → Call → View → Type 0
GoesOn z (Insert k value) turns u c (call.Write m) v = IsWriting z job.Insert k value turns u c m v
GoesOn z (Remove k) turns u c (call.Write m) v = IsWriting z job.Remove k 0 turns u c m v
GoesOn z (Get k) turns u c (call.Seek m) v = IsSeeking z aim.Key k c.hi turns u c m v
GoesOn z (Look lo hi) turns u c (call.Seek m) v = IsSeeking z aim.Range lo hi turns u c m v × (is_before (bound_at (To lo.items)) hi ≡ true)
GoesOn z w turns u c m v = ⊥

-- at most so many steps come
abbrev pub left_in : Caller → Call → ℕ
left_in c (call.Write m) = writes.steps_left m c.room (places_of c.limbo)
left_in c (call.Seek m) = seeks.steps_left m

abbrev pub steps_left : Caller → ℕ
steps_left c = left_in c c.call

-- the call of this wish goes on, or has ended, of a pass that had the view u when it was begun, in so many turns; of these so many were
-- given, and with those that come it makes at most a thousand steps more
pub record IsCalling (z : Sizes) (w : Wish) (given turns : ℕ) (u : View) (c : Caller) (v : View) : Type 0 where
  pub goes_on : GoesOn z w turns u c c.call v
  pub few : v.steps + steps_left c ≤ u.steps + given + 1000
  pub within : turns ≤ given

-- ---- where keys are apart

-- its write, if it is one, has met no key that begins its own, or that its own begins
abbrev pub stays_apart : Call → Type 0
stays_apart (call.Write m) = IsApart m
stays_apart (call.Seek m) = ⊤

abbrev pub StaysApart : Caller → Type 0
StaysApart c = stays_apart c.call

-- from the view v to the view w a check of its write, if it is one, succeeded, by whose notes its key begins that of a row, or that of a
-- row begins it
abbrev pub finds_overlap : Sizes → Caller → Call → View → View → Type 0
finds_overlap z c (call.Write m) v w = writes.FindsOverlap z c.room.row.key.items v w
finds_overlap z c (call.Seek m) v w = ⊥

abbrev pub FindsOverlap : Sizes → Caller → View → View → Type 0
FindsOverlap z c v w = finds_overlap z c c.call v w

-- none does so: no admitted key begins another, or there is no such check
abbrev pub NoneOverlaps : (List ℕ → Type 0) → Sizes → Caller → View → View → Type 0
NoneOverlaps A z c v w = AreApart A ⊎ (FindsOverlap z c v w → ⊥)

-- ---- how it ends

-- how it ended, if it has; a seek with what it has seen
abbrev pub outcome_of : Caller → Call → Option Outcome
outcome_of c (call.Write m) = option_map of_write (writes.ended_at m)
outcome_of c (call.Seek m) = option_map (λ o. of_seek o (seeks.seen_at m c.key.items c.hi c.path_buffer)) (seeks.ended_at m)

abbrev pub outcome_at : Caller → Option Outcome
outcome_at c = outcome_of c c.call

-- how often it restarted
abbrev pub restarts_of : Call → ℕ
restarts_of (call.Write m) = m.restarts
restarts_of (call.Seek m) = m.restarts

abbrev pub restarts_in : Caller → ℕ
restarts_in c = restarts_of c.call

-- nothing was told
abbrev pub is_refusal : Outcome → Bool
is_refusal outcome.New = false
is_refusal (outcome.Present value) = false
is_refusal (outcome.Gone value) = false
is_refusal outcome.Absent = false
is_refusal (outcome.Found value) = false
is_refusal (outcome.Seen seen) = false
is_refusal o = true

-- it will end as a refusal
abbrev pub refuses_by : Call → Type 0
refuses_by (call.Write m) = WillRefuse m
refuses_by (call.Seek m) = WillBeBusy m

abbrev pub Refuses : Caller → Type 0
Refuses c = refuses_by c.call

-- a look saw a range from the asked key on, to a bound after it and not past the asked one, and what it saw stood in the table of looks
pub record IsRangeSeen (z : Sizes) (lo : ArrayVec ℕ) (hi : Bound) (seen : Seen) : Type 0 where
  pub stood : IsSeen z lo.items hi seen
  pub after : IsBelow lo.items (bound_of seen.hi)
  pub within : (seen.hi ≡ hi) ⊎ (is_before seen.hi hi ≡ true)

abbrev pub SeesRange : Sizes → Wish → Outcome → Type 0
SeesRange z (Look lo hi) (outcome.Seen seen) = IsRangeSeen z lo hi seen
SeesRange z w o = ⊤

-- the ground of its outcome: what waited in limbo when it began, and how its machine ended, which restarted so often
pub record IsGround (z : Sizes) (j : Job) (turns restarts : ℕ) (u : View) (c : Caller) (o : Outcome) (v : View) : Type 0 where
  pub waited : List Place
  pub write : WriteOutcome
  pub is : o ≡ of_write write
  pub ground : HasGround z u j waited turns restarts write c.room (places_of c.limbo) v

abbrev pub HasGroundOf : Sizes → Wish → ℕ → ℕ → View → Caller → Outcome → View → Type 0
HasGroundOf z (Insert k value) turns restarts u c o v = IsGround z job.Insert turns restarts u c o v
HasGroundOf z (Remove k) turns restarts u c o v = IsGround z job.Remove turns restarts u c o v
HasGroundOf z (Get k) turns restarts u c o v = ⊤
HasGroundOf z (Look lo hi) turns restarts u c o v = ⊤

-- how many turns of a seek are left
abbrev pub turns_left_of : Call → ℕ
turns_left_of (call.Write m) = 0
turns_left_of (call.Seek m) = m.left

abbrev pub turns_left_in : Caller → ℕ
turns_left_in c = turns_left_of c.call

-- of the turns of a look so many are left: three at least were used where it has seen something, and all where it has not
pub record LeavesTurns (turns left : ℕ) (u : View) (o : Outcome) (v : View) : Type 0 where
  pub spent : HasSpent u turns left v
  pub some : (seen : Seen) → o ≡ outcome.Seen seen → left + 3 ≤ turns
  pub none : o ≡ outcome.Busy → left ≡ 0

abbrev pub HasTurnsLeft : Wish → ℕ → View → Caller → Outcome → View → Type 0
HasTurnsLeft (Look lo hi) turns u c o v = LeavesTurns turns (turns_left_in c) u o v
HasTurnsLeft (Insert k value) turns u c o v = ⊤
HasTurnsLeft (Remove k) turns u c o v = ⊤
HasTurnsLeft (Get k) turns u c o v = ⊤

-- of a get and of a look just the turns that were used are counted, and three steps of the pin and the close are not
abbrev pub CountsTurns : Wish → ℕ → View → View → Type 0
CountsTurns (Insert k value) turns u v = ⊤
CountsTurns (Remove k) turns u v = ⊤
CountsTurns (Get k) turns u v = v.steps ≡ u.steps + turns + 3
CountsTurns (Look lo hi) turns u v = v.steps ≡ u.steps + turns + 3

-- all turns were used
pub record HasUsed (z : Sizes) (w : Wish) (turns : ℕ) (u v : View) : Type 0 where
  pub used : writes.UsedTurns z u turns v
  pub counts : CountsTurns w turns u v

-- it restarted so often; the pass may call again, and made the event of the outcome, or none
pub record HasCalled (z : Sizes) (w : Wish) (given turns restarts : ℕ) (u : View) (c : Caller) (o : Outcome) (v : View) : Type 0 where
  pub may : may_end w o ≡ true
  pub tells : SeesEvent u v (told_by w o)
  pub caller : IsCaller z v c
  pub range : SeesRange z w o
  pub ground : HasGroundOf z w turns restarts u c o v
  pub failed : u.failures + restarts ≤ v.failures
  pub busy : o ≡ outcome.Busy → HasUsed z w turns u v
  pub left : HasTurnsLeft w turns u c o v
  pub steps : v.steps ≤ u.steps + given + 1000
