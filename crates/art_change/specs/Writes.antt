-- What a write asks, and what it knows between two of its steps: its opening, its attempts, its close.
use Rattle.std.specs.Prelude.{◌≡◌, ◌≢◌, ◌⊎◌, ℕ, ◌+◌, ◌-◌, ◌*◌, ◌<◌, ◌≤◌, ◌==◌, Bool, true, false, List, [], length, Option, Some, None, if◌then◌else◌, ⊤}
use Rattle.arrayvec.specs.ArrayVec.{ArrayVec}
use Rattle.art_attempt.specs.Attempts as attempts
use Rattle.art_attempt.specs.Asking as asking
use Rattle.art_attempt.specs.Attempts.{EndFits, EndsSo, GoesBy, HasHand, IsExhausted, IsFull, IsOverlap, IsRoom, absent, present, tries_left}
use Rattle.art_attempt.specs.Trying.{IsLimited, StillTries}
use Rattle.art_attempt.specs.declared.attempts.Case.{Case}
use Rattle.art_attempt.specs.declared.attempts.Room.{Room}
use Rattle.art_cell.specs.declared.cells.Link.{Link}
use Rattle.art_attempt.specs.declared.attempts.Attempt.{Attempt}
use Rattle.art_attempt.specs.declared.attempts.Ending.{Ending}
use Rattle.art_attempt.specs.declared.attempts.Ending.TheVariants as ending
use Rattle.art_attempt.specs.declared.attempts.Job.{Job}
use Rattle.art_attempt.specs.declared.attempts.Job.TheVariants as job
use Rattle.art_change.specs.declared.writes.WriteOutcome.{WriteOutcome as Outcome}
use Rattle.art_change.specs.declared.writes.WriteOutcome.TheVariants.{New, Present, Gone, Absent, Full, Exhausted, Overlaps, Busy, Crowded}
use Rattle.art_change.specs.declared.writes.Stage.{Stage}
use Rattle.art_change.specs.declared.writes.Stage.TheVariants as stage
use Rattle.art_change.specs.declared.writes.Write.{Write}
use Rattle.art_epoch.specs.Limbo.{IsLimbo}
use Rattle.art_epoch.specs.Pins.{MayPin}
use Rattle.art_epoch.specs.declared.limbo.Place.{Place}
use Rattle.art_epoch.specs.Exit as exits
use Rattle.art_epoch.specs.Exit.{ExitFits}
use Rattle.art_epoch.specs.Enter as enters
use Rattle.art_epoch.specs.Enter.{IsCrowded, IsOpened, MayOpen, EnterFits}
use Rattle.art_epoch.specs.declared.enter.Enter.{Enter}
use Rattle.art_epoch.specs.declared.exit.Exit.{Exit}
use Rattle.art_epoch.specs.declared.exit.Exit.TheVariants as exit
use Rattle.art_epoch.specs.Stocks.{first_in, hinted_at}
use Rattle.art_epoch.specs.declared.stocks.Stock.{Stock}
use Rattle.art_plan.specs.Insert.Puts.{inserted}
use Rattle.art_plan.specs.declared.insert.NewLeaf.{NewLeaf}
use Rattle.art_find.specs.declared.findings.Position.{Position}
use Rattle.art_find.specs.Verdicts.{HasOverlap}
use Rattle.art_step.specs.declared.actions.Action.{Action}
use Rattle.art_step.specs.declared.actions.Action.TheVariants.{Free}
use Rattle.art_step.specs.Acting as acting
use Rattle.art_step.specs.declared.actions.Answer.{Answer}
use Rattle.art_step.specs.declared.actions.Effects.{Effects}
use Rattle.art_plan.specs.declared.changes.Change.{Change}
use Rattle.art_plan.specs.Remove.Removals.{removed}
use Rattle.art_plan.specs.declared.remove.OldLeaf.{OldLeaf}
use Rattle.art_step.specs.Events.{MakesEvent, SeesEvent}
use Rattle.art_step.specs.Histories.{AreApart}
use Rattle.art_step.specs.Shows.{Shows}
use Rattle.art_step.specs.Steps.Check as check
use Rattle.art_step.specs.Tokens.{links_of}
use Rattle.art_step.specs.declared.deeds.Deed.{Deed}
use Rattle.art_step.specs.declared.views.Sizes.{Sizes}
use Rattle.art_step.specs.declared.views.Stamp.{Stamp}
use Rattle.art_step.specs.declared.views.View.{View}

-- ---- what it asks

abbrev pub asks_at : Stage → Room → List Place → Option Action
asks_at (stage.Enter e) r ps = enters.asks e ps
asks_at (stage.Trying t) r ps = attempts.asks t r
asks_at (stage.Exit x o) r ps = exits.asks x r.stock
asks_at (stage.Ended o) r ps = None

-- the next step, where ps wait in limbo
abbrev pub asks : Write → Room → List Place → Option Action
asks m r ps = asks_at m.stage r ps

-- how it will have ended, once that is known
abbrev pub outcome_in : Stage → Option Outcome
outcome_in (stage.Exit x o) = Some o
outcome_in (stage.Ended o) = Some o
outcome_in s = None

abbrev pub outcome_at : Stage → Option Outcome
outcome_at (stage.Ended o) = Some o
outcome_at s = None

-- how it ended, if it has
abbrev pub ended_at : Write → Option Outcome
ended_at m = outcome_at m.stage

-- its opening is made
abbrev pub HasEntered : Stage → Type 0
HasEntered (stage.Enter e) = ⊥
HasEntered (stage.Trying t) = ⊤
HasEntered (stage.Exit x o) = ⊤
HasEntered (stage.Ended o) = ⊤

-- it stands in an attempt, or has ended: no step of its opening or of its close comes next
abbrev pub HasNoFrame : Stage → Type 0
HasNoFrame (stage.Enter e) = ⊥
HasNoFrame (stage.Trying t) = ⊤
HasNoFrame (stage.Exit x o) = ⊥
HasNoFrame (stage.Ended o) = ⊤

-- ---- what its steps bring about

-- of an attempt what that has settled or planned; a step of the frame brings nothing about
abbrev pub brings_at : Stage → Room → Action → Option Effects
brings_at (stage.Trying t) r a = asking.given (attempts.deed_at t r) r.change a
brings_at s r a = None

-- the step may be made
abbrev pub IsAllowed : Sizes → Write → Room → View → Action → Type 0
IsAllowed z m r v a = acting.IsAllowed z (brings_at m.stage r a) v a

-- it was made, with this answer
abbrev pub Answers : Sizes → Write → Room → Action → Answer → View → View → Type 0
Answers z m r a answer v w = acting.Answers z (brings_at m.stage r a) a answer v w

-- ---- where searches begin

-- the number that goes back to its pool by a step of the opening
abbrev pub freed_by : Action → Option Link
freed_by (Free d) = Some d
freed_by a = None

-- it went back: the next search of its pool begins at its word
abbrev pub given : Option Link → Room → Room
given (Some d) r = record r { stock = hinted_at d r.stock }
given None r = r

-- ---- how many steps are left

-- a close takes at most seven
abbrev pub left_at : Stage → ℕ → Room → List Place → ℕ
left_at (stage.Enter e) left r ps = enters.steps_left e ps + tries_left left + 7
left_at (stage.Trying t) left r ps = attempts.steps_left left t + 7
left_at (stage.Exit x o) left r ps = exits.steps_left x r.stock
left_at (stage.Ended o) left r ps = 0

-- at most so many steps come, where ps wait in limbo
abbrev pub steps_left : Write → Room → List Place → ℕ
steps_left m r ps = left_at m.stage m.left r ps

-- so many in all, of so many passes, in so many turns
abbrev pub most_steps : ℕ → ℕ → List Place → ℕ
most_steps turns passes ps = turns + passes + length ps + 592

-- ---- how it ends

-- what waits after the change with a label: the words of what it unlinked, where it was made
abbrev pub gone_by : Outcome → Change → List ℕ
gone_by New c = c.effects.unlinked.items
gone_by (Gone value) c = c.effects.unlinked.items
gone_by o c = []

-- a refusal at the last turn is none: the turns were used
abbrev pub or_busy : ℕ → Outcome → Outcome
or_busy left o = if left == 0 then Busy else o

-- how the write ends by how an attempt did, if it does not try anew
abbrev pub outcome_of : ℕ → Ending → Option Outcome
outcome_of left ending.New = Some New
outcome_of left (ending.Present stands) = Some (Present stands)
outcome_of left (ending.Gone value) = Some (Gone value)
outcome_of left ending.Absent = Some Absent
outcome_of left (ending.Full pool) = Some (or_busy left (Full pool))
outcome_of left (ending.Exhausted c) = Some (Exhausted c)
outcome_of left ending.Overlaps = Some (or_busy left Overlaps)
outcome_of left ending.Restart = None

-- a row with this key and this value, and a leaf that had them
abbrev pub row_of : ArrayVec ℕ → ℕ → NewLeaf
row_of k value = record { number = 0; key = k; value = value }

abbrev pub leaf_of : ArrayVec ℕ → ℕ → OldLeaf
leaf_of k value = record { number = 0; key = k; value = value }

-- its event, if it made one: of a write of this key, and of this value where a row comes
abbrev pub told_by : Outcome → Job → ArrayVec ℕ → ℕ → Option Deed
told_by New job.Insert k value = Some (inserted (row_of k value))
told_by (Present stands) job.Insert k value = Some (present (row_of k value) stands)
told_by (Gone had) job.Remove k value = Some (removed (leaf_of k had))
told_by Absent job.Remove k value = Some (absent (row_of k value))
told_by o j k value = None

-- how it stands when the last attempt has ended, of a pass that had the view u when that began; so many turns are left. An end speaks of a
-- place and a case; that no turn is left is said of none
abbrev pub OutcomeBy : Sizes → View → Job → Room → Outcome → ℕ → View → Type 0
OutcomeBy z u j r New left v = EndFits z u j r ending.New v
OutcomeBy z u j r (Present stands) left v = EndFits z u j r (ending.Present stands) v
OutcomeBy z u j r (Gone value) left v = EndFits z u j r (ending.Gone value) v
OutcomeBy z u j r Absent left v = EndFits z u j r ending.Absent v
OutcomeBy z u j r (Full pool) left v = EndFits z u j r (ending.Full pool) v
OutcomeBy z u j r (Exhausted x) left v = EndFits z u j r (ending.Exhausted x) v
OutcomeBy z u j r Overlaps left v = EndFits z u j r ending.Overlaps v
OutcomeBy z u j r Busy left v = EndsSo z u r v × (left ≡ 0)
OutcomeBy z u j r (Crowded b) left v = ⊥

-- ---- what it knows, of a pass that had the view u when it began, where ps waited

-- the row is the same, but for the number that its leaf has
pub record SameRow (r s : Room) : Type 0 where
  pub key : s.row.key ≡ r.row.key
  pub value : s.row.value ≡ r.row.value

pub record MayWrite (z : Sizes) (u : View) (own : ℕ) (ps : List Place) (r : Room) : Type 0 where
  pub frame : MayOpen z u own z.passes ps
  pub room : IsRoom z r
  pub has : HasHand z u r

-- it was not tried yet: nothing is held, and all turns are left
pub record IsUntried (z : Sizes) (u : View) (m : Write) (r : Room) (v : View) : Type 0 where
  pub free : u.held ≡ []
  pub has : HasHand z u r
  pub later : u.steps ≤ v.steps
  pub full : m.left ≡ m.turns
  pub fresh : m.restarts ≡ 0

pub record IsEntering (z : Sizes) (u : View) (ps : List Place) (m : Write) (e : Enter) (r : Room) (qs : List Place) (v : View) : Type 0 where
  pub enter : EnterFits z u ps e qs v
  pub going : enters.ended_at e ≡ None
  pub untried : IsUntried z u m r v

-- the pass was pinned, and no step was taken back
pub record WasOpened (z : Sizes) (u opened : View) (ps qs : List Place) : Type 0 where
  pub frame : IsOpened z u opened ps qs
  pub later : u.steps ≤ opened.steps

-- an attempt began at the view v, of a pass that had the view u when it was pinned: each of the restarts before it was a failure at least,
-- and in a table within its limits few steps were made for each
pub record HasBegun (z : Sizes) (u : View) (restarts : ℕ) (v : View) : Type 0 where
  pub base : StillTries u v
  pub failed : u.failures + restarts ≤ v.failures
  pub few : IsLimited z → v.steps + 30000 * u.failures ≤ u.steps + 30000 * v.failures

-- the pass was pinned, and attempts go on; so many turns are left at least
pub record IsTrying (z : Sizes) (u : View) (ps : List Place) (m : Write) (t : Attempt) (r : Room) (qs : List Place) (v : View) : Type 0 where
  pub opened : View
  pub began : View
  pub frame : WasOpened z u opened ps qs
  pub begun : HasBegun z opened m.restarts began
  pub job : t.job ≡ m.job
  pub fits : attempts.Fits z began t r v
  pub going : attempts.ended_at t ≡ None
  pub counted : opened.steps + m.turns ≤ v.steps + m.left

-- a turn is left, where the attempt holds nothing
abbrev pub HasTurn : ℕ → Attempt → Type 0
HasTurn left t = attempts.is_free t ≡ true → 0 < left

-- the last attempt has ended as the outcome says, when these numbers were in hand and those places waited
pub record IsExiting (z : Sizes) (u : View) (ps : List Place) (m : Write) (x : Exit) (o : Outcome) (r : Room) (qs : List Place) (v : View)
    : Type 0 where
  pub opened : View
  pub began : View
  pub ended : View
  pub stock : Stock
  pub waiting : List Place
  pub frame : WasOpened z u opened ps waiting
  pub begun : HasBegun z opened m.restarts began
  pub outcome : OutcomeBy z began m.job (record r { stock = stock }) o m.left ended
  pub later : ended.steps ≤ v.steps
  pub counted : opened.steps + m.turns ≤ ended.steps + m.left
  pub fits : ExitFits z r.row.key.items r.row.value ended waiting (links_of (gone_by o r.change)) x qs r.stock v

-- limbo was crowded, or the close has ended
abbrev pub IsDone : Sizes → View → List Place → Outcome → Write → Room → List Place → View → Type 0
IsDone z u ps (Crowded b) m r qs v = IsCrowded z u v ps qs b × (u.held ≡ []) × HasHand z u r × (m.restarts ≡ 0)
IsDone z u ps o m r qs v = IsExiting z u ps m exit.Ended o r qs v

abbrev pub StageFits : Sizes → View → List Place → Stage → Write → Room → List Place → View → Type 0
StageFits z u ps (stage.Enter e) m r qs v = IsEntering z u ps m e r qs v
StageFits z u ps (stage.Trying t) m r qs v = IsTrying z u ps m t r qs v × HasTurn m.left t
StageFits z u ps (stage.Exit x o) m r qs v = IsExiting z u ps m x o r qs v × (exits.is_ended x ≡ false)
StageFits z u ps (stage.Ended o) m r qs v = IsDone z u ps o m r qs v

pub record Fits (z : Sizes) (u : View) (ps : List Place) (m : Write) (r : Room) (qs : List Place) (v : View) : Type 0 where
  pub room : IsRoom z r
  pub stage : StageFits z u ps m.stage m r qs v

-- ---- a write that is given up

-- nothing was told
abbrev pub is_refusal : Outcome → Bool
is_refusal New = false
is_refusal (Present stands) = false
is_refusal (Gone value) = false
is_refusal Absent = false
is_refusal o = true

-- it will end as a refusal: it has come to one, or has no turns
abbrev pub refuses_at : Stage → ℕ → Type 0
refuses_at (stage.Enter e) left = left ≡ 0
refuses_at (stage.Trying t) left = ⊥
refuses_at (stage.Exit x o) left = is_refusal o ≡ true
refuses_at (stage.Ended o) left = is_refusal o ≡ true

abbrev pub WillRefuse : Write → Type 0
WillRefuse m = refuses_at m.stage m.left

-- the turns that it has used where it is given up
abbrev pub turns_used_at : Stage → Write → ℕ
turns_used_at (stage.Enter e) m = 0
turns_used_at (stage.Trying t) m = m.turns - m.left
turns_used_at s m = m.turns

abbrev pub turns_used : Write → ℕ
turns_used m = turns_used_at m.stage m

-- the pass holds a cell, or has made an event since it had the view u
abbrev pub HoldsOrTold : View → View → Type 0
HoldsOrTold u v = (v.held ≢ []) ⊎ ((what : Deed) × MakesEvent u v what)

-- ---- what a client sees

-- an idle pass that holds nothing and has nothing in hand, where ps wait in limbo
pub record IsReady (z : Sizes) (u : View) (own : ℕ) (ps : List Place) (s : Stock) : Type 0 where
  pub frame : MayOpen z u own z.passes ps
  pub hand : u.hand ≡ []
  pub stock : first_in s ≡ None

-- a pass that made no step yet
pub record IsFresh (z : Sizes) (u : View) (own : ℕ) : Type 0 where
  pub own_is : own ≡ u.pass
  pub inside : own < z.passes
  pub may : MayPin u
  pub hand : u.hand ≡ []
  pub limbo : u.limbo ≡ []

-- why it ended so, of checks after the view u, by what the pass has at the end: the change that was made is the one that what was read and
-- found tells; a refusal has its cause. Of an answer that a check told, its event says all; turns are counted elsewhere
abbrev pub IsCause : Sizes → View → Job → Position → Case → Room → Outcome → View → Type 0
IsCause z u j t c r New v = GoesBy z u t c r v
IsCause z u j t c r (Gone value) v = GoesBy z u t c r v
IsCause z u j t c r (Full pool) v = IsFull z u t r pool v
IsCause z u j t c r (Exhausted x) v = IsExhausted z u j t c r x v
IsCause z u j t c r Overlaps v = IsOverlap z u t r v
IsCause z u j t c r (Present stands) v = ⊤
IsCause z u j t c r Absent v = ⊤
IsCause z u j t c r Busy v = ⊤
IsCause z u j t c r (Crowded b) v = ⊤

-- by where the key stood for its last attempt, and by the case of that, where its end speaks of them
abbrev pub HasCause : (z : Sizes) (u : View) (ps : List Place) (o : Outcome) (m : Write) (r : Room) (qs : List Place) (v : View) →
    IsDone z u ps o m r qs v → Type 0
HasCause z u ps New m r qs v done = IsCause z u m.job done.outcome.position done.outcome.case r New v
HasCause z u ps (Gone value) m r qs v done = IsCause z u m.job done.outcome.position done.outcome.case r (Gone value) v
HasCause z u ps (Full pool) m r qs v done = IsCause z u m.job done.outcome.position done.outcome.case r (Full pool) v
HasCause z u ps (Exhausted x) m r qs v done = IsCause z u m.job done.outcome.position done.outcome.case r (Exhausted x) v
HasCause z u ps Overlaps m r qs v done = IsCause z u m.job done.outcome.position done.outcome.case r Overlaps v
HasCause z u ps (Present stands) m r qs v done = ⊤
HasCause z u ps Absent m r qs v done = ⊤
HasCause z u ps Busy m r qs v done = ⊤
HasCause z u ps (Crowded b) m r qs v done = ⊤

-- it ended so, with what its outcome came of: as a machine of this job has it that was run to its end, with these turns and restarts
pub record HasGround (z : Sizes) (u : View) (j : Job) (ps : List Place) (turns restarts : ℕ) (o : Outcome) (r : Room) (qs : List Place)
    (v : View) : Type 0 where
  pub machine : Write
  pub job_is : machine.job ≡ j
  pub turns_are : machine.turns ≡ turns
  pub restarts_are : machine.restarts ≡ restarts
  pub outcome_is : ended_at machine ≡ Some o
  pub done : IsDone z u ps o machine r qs v
  pub cause : HasCause z u ps o machine r qs v done

-- so many steps were counted as there were turns, and in a table within its limits these are few beside the failures
pub record UsedTurns (z : Sizes) (u : View) (turns : ℕ) (v : View) : Type 0 where
  pub counted : u.steps + turns ≤ v.steps
  pub few : IsLimited z → turns + 30000 * u.failures < 30000 * (v.failures + 1)

-- each restart was a failure at least; and the turns were used, where that is the outcome
pub record HasCounted (z : Sizes) (u : View) (turns restarts : ℕ) (o : Outcome) (v : View) : Type 0 where
  pub failed : u.failures + restarts ≤ v.failures
  pub busy : o ≡ Busy → UsedTurns z u turns v

-- this answer to its attempt is why it tries anew
abbrev pub restarts_by : Stage → Answer → Type 0
restarts_by (stage.Trying t) answer = attempts.IsRestartBy t.stage answer
restarts_by s answer = ⊥

-- it did not try anew, or this answer was why
abbrev pub RestartsBy : Write → Write → Answer → Type 0
RestartsBy m next answer = (next.restarts ≡ m.restarts) ⊎ restarts_by m.stage answer

-- ---- an overlap

-- the outcome, once it is known, is not that a key begins the other
abbrev pub IsApart : Write → Type 0
IsApart m = outcome_in m.stage ≢ Some Overlaps

-- from the view v to the view w a check succeeded, by whose notes the key k begins that of a row, or that of a row begins it
pub record FindsOverlap (z : Sizes) (k : List ℕ) (v w : View) : Type 0 where
  pub stamp : Stamp
  pub shows : Shows z v stamp (λ s. HasOverlap s k)
  pub checked : check.Unchanged z v w stamp None

-- none does so: no admitted key begins another, or there is no such check
abbrev pub NoneOverlaps : (List ℕ → Type 0) → Sizes → List ℕ → View → View → Type 0
NoneOverlaps A z k v w = AreApart A ⊎ (FindsOverlap z k v w → ⊥)

-- it is the same write after some of its steps: of this job, in these turns, of this key and value; it ends as a refusal where it had to
-- before, and no key was found to begin the other
pub record IsSameWrite (m : Write) (r : Room) (n : Write) (s : Room) : Type 0 where
  pub job : n.job ≡ m.job
  pub turns : n.turns ≡ m.turns
  pub key : SameRow r s
  pub refuses : WillRefuse m → WillRefuse n
  pub apart : IsApart m → IsApart n

-- by this answer its attempt ends so
abbrev pub overlaps_by : Stage → Answer → Type 0
overlaps_by (stage.Trying t) answer = attempts.IsOverlapBy t answer
overlaps_by s answer = ⊥

-- that became the outcome only where this answer was why
abbrev pub OverlapsBy : Write → Write → Answer → Type 0
OverlapsBy m next answer = outcome_in next.stage ≡ Some Overlaps → (outcome_in m.stage ≡ Some Overlaps) ⊎ overlaps_by m.stage answer

-- ---- what is answered

-- the pass is idle and holds nothing; limbo is as the code has it; it made the event of the outcome, or none
pub record HasAnswered (z : Sizes) (u : View) (j : Job) (o : Outcome) (k : ArrayVec ℕ) (value : ℕ) (qs : List Place) (v : View)
    : Type 0 where
  pub idle : v.pin ≡ 0
  pub free : v.held ≡ []
  pub limbo : IsLimbo qs [] v.limbo
  pub tells : SeesEvent u v (told_by o j k value)
