-- What a call does, as its pass has seen it.
use Rattle.std.specs.Prelude.{◌≡◌, ◌≢◌, ℕ, ◌+◌, ◌≤◌, List, [], ◌∷◌, ◌++◌, length, Option, Some, None, Result, Ok, Err, ⊤}
use Rattle.art_change.specs.Calls.{HasCalled, IsCalling, StaysApart}
use Rattle.art_change.specs.declared.outcomes.Outcome.{Outcome as CallOutcome}
use Rattle.art_change.specs.declared.outcomes.Outcome.TheVariants.{Overlaps}
use Rattle.art_key.specs.Histories.{IsLegal}
use Rattle.art_key.specs.declared.events.Deed.{Deed}
use Rattle.art_key.specs.declared.events.Event.{Event}
use Rattle.art_key.specs.declared.faults.ValueFault.{ValueFault}
use Rattle.art_shared.specs.SamePass.{SamePass}
use Rattle.art_shared.specs.Tables as shared
use Rattle.art_look.specs.Sought.{HasSpent}
use Rattle.art_table.specs.Jobs.{HasRange, IsRange, job_fault, result_of, told_by, wish_of}
use Rattle.art_table.specs.Tables.{IsPassOf, caller_of, number_of, own_of, schema_in, seen_by, sizes_in, turns_left_by, view_of}
use Rattle.art_table.specs.declared.attempts.Attempt.{Attempt}
use Rattle.art_table.specs.declared.faults.Fault.{Fault}
use Rattle.art_table.specs.declared.faults.Fault.TheVariants.{Busy, Value}
use Rattle.art_table.specs.declared.jobs.Job.{Job}
use Rattle.art_table.specs.declared.jobs.Job.TheVariants.{Get, Insert, Look, Remove}
use Rattle.art_table.specs.declared.jobs.Outcome.{Outcome}
use Rattle.art_table.specs.declared.passes.Pass.{Pass}
use Rattle.art_table.specs.declared.tables.Table.{Table}

-- ---- what it adds to what was seen

-- the pass has seen what it had seen, what others did between, and this event of its own; there are no other events of its own
pub record Makes (t : Table) (p q : Pass) (what : Deed) : Type 0 where
  pub between : List Event
  pub seen : seen_by t q ≡ (seen_by t p ++ between) ++ record { pass = number_of p; what = what } ∷ []
  pub own : own_of q ≡ own_of p ++ length (seen_by t p ++ between) ∷ []

-- this event, or nothing
abbrev pub Sees : Table → Pass → Pass → Option Deed → Type 0
Sees t p q None = (seen_by t q ≡ seen_by t p) × (own_of q ≡ own_of p)
Sees t p q (Some what) = Makes t p q what

-- ---- a call

-- of the turns of a look so many are left: three at least were used where it is answered, and all where it is refused, as busy
pub record LeavesTurns (turns left : ℕ) (p : Pass) (r : Result Outcome Fault) (q : Pass) : Type 0 where
  pub spent : HasSpent (view_of p) turns left (view_of q)
  pub some : (o : Outcome) → r ≡ Ok o → left + 3 ≤ turns
  pub none : (f : Fault) → r ≡ Err f → (f ≡ Busy) × (left ≡ 0)

abbrev pub HasTurnsLeft : Job → ℕ → Pass → Result Outcome Fault → Pass → Type 0
HasTurnsLeft (Look lo hi) turns p r q = LeavesTurns turns (turns_left_by q) p r q
HasTurnsLeft (Insert t value) turns p r q = ⊤
HasTurnsLeft (Remove t) turns p r q = ⊤
HasTurnsLeft (Get t) turns p r q = ⊤

-- a call by the pass p that ended so, in so many turns: the pass is q then
pub record HasEnded (t : Table) (j : Job) (given turns : ℕ) (p : Pass) (r : Result Outcome Fault) (q : Pass) : Type 0 where
  pub pass : IsPassOf t q
  pub same : SamePass p.seat q.seat
  pub legal : IsLegal (schema_in t) (seen_by t q)
  pub sees : Sees t p q (told_by j r)
  pub range : HasRange j r
  pub left : HasTurnsLeft j turns p r q
  pub steps : (view_of q).steps ≤ (view_of p).steps + given + 1000
  pub outcome : CallOutcome
  pub apart : outcome ≢ Overlaps
  pub restarts : ℕ
  pub answered : r ≡ result_of (schema_in t) outcome
  pub grounds : HasCalled (sizes_in t) (wish_of (schema_in t) j) given turns restarts (view_of p) (caller_of q) outcome (view_of q)

-- the tuple's fault comes first, and changes nothing; else the call was made
pub record Ends (t : Table) (j : Job) (turns : ℕ) (p : Pass) (r : Result Outcome Fault) (q : Pass) : Type 0 where
  pub fault : (f : ValueFault) → job_fault (schema_in t) j ≡ Some f → (r ≡ Err (Value f)) × (q ≡ p)
  pub called : job_fault (schema_in t) j ≡ None → HasEnded t j turns turns p r q

-- ---- a call that is under way

-- the pass p began the call, and is a by now; its turns are these, of so many that were given
pub record IsUnderWay (t : Table) (j : Job) (given turns : ℕ) (p a : Pass) : Type 0 where
  pub began : IsPassOf t p
  pub stands : job_fault (schema_in t) j ≡ None
  pub range : IsRange j
  pub of : shared.IsPassOf t.shared a.seat
  pub same : SamePass p.seat a.seat
  pub calling : IsCalling (sizes_in t) (wish_of (schema_in t) j) given turns (view_of p) (caller_of a) (view_of a)
  pub apart : StaysApart (caller_of a)

-- an attempt of the pass p: it was refused for its tuple before any step, or its call is under way
pub record IsAttempt (t : Table) (j : Job) (turns : ℕ) (p : Pass) (a : Attempt) : Type 0 where
  pub began : IsPassOf t p
  pub fault : a.refused ≡ job_fault (schema_in t) j
  pub refused : (f : ValueFault) → a.refused ≡ Some f → a.pass ≡ p
  pub goes_on : a.refused ≡ None → IsUnderWay t j turns turns p a.pass
