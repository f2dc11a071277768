-- What a call is asked for, and what it answers, in keys and in rows.
use Rattle.std.specs.Prelude.{◌≡◌, ◌⊎◌, ℕ, List, [], true, Option, Some, None, Result, Ok, Err, ⊤}
use Rattle.std.specs.Option.{option_map}
use Rattle.arrayvec.specs.ArrayVec.{ArrayVec}
use Rattle.art_change.specs.Calls as calls
use Rattle.art_change.specs.Calls.{Wish}
use Rattle.art_change.specs.declared.outcomes.Outcome.{Outcome as CallOutcome}
use Rattle.art_change.specs.declared.outcomes.Outcome.TheVariants as outcome
use Rattle.art_key.specs.Columns.{tuple_fault}
use Rattle.art_key.specs.Bounds.{is_before}
use Rattle.art_key.specs.Spelling.{spelling}
use Rattle.art_key.specs.declared.bounds.Bound.{Bound}
use Rattle.art_key.specs.declared.bounds.Bound.TheVariants.{At, End}
use Rattle.art_key.specs.declared.columns.Column.{Column}
use Rattle.art_key.specs.declared.events.Deed.{Deed}
use Rattle.art_key.specs.declared.events.Deed.TheVariants as deed
use Rattle.art_key.specs.declared.faults.ValueFault.{ValueFault}
use Rattle.art_look.specs.declared.looks.Seen.{Seen as KeySeen}
use Rattle.art_model.specs.declared.commands.Command.TheVariants as command
use Rattle.art_model.specs.declared.commands.Reply.TheVariants as reply
use Rattle.art_model.specs.Rows.{Tuple}
use Rattle.art_table.specs.declared.calls.Inserted.{Inserted}
use Rattle.art_table.specs.declared.calls.Inserted.TheVariants as inserted
use Rattle.art_table.specs.declared.faults.Fault.{Fault}
use Rattle.art_table.specs.declared.faults.Fault.TheVariants.{Busy, Full, Crowded, Exhausted}
use Rattle.art_table.specs.declared.jobs.Job.{Job}
use Rattle.art_table.specs.declared.jobs.Job.TheVariants.{Insert, Remove, Get, Look}
use Rattle.art_table.specs.declared.jobs.Outcome.{Outcome}
use Rattle.art_table.specs.declared.jobs.Outcome.TheVariants.{New, Present, Removed, Absent, Found, Seen as saw}
use Rattle.art_table.specs.declared.jobs.Seen.{Seen}
use Rattle.art_typed.specs.Typed.{row_of}

-- ---- what it is asked for

-- what is wrong with its tuple
abbrev pub job_fault : List Column → Job → Option ValueFault
job_fault schema (Insert t value) = tuple_fault schema t.items
job_fault schema (Remove t) = tuple_fault schema t.items
job_fault schema (Get t) = tuple_fault schema t.items
job_fault schema (Look lo hi) = None

-- a look's range is one
abbrev pub IsRange : Job → Type 0
IsRange (Look lo hi) = is_before lo hi ≡ true
IsRange j = ⊤

-- the key that spells the tuple
abbrev pub key_of : List Column → Tuple → ArrayVec ℕ
key_of schema t = record { items = spelling schema t.items }

abbrev pub key_at : Bound → ArrayVec ℕ
key_at (At k) = k
key_at End = record { items = [] }

-- the same, of keys
abbrev pub wish_of : List Column → Job → Wish
wish_of schema (Insert t value) = calls.Insert (key_of schema t) value
wish_of schema (Remove t) = calls.Remove (key_of schema t)
wish_of schema (Get t) = calls.Get (key_of schema t)
wish_of schema (Look lo hi) = calls.Look (key_at lo) hi

-- ---- what it answers

abbrev pub seen_of : List Column → KeySeen → Seen
seen_of schema s = record { lo = At s.lo; hi = s.hi; row = option_map (row_of schema) s.row }

-- a call of keys that ended so; that a key begins another is no end of a call of one schema
abbrev pub result_of : List Column → CallOutcome → Result Outcome Fault
result_of schema outcome.New = Ok New
result_of schema (outcome.Present value) = Ok (Present value)
result_of schema (outcome.Gone value) = Ok (Removed value)
result_of schema outcome.Absent = Ok Absent
result_of schema (outcome.Found value) = Ok (Found value)
result_of schema (outcome.Seen s) = Ok (saw (seen_of schema s))
result_of schema outcome.Busy = Err Busy
result_of schema (outcome.Full pool) = Err (Full pool)
result_of schema (outcome.Crowded b) = Err (Crowded b)
result_of schema (outcome.Exhausted c) = Err (Exhausted c)
result_of schema outcome.Overlaps = Err Busy

-- its event, if it is answered
abbrev pub told_of : Job → Outcome → Option Deed
told_of (Insert t value) New = Some (deed.Done (command.Insert t value) reply.Inserted)
told_of (Insert t value) (Present stands) = Some (deed.Done (command.Insert t value) (reply.Present stands))
told_of (Insert t value) o = None
told_of (Remove t) (Removed had) = Some (deed.Done (command.Remove t) (reply.Removed had))
told_of (Remove t) Absent = Some (deed.Done (command.Remove t) reply.Absent)
told_of (Remove t) o = None
told_of (Get t) (Found value) = Some (deed.Done (command.Get t) (reply.Found value))
told_of (Get t) Absent = Some (deed.Done (command.Get t) reply.Absent)
told_of (Get t) o = None
told_of (Look lo hi) (saw s) = Some (deed.Look s.lo s.hi s.row)
told_of (Look lo hi) o = None

-- and none where it is refused
abbrev pub told_by : Job → Result Outcome Fault → Option Deed
told_by j (Ok o) = told_of j o
told_by j (Err f) = None

-- the range of a look begins where it was asked to, and ends after that and not past where it was asked to
pub record Within (lo hi : Bound) (s : Seen) : Type 0 where
  pub begins : s.lo ≡ lo
  pub after : is_before lo s.hi ≡ true
  pub within : (s.hi ≡ hi) ⊎ (is_before s.hi hi ≡ true)

abbrev pub HasRange : Job → Result Outcome Fault → Type 0
HasRange (Look lo hi) (Ok (saw s)) = Within lo hi s
HasRange j r = ⊤

-- ---- what single calls answer, as outcomes

abbrev pub with_result : {A : Type 0} → (A → Outcome) → Result A Fault → Result Outcome Fault
with_result f (Ok a) = Ok (f a)
with_result f (Err e) = Err e

abbrev pub of_inserted : Inserted → Outcome
of_inserted inserted.New = New
of_inserted (inserted.Present stands) = Present stands

abbrev pub of_removed : Option ℕ → Outcome
of_removed (Some had) = Removed had
of_removed None = Absent

abbrev pub of_got : Option ℕ → Outcome
of_got (Some value) = Found value
of_got None = Absent

-- it is one of these
abbrev pub IsOf : {A : Type 0} → (A → Outcome) → Outcome → Type 0
IsOf {A = A} f o = (a : A) × (o ≡ f a)
