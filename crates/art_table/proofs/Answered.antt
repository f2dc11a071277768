-- What a call answers is an answer of its job.
use Rattle.std.proofs.Common.{◌≡◌, ℕ, true, Some, None, ap}
use Rattle.std.specs.Prelude.{Result, Ok, Err}
use Rattle.arrayvec.specs.ArrayVec.{ArrayVec}
use Rattle.art_change.specs.Calls as calls
use Rattle.art_change.specs.Calls.{may_end}
use Rattle.art_change.specs.declared.outcomes.Outcome.{Outcome as CallOutcome}
use Rattle.art_change.specs.declared.outcomes.Outcome.TheVariants as outcome
use Rattle.art_key.specs.declared.bounds.Bound.{Bound}
use Rattle.art_key.specs.declared.columns.Column.{Column}
use Rattle.art_key.specs.declared.faults.ValueFault.{ValueFault}
use Rattle.std.specs.Prelude.{List}
use Rattle.art_table.specs.Calls.{Ends, HasEnded}
use Rattle.art_model.specs.Rows.{Tuple}
use Rattle.art_table.specs.Jobs.{IsOf, job_fault, key_at, key_of, of_got, of_inserted, of_removed, result_of, seen_of}
use Rattle.art_table.specs.declared.calls.Inserted.TheVariants as inserted
use Rattle.art_table.specs.Tables.{schema_in}
use Rattle.art_table.specs.declared.faults.Fault.{Fault}
use Rattle.art_table.specs.declared.jobs.Job.{Job}
use Rattle.art_table.specs.declared.jobs.Job.TheVariants.{Insert, Remove, Get, Look}
use Rattle.art_table.specs.declared.jobs.Outcome.{Outcome}
use Rattle.art_table.specs.declared.jobs.Outcome.TheVariants.{New, Present, Removed, Absent, Found, Seen as saw}
use Rattle.art_table.specs.declared.passes.Pass.{Pass}
use Rattle.art_table.specs.declared.tables.Table.{Table}

-- a call whose tuple has no fault ended so
pub ends : (t : Table) (j : Job) (turns : ℕ) (p : Pass) (r : Result Outcome Fault) (q : Pass) → job_fault (schema_in t) j ≡ None → HasEnded t j turns turns p r q → Ends t j turns p r q
ends t j turns p r q stands e = record { fault = λ f is. cc; called = λ _. e }

-- one whose tuple has a fault was refused for it
pub refuses : (t : Table) (j : Job) (turns : ℕ) (p : Pass) (r : Result Outcome Fault) (q : Pass) (f : ValueFault) → job_fault (schema_in t) j ≡ Some f → ((g : ValueFault) → job_fault (schema_in t) j ≡ Some g → (r ≡ Err (Rattle.art_table.specs.declared.faults.Fault.TheVariants.Value g)) × (q ≡ p)) → Ends t j turns p r q
refuses t j turns p r q f is same = record { fault = same; called = λ none. cc }

-- an answer is the one
ok_of : Outcome → Result Outcome Fault → Outcome
ok_of d (Ok x) = x
ok_of d (Err e) = d

same_ok : (x y : Outcome) → ◌≡◌ {A = Result Outcome Fault} (Ok x) (Ok y) → x ≡ y
unfolding ok_of
same_ok x y is = ap (ok_of x) is

module _ (schema : List Column) (x : Outcome) where
  insert_answers : (k : ArrayVec ℕ) (value : ℕ) (o : CallOutcome) → may_end (calls.Insert k value) o ≡ true → Ok x ≡ result_of schema o → IsOf of_inserted x
  insert_answers k value outcome.New may is = (inserted.New, same_ok x New is)
  insert_answers k value (outcome.Present had) may is = (inserted.Present had, same_ok x (Present had) is)
  insert_answers k value (outcome.Gone had) may is = cc
  insert_answers k value outcome.Absent may is = cc
  insert_answers k value (outcome.Found had) may is = cc
  insert_answers k value (outcome.Seen s) may is = cc
  insert_answers k value outcome.Busy may is = cc
  insert_answers k value (outcome.Full pool) may is = cc
  insert_answers k value (outcome.Crowded b) may is = cc
  insert_answers k value (outcome.Exhausted c) may is = cc
  insert_answers k value outcome.Overlaps may is = cc

  remove_answers : (k : ArrayVec ℕ) (o : CallOutcome) → may_end (calls.Remove k) o ≡ true → Ok x ≡ result_of schema o → IsOf of_removed x
  remove_answers k outcome.New may is = cc
  remove_answers k (outcome.Present had) may is = cc
  remove_answers k (outcome.Gone had) may is = (Some had, same_ok x (Removed had) is)
  remove_answers k outcome.Absent may is = (None, same_ok x Absent is)
  remove_answers k (outcome.Found had) may is = cc
  remove_answers k (outcome.Seen s) may is = cc
  remove_answers k outcome.Busy may is = cc
  remove_answers k (outcome.Full pool) may is = cc
  remove_answers k (outcome.Crowded b) may is = cc
  remove_answers k (outcome.Exhausted c) may is = cc
  remove_answers k outcome.Overlaps may is = cc

  get_answers : (k : ArrayVec ℕ) (o : CallOutcome) → may_end (calls.Get k) o ≡ true → Ok x ≡ result_of schema o → IsOf of_got x
  get_answers k outcome.New may is = cc
  get_answers k (outcome.Present had) may is = cc
  get_answers k (outcome.Gone had) may is = cc
  get_answers k outcome.Absent may is = (None, same_ok x Absent is)
  get_answers k (outcome.Found had) may is = (Some had, same_ok x (Found had) is)
  get_answers k (outcome.Seen s) may is = cc
  get_answers k outcome.Busy may is = cc
  get_answers k (outcome.Full pool) may is = cc
  get_answers k (outcome.Crowded b) may is = cc
  get_answers k (outcome.Exhausted c) may is = cc
  get_answers k outcome.Overlaps may is = cc

  look_answers : (lo : ArrayVec ℕ) (hi : Bound) (o : CallOutcome) → may_end (calls.Look lo hi) o ≡ true → Ok x ≡ result_of schema o → IsOf saw x
  look_answers lo hi outcome.New may is = cc
  look_answers lo hi (outcome.Present had) may is = cc
  look_answers lo hi (outcome.Gone had) may is = cc
  look_answers lo hi outcome.Absent may is = cc
  look_answers lo hi (outcome.Found had) may is = cc
  look_answers lo hi (outcome.Seen s) may is = (seen_of schema s, same_ok x (saw (seen_of schema s)) is)
  look_answers lo hi outcome.Busy may is = cc
  look_answers lo hi (outcome.Full pool) may is = cc
  look_answers lo hi (outcome.Crowded b) may is = cc
  look_answers lo hi (outcome.Exhausted c) may is = cc
  look_answers lo hi outcome.Overlaps may is = cc

module _ (t : Table) (turns : ℕ) (p : Pass) (x : Outcome) (q : Pass) where
  pub insert_ends : (tuple : Tuple) (value : ℕ) → HasEnded t (Insert tuple value) turns turns p (Ok x) q → IsOf of_inserted x
  insert_ends tuple value e = insert_answers (schema_in t) x (key_of (schema_in t) tuple) value e.outcome e.grounds.may e.answered

  pub remove_ends : (tuple : Tuple) → HasEnded t (Remove tuple) turns turns p (Ok x) q → IsOf of_removed x
  remove_ends tuple e = remove_answers (schema_in t) x (key_of (schema_in t) tuple) e.outcome e.grounds.may e.answered

  pub get_ends : (tuple : Tuple) → HasEnded t (Get tuple) turns turns p (Ok x) q → IsOf of_got x
  get_ends tuple e = get_answers (schema_in t) x (key_of (schema_in t) tuple) e.outcome e.grounds.may e.answered

  pub look_ends : (lo hi : Bound) → HasEnded t (Look lo hi) turns turns p (Ok x) q → IsOf saw x
  look_ends lo hi e = look_answers (schema_in t) x (key_at lo) hi e.outcome e.grounds.may e.answered
