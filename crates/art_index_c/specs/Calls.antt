-- What a call of C does.
use Rattle.std.specs.Prelude.{◌≡◌, ℕ, List, Option, Some, None, Result, Ok, Err}
use Rattle.art_handle.specs.ArtTable.Calls.{Ends}
use Rattle.art_handle.specs.ArtTable.Jobs.{of_got, of_inserted, of_removed, with_result}
use Rattle.art_handle.specs.ArtTable.declared.calls.Inserted.{Inserted}
use Rattle.art_handle.specs.ArtTable.declared.faults.Fault.{Fault}
use Rattle.art_handle.specs.ArtTable.declared.faults.Fault.TheVariants.{Value}
use Rattle.art_handle.specs.ArtTable.declared.jobs.Job.{Job}
use Rattle.art_handle.specs.ArtTable.declared.jobs.Job.TheVariants as job
use Rattle.art_handle.specs.ArtTable.declared.jobs.Outcome.{Outcome}
use Rattle.art_handle.specs.Handles.{IsOfItsTable, pass_of, table_of}
use Rattle.art_handle.specs.declared.handles.Handle.{Handle}
use Rattle.art_index_c.specs.Columns.{tuple_of}
use Rattle.art_index_c.specs.declared.columns.Column.{Column}
use Rattle.art_index_c.specs.Statuses.{found_status, inserted_status, word_after_found, word_after_insert}
use Rattle.art_key.specs.declared.faults.ValueFault.{ValueFault}
use Rattle.art_model.specs.Rows.{Tuple}

-- the most turns of a call
abbrev pub turns : ℕ
turns = 1000000

-- ---- whose call it is

-- A handle was held: it did this, and what it is then is held again. Or none was, and none is, and this is all that came of it.
abbrev pub OnHeld : (Handle → Handle → Type 0) → Type 0 → Option Handle → Option Handle → Type 0
OnHeld Does Else (Some h) (Some k) = Does h k
OnHeld Does Else (Some h) None = ⊥
OnHeld Does Else None (Some k) = ⊥
OnHeld Does Else None None = Else

-- no handle is held: the status says so, and the word is as it was
abbrev pub HasNoPass : ℕ → ℕ → ℕ → Type 0
HasNoPass status word word_after = (status ≡ 3) × (word_after ≡ word)

-- ---- a call with the tuple of columns

-- The handle h was to make a call with the tuple of the columns, which ended so: it is k then. Columns that are no tuple come first, and
-- change nothing; else the call was made.
pub record Calls {A : Type 0} (h : Handle) (columns : List Column) (job : Tuple → Job) (outcome : A → Outcome) (r : Result A Fault)
    (k : Handle) : Type 0 where
  pub own : IsOfItsTable k
  pub table : table_of k ≡ table_of h
  pub refused : (f : ValueFault) → tuple_of columns ≡ Err f → (r ≡ Err (Value f)) × (k ≡ h)
  pub called : (t : Tuple) → tuple_of columns ≡ Ok t → Ends (table_of h) (job t) turns (pass_of h) (with_result outcome r) (pass_of k)

-- an insert: it answered this status, and left this word
pub record Inserts (h : Handle) (columns : List Column) (value status word word_after : ℕ) (k : Handle) : Type 0 where
  pub told : Result Inserted Fault
  pub calls : Calls h columns (λ t. job.Insert t value) of_inserted told k
  pub status_is : status ≡ inserted_status told
  pub word_is : word_after ≡ word_after_insert told word

-- a removal
pub record Removes (h : Handle) (columns : List Column) (status word word_after : ℕ) (k : Handle) : Type 0 where
  pub told : Result (Option ℕ) Fault
  pub calls : Calls h columns (λ t. job.Remove t) of_removed told k
  pub status_is : status ≡ found_status told
  pub word_is : word_after ≡ word_after_found told word

-- a get
pub record Gets (h : Handle) (columns : List Column) (status word word_after : ℕ) (k : Handle) : Type 0 where
  pub told : Result (Option ℕ) Fault
  pub calls : Calls h columns (λ t. job.Get t) of_got told k
  pub status_is : status ≡ found_status told
  pub word_is : word_after ≡ word_after_found told word
