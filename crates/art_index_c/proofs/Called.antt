-- How a call comes about with the tuple of columns, by what is held.
use Rattle.std.proofs.Common.{◌≡◌, List, Option, Some, None, Result, Ok, Err, refl, ap, sym, subst}
use Rattle.art_handle.specs.ArtTable.Calls.{Ends}
use Rattle.art_handle.specs.ArtTable.Jobs.{with_result}
use Rattle.art_handle.specs.ArtTable.declared.faults.Fault.{Fault}
use Rattle.art_handle.specs.ArtTable.declared.faults.Fault.TheVariants.{Value}
use Rattle.art_handle.specs.ArtTable.declared.jobs.Job.{Job}
use Rattle.art_handle.specs.ArtTable.declared.jobs.Outcome.{Outcome}
use Rattle.art_handle.specs.Handles.{IsOfItsTable, pass_of, table_of}
use Rattle.art_handle.specs.declared.handles.Handle.{Handle}
use Rattle.art_index_c.specs.Calls.{Calls, OnHeld, turns}
use Rattle.art_index_c.specs.Columns.{tuple_of}
use Rattle.art_index_c.specs.declared.columns.Column.{Column}
use Rattle.art_index_c.proofs.Results.{ok_or_err, same_err, same_ok}
use Rattle.art_key.specs.declared.faults.ValueFault.{ValueFault}
use Rattle.art_model.specs.Rows.{Tuple}

-- the columns are a tuple, and the call was made
pub is_called : {A : Type 0} (h k : Handle) (cs : List Column) (job : Tuple → Job) (outcome : A → Outcome) (r : Result A Fault) (t : Tuple) → tuple_of cs ≡ Ok t
    → IsOfItsTable k → table_of k ≡ table_of h → Ends (table_of h) (job t) turns (pass_of h) (with_result outcome r) (pass_of k)
    → Calls h cs job outcome r k
is_called h k cs job outcome r t are own table ends = record {
  own = own;
  table = table;
  refused = λ f e. absurd (ok_or_err (tuple_of cs) t f are e);
  called = λ u e.
      subst (λ (x : Tuple). Ends (table_of h) (job x) turns (pass_of h) (with_result outcome r) (pass_of k)) (same_ok (tuple_of cs) t u are e) ends;
}

-- the columns are no tuple, and nothing was called
pub is_refused : {A : Type 0} (h : Handle) (cs : List Column) (job : Tuple → Job) (outcome : A → Outcome) (f : ValueFault) → tuple_of cs ≡ Err f
    → IsOfItsTable h → Calls h cs job outcome (Err (Value f)) h
is_refused h cs job outcome f are own = record {
  own = own;
  table = refl;
  refused = λ g e. (ap (λ (x : ValueFault). Err (Value x)) (same_err (tuple_of cs) f g are e), refl);
  called = λ t e. absurd (ok_or_err (tuple_of cs) t f e are);
}

-- one was held, and is held again
pub is_held : (Does : Handle → Handle → Type 0) (Else : Type 0) (was now : Option Handle) (h k : Handle) → was ≡ Some h → now ≡ Some k → Does h k
    → OnHeld Does Else was now
is_held Does Else was now h k e f does =
    subst (λ (x : Option Handle). OnHeld Does Else x now) (sym e) (subst (λ (x : Option Handle). OnHeld Does Else (Some h) x) (sym f) does)

-- none was, and none is
pub is_not_held : (Does : Handle → Handle → Type 0) (Else : Type 0) (was now : Option Handle) → was ≡ None → now ≡ None → Else
    → OnHeld Does Else was now
is_not_held Does Else was now e f else' =
    subst (λ (x : Option Handle). OnHeld Does Else x now) (sym e) (subst (λ (x : Option Handle). OnHeld Does Else None x) (sym f) else')
