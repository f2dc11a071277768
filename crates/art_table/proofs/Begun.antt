-- A call that begins.
use Rattle.std.proofs.Common.{◌≡◌, ◌∙◌, ℕ, List, None, refl, sym, ap, subst}
use Rattle.std.specs.Box.{with_value}
use Rattle.arrayvec.specs.ArrayVec.{ArrayVec}
use Rattle.art_change.specs.Calls.{IsAdmitted, IsCaller, IsCalling, StaysApart, Wish}
use Rattle.art_change.specs.declared.callers.Caller.{Caller}
use Rattle.art_key.specs.Columns.{tuple_fault}
use Rattle.art_key.specs.Spelling.{IsKeyOf, IsSpelling}
use Rattle.art_key.specs.declared.columns.Column.{Column}
use Rattle.art_model.specs.Rows.{Tuple}
use Rattle.art_step.specs.declared.views.Sizes.{Sizes}
use Rattle.art_step.specs.declared.views.View.{View}
use Rattle.art_table.specs.Calls.{IsUnderWay}
use Rattle.art_table.specs.Jobs.{IsRange, job_fault, key_of, wish_of}
use Rattle.art_table.specs.Tables.{IsPassOf, caller_of, schema_in, sizes_in, view_of}
use Rattle.art_table.specs.declared.jobs.Job.{Job}
use Rattle.art_table.specs.declared.jobs.Job.TheVariants.{Insert, Remove, Get, Look}
use Rattle.art_table.specs.declared.passes.Pass.{Pass}
use Rattle.art_table.specs.declared.tables.Table.{Table}

-- the key of a tuple
pub spelled : (schema : List Column) (t : Tuple) (k : ArrayVec ℕ) → IsSpelling schema t.items k.items → k ≡ key_of schema t
spelled schema t k is = ap (λ (bytes : List ℕ). record { items = bytes }) is.spelled

-- its key is one of the schema
pub wish_admitted : (schema : List Column) (j : Job) → job_fault schema j ≡ None → IsAdmitted (IsKeyOf schema) (wish_of schema j)
wish_admitted schema (Insert t value) stands = (t.items, record { stands = stands; spelled = refl })
wish_admitted schema (Remove t) stands = (t.items, record { stands = stands; spelled = refl })
wish_admitted schema (Get t) stands = (t.items, record { stands = stands; spelled = refl })
wish_admitted schema (Look lo hi) stands = tt

-- a call of this job begins, as the caller begins one of its wish
pub begun : (t : Table) (p : Pass) (turns : ℕ) (j : Job) (old new : Caller) (wish : Wish) → IsPassOf t p → old ≡ caller_of p → wish ≡ wish_of (schema_in t) j → job_fault (schema_in t) j ≡ None → IsRange j
    → ((z : Sizes) (u : View) → IsCaller z u old → IsCalling z wish turns turns u new u) → StaysApart new → IsUnderWay t j turns turns p (record { seat = p.seat; caller = with_value p.caller new })
begun t p turns j old new wish is same wish_is stands range calls apart = record {
  began = is;
  stands = stands;
  range = range;
  of = is.of;
  same = record { number = refl; table = refl; seat = refl; basis = refl; told = refl };
  calling = subst (λ (w : Wish). IsCalling (sizes_in t) w turns turns (view_of p) new (view_of p)) wish_is
      (calls (sizes_in t) (view_of p) (subst (λ (c : Caller). IsCaller (sizes_in t) (view_of p) c) (sym same) is.caller));
  apart = apart;
}

-- a call of a job of one tuple, whose key was spelt, begins
module _ (t : Table) (p : Pass) (turns : ℕ) (tuple : Tuple) (k : ArrayVec ℕ) (old new : Caller)
    (is : IsPassOf t p) (same : old ≡ caller_of p) (schema : List Column) (schema_is : schema ≡ schema_in t)
    (spelt : IsSpelling schema tuple.items k.items) (apart : StaysApart new) where
  pub tuple_begins : (j : Job) (wish : ArrayVec ℕ → Wish) → wish (key_of (schema_in t) tuple) ≡ wish_of (schema_in t) j
      → job_fault (schema_in t) j ≡ tuple_fault (schema_in t) tuple.items → IsRange j
      → ((z : Sizes) (u : View) → IsCaller z u old → IsCalling z (wish k) turns turns u new u)
      → IsUnderWay t j turns turns p (record { seat = p.seat; caller = with_value p.caller new })
  tuple_begins j wish wish_is fault range begins =
      let here = subst (λ (s : List Column). IsSpelling s tuple.items k.items) schema_is spelt in
      begun t p turns j old new (wish k) is same (ap wish (spelled (schema_in t) tuple k here) ∙ wish_is)
      (fault ∙ here.stands) range begins apart
