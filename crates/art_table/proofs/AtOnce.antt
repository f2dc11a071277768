-- A call that was made at once: its pass comes back, and it ends so.
use Rattle.std.proofs.Common.{◌≡◌, ◌∙◌, ℕ, List, Option, Some, None, Result, refl, sym, ap, subst}
use Rattle.std.specs.Box.{with_value}
use Rattle.arrayvec.specs.ArrayVec.{ArrayVec}
use Rattle.art_change.specs.Calls.{HasCalled, IsCaller, Wish}
use Rattle.art_change.specs.declared.callers.Caller.{Caller}
use Rattle.art_change.specs.Outcomes.{of_look, of_seek, of_write}
use Rattle.art_change.specs.declared.outcomes.Outcome.{Outcome as CallOutcome}
use Rattle.art_change.specs.declared.outcomes.Outcome.TheVariants as outcome
use Rattle.art_change.specs.declared.writes.WriteOutcome.{WriteOutcome}
use Rattle.art_change.specs.declared.writes.WriteOutcome.TheVariants as write
use Rattle.art_key.specs.Columns.{tuple_fault}
use Rattle.art_key.specs.Spelling.{IsKeyOf, IsSpelling}
use Rattle.art_key.specs.declared.columns.Column.{Column}
use Rattle.art_look.specs.declared.looks.Seen.{Seen as KeySeen}
use Rattle.art_model.specs.Rows.{Tuple}
use Rattle.art_look.specs.declared.walks.Outcome.{Outcome as SeekOutcome}
use Rattle.art_look.specs.declared.walks.Outcome.TheVariants as seek
use Rattle.art_shared.proofs.Lent.{lent_passes_stay}
use Rattle.art_shared.specs.SamePass.{SamePass}
use Rattle.art_shared.specs.Stepper.{OnlyStepped, basis_of, pass_of, schema_of, sizes_of}
use Rattle.art_shared.specs.Stepper as stepper
use Rattle.art_shared.specs.Tables.{basis_in, view_of_pass}
use Rattle.art_shared.specs.declared.law.Basis.{Basis}
use Rattle.art_shared.specs.declared.pass.Pass.{Pass as Seat}
use Rattle.art_shared.specs.declared.stepper.Stepper.{Stepper}
use Rattle.art_step.specs.declared.views.Sizes.{Sizes}
use Rattle.art_table.proofs.Answered.{ends}
use Rattle.art_table.proofs.Begun.{spelled}
use Rattle.art_table.proofs.Ended.{has_ended}
use Rattle.art_table.specs.Calls.{Ends, HasEnded}
use Rattle.art_table.specs.Jobs.{IsRange, job_fault, key_of, result_of, wish_of}
use Rattle.art_table.specs.Tables.{IsPassOf, caller_of, schema_in, sizes_in, view_of}
use Rattle.art_table.specs.declared.faults.Fault.{Fault}
use Rattle.art_table.specs.declared.jobs.Job.{Job}
use Rattle.art_table.specs.declared.jobs.Outcome.{Outcome}
use Rattle.art_table.specs.declared.passes.Pass.{Pass}
use Rattle.art_table.specs.declared.tables.Table.{Table}

-- ---- no call says that a key overlaps where its machine does not

pub write_apart : (o : WriteOutcome) → (o ≡ write.Overlaps → ⊥) → of_write o ≡ outcome.Overlaps → ⊥
write_apart write.Overlaps apart = λ is. apart refl
write_apart write.New apart = λ is. cc
write_apart (write.Present value) apart = λ is. cc
write_apart (write.Gone value) apart = λ is. cc
write_apart write.Absent apart = λ is. cc
write_apart (write.Full pool) apart = λ is. cc
write_apart (write.Exhausted cell) apart = λ is. cc
write_apart write.Busy apart = λ is. cc
write_apart (write.Crowded blocker) apart = λ is. cc

pub get_apart : (o : SeekOutcome) → of_seek o None ≡ outcome.Overlaps → ⊥
get_apart (seek.Found value) = λ is. cc
get_apart seek.Absent = λ is. cc
get_apart seek.Seen = λ is. cc
get_apart seek.Busy = λ is. cc

pub look_apart : (seen : Option KeySeen) → of_look seen ≡ outcome.Overlaps → ⊥
look_apart (Some seen) = λ is. cc
look_apart None = λ is. cc

-- ---- a call

module _ (t : Table) (a : Pass) (s : Stepper) (old : Caller) (same : old ≡ caller_of a) (lent : pass_of s ≡ a.seat) (basis : basis_of s ≡ basis_in t.shared) (is : IsPassOf t a) where
  sizes_are : sizes_of s ≡ sizes_in t
  sizes_are = ap (λ (x : Basis). x.sizes) basis

  -- the pass may call
  pub lent_caller : IsCaller (sizes_of s) (stepper.view_of s) old
  lent_caller =
      subst (λ (x : Seat). IsCaller (sizes_of s) (view_of_pass x) old) (sym lent)
      (subst (λ (c : Caller). IsCaller (sizes_of s) (view_of a) c) (sym same)
      (subst (λ (z : Sizes). IsCaller z (view_of a) (caller_of a)) (sym sizes_are) is.caller))

  module _ (b : Stepper) (new : Caller) (only : OnlyStepped s b) where
    back : Pass
    back = record { seat = pass_of b; caller = with_value a.caller new }

    pub made_ends : (j : Job) (turns : ℕ) (wish : Wish) → wish ≡ wish_of (schema_in t) j → job_fault (schema_in t) j ≡ None → IsRange j
        → (o : CallOutcome) → (restarts : ℕ) × HasCalled (sizes_of s) wish turns turns restarts (stepper.view_of s) new o (stepper.view_of b)
        → (o ≡ outcome.Overlaps → ⊥) → (r : Result Outcome Fault) → r ≡ result_of (schema_in t) o
        → IsPassOf t (record { seat = pass_of b; caller = with_value a.caller new }) × Ends t j turns a r (record { seat = pass_of b; caller = with_value a.caller new })
    unfolding back
    made_ends j turns wish wish_is stands range o called apart r r_is =
        let as_seat = subst (λ (x : Seat). HasCalled (sizes_of s) wish turns turns called.0 (view_of_pass x) new o (stepper.view_of b)) lent called.1 in
        let as_wish = subst (λ (w : Wish). HasCalled (sizes_of s) w turns turns called.0 (view_of a) new o (stepper.view_of b)) wish_is as_seat in
        let as_sizes = subst (λ (z : Sizes). HasCalled z (wish_of (schema_in t) j) turns turns called.0 (view_of a) new o (stepper.view_of b)) sizes_are as_wish in
        let of = lent_passes_stay t.shared a.seat s b is.of lent basis only in
        let seats = subst (λ (x : Seat). SamePass x (pass_of b)) lent only.pass in
        let e = has_ended t j turns turns called.0 a back o is stands range of seats as_sizes apart in
        (e.pass, ends t j turns a r back stands (subst (λ (x : Result Outcome Fault). HasEnded t j turns turns a x back) (sym r_is) e))

-- ---- a call of one tuple

module _ (t : Table) (a : Pass) (s : Stepper) (old : Caller) (same : old ≡ caller_of a) (lent : pass_of s ≡ a.seat) (basis : basis_of s ≡ basis_in t.shared)
    (is : IsPassOf t a) (tuple : Tuple) (k : ArrayVec ℕ) (schema : List Column) (schema_is : schema ≡ schema_in t) (spelt : IsSpelling schema tuple.items k.items) where
  here : IsSpelling (schema_in t) tuple.items k.items
  here = subst (λ (x : List Column). IsSpelling x tuple.items k.items) schema_is spelt

  -- its key is one that the stepper admits
  pub key_admitted : IsKeyOf (schema_of s) k.items
  key_admitted = (tuple.items, subst (λ (x : List Column). IsSpelling x tuple.items k.items) (sym (ap (λ (x : Basis). x.schema) basis)) here)

  pub tuple_ends : (b : Stepper) (new : Caller) → OnlyStepped s b → (j : Job) (turns : ℕ) (wish : ArrayVec ℕ → Wish) → wish (key_of (schema_in t) tuple) ≡ wish_of (schema_in t) j
      → job_fault (schema_in t) j ≡ tuple_fault (schema_in t) tuple.items → IsRange j
      → (o : CallOutcome) → (restarts : ℕ) × HasCalled (sizes_of s) (wish k) turns turns restarts (stepper.view_of s) new o (stepper.view_of b)
      → (o ≡ outcome.Overlaps → ⊥) → (r : Result Outcome Fault) → r ≡ result_of (schema_in t) o
      → IsPassOf t (record { seat = pass_of b; caller = with_value a.caller new }) × Ends t j turns a r (record { seat = pass_of b; caller = with_value a.caller new })
  tuple_ends b new only j turns wish wish_is fault range o called apart r r_is =
      made_ends t a s old same lent basis is b new only j turns (wish k) (ap wish (spelled (schema_in t) tuple k here) ∙ wish_is) (fault ∙ here.stands) range o called apart r r_is
