-- A pass that was lent to the table, whose caller made steps.
use Rattle.std.proofs.Common.{◌≡◌, ℕ, sym, ap, subst}
use Rattle.std.specs.Box.{with_value}
use Rattle.art_change.specs.Calls.{HasCalled, IsCalling, StaysApart, Wish}
use Rattle.art_change.specs.declared.callers.Caller.{Caller}
use Rattle.art_change.specs.declared.outcomes.Outcome.{Outcome as CallOutcome}
use Rattle.art_change.specs.declared.outcomes.Outcome.TheVariants.{Overlaps}
use Rattle.art_shared.proofs.Lent.{lent_passes_stay}
use Rattle.art_shared.specs.SamePass.{SamePass}
use Rattle.art_shared.specs.Stepper.{OnlyStepped, basis_of, pass_of, sizes_of}
use Rattle.art_shared.specs.Stepper as stepper
use Rattle.art_shared.specs.Tables as shared
use Rattle.art_shared.specs.Tables.{basis_in, view_of_pass}
use Rattle.art_shared.specs.declared.law.Basis.{Basis}
use Rattle.art_shared.specs.declared.pass.Pass.{Pass as Seat}
use Rattle.art_shared.specs.declared.stepper.Stepper.{Stepper}
use Rattle.art_step.specs.declared.views.Sizes.{Sizes}
use Rattle.art_step.specs.declared.views.View.{View}
use Rattle.art_table.proofs.Ended.{has_ended, same_then}
use Rattle.art_table.specs.Calls.{HasEnded, IsUnderWay}
use Rattle.art_table.specs.Jobs.{result_of, wish_of}
use Rattle.art_table.specs.Tables.{caller_of, schema_in, sizes_in, view_of}
use Rattle.art_table.specs.declared.jobs.Job.{Job}
use Rattle.art_table.specs.declared.passes.Pass.{Pass}
use Rattle.art_table.specs.declared.tables.Table.{Table}

module _ (t : Table) (a : Pass) (s b : Stepper) (old new : Caller) (same : old ≡ caller_of a) (lent : pass_of s ≡ a.seat) (basis : basis_of s ≡ basis_in t.shared) (only : OnlyStepped s b) where
  sizes_are : sizes_of s ≡ sizes_in t
  sizes_are = ap (λ (x : Basis). x.sizes) basis

  -- the call goes on, as the stepper has it
  pub lent_calling : (w : Wish) (given turns : ℕ) (u : View) → IsCalling (sizes_in t) w given turns u (caller_of a) (view_of a) → IsCalling (sizes_of s) w given turns u old (stepper.view_of s)
  lent_calling w given turns u calling =
      subst (λ (x : Seat). IsCalling (sizes_of s) w given turns u old (view_of_pass x)) (sym lent)
      (subst (λ (c : Caller). IsCalling (sizes_of s) w given turns u c (view_of a)) (sym same)
      (subst (λ (z : Sizes). IsCalling z w given turns u (caller_of a) (view_of a)) (sym sizes_are) calling))

  pub lent_apart : StaysApart (caller_of a) → StaysApart old
  lent_apart apart = subst StaysApart (sym same) apart

  module _ (j : Job) (given turns : ℕ) (p : Pass) (way : IsUnderWay t j given turns p a) where
    of : shared.IsPassOf t.shared (pass_of b)
    of = lent_passes_stay t.shared a.seat s b way.of lent basis only

    seats : SamePass p.seat (pass_of b)
    seats = same_then p.seat a.seat (pass_of b) way.same (subst (λ (x : Seat). SamePass x (pass_of b)) lent only.pass)

    pub goes_on : IsCalling (sizes_of s) (wish_of (schema_in t) j) given turns (view_of p) new (stepper.view_of b) → StaysApart new
        → IsUnderWay t j given turns p (record { seat = pass_of b; caller = with_value a.caller new })
    goes_on calling apart = record {
      began = way.began;
      stands = way.stands;
      range = way.range;
      of = of;
      same = seats;
      calling = subst (λ (z : Sizes). IsCalling z (wish_of (schema_in t) j) given turns (view_of p) new (stepper.view_of b)) sizes_are calling;
      apart = apart;
    }

    pub ended : (restarts : ℕ) (o : CallOutcome) → HasCalled (sizes_of s) (wish_of (schema_in t) j) given turns restarts (view_of p) new o (stepper.view_of b)
        → (o ≡ Overlaps → ⊥) → HasEnded t j given turns p (result_of (schema_in t) o) (record { seat = pass_of b; caller = with_value a.caller new })
    ended restarts o called apart =
        has_ended t j given turns restarts p (record { seat = pass_of b; caller = with_value a.caller new }) o way.began way.stands way.range of seats
        (subst (λ (z : Sizes). HasCalled z (wish_of (schema_in t) j) given turns restarts (view_of p) new o (stepper.view_of b)) sizes_are called) apart
