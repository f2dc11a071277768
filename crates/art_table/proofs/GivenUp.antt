-- An attempt that is given up, or that is not.
use Rattle.std.proofs.Common.{◌≡◌, ◌≤◌, ℕ, None, refl, sym, subst, arith}
use Rattle.std.specs.Box.{with_value}
use Rattle.std.specs.Prelude.{Result, Ok, Err, IsErr}
use Rattle.art_change.specs.Calls.{HoldsOrTold, IsCalling, StaysApart, Wish}
use Rattle.art_change.specs.declared.callers.Caller.{Caller}
use Rattle.art_change.proofs.GivenUp.{free_untold}
use Rattle.art_step.specs.declared.views.Sizes.{Sizes}
use Rattle.art_step.specs.declared.views.View.{View}
use Rattle.art_table.specs.Attempts.{IsGivenUp}
use Rattle.art_table.specs.Calls.{IsUnderWay, Sees}
use Rattle.art_table.specs.Jobs.{told_by, wish_of}
use Rattle.art_table.specs.Tables.{IsPassOf, caller_of, schema_in, sizes_in, view_of}
use Rattle.art_table.specs.declared.faults.Fault.{Fault}
use Rattle.art_table.specs.declared.jobs.Job.{Job}
use Rattle.art_table.specs.declared.jobs.Outcome.{Outcome}
use Rattle.art_table.specs.declared.passes.Pass.{Pass}
use Rattle.art_table.specs.declared.tables.Table.{Table}

module _ (t : Table) (a : Pass) (old : Caller) (same : old ≡ caller_of a) (j : Job) (turns : ℕ) (p : Pass) (way : IsUnderWay t j turns turns p a) where
  abbrev calling : IsCalling (sizes_in t) (wish_of (schema_in t) j) turns turns (view_of p) old (view_of a)
  calling = subst (λ (c : Caller). IsCalling (sizes_in t) (wish_of (schema_in t) j) turns turns (view_of p) c (view_of a)) (sym same) way.calling

  -- it goes on with the turns that it has used
  pub given_way : (new : Caller) → ((z : Sizes) (w : Wish) (given turns : ℕ) (u v : View) → IsCalling z w given turns u old v → (used : ℕ) × (used ≤ turns) × IsCalling z w given used u new v)
      → (StaysApart old → StaysApart new) → (used : ℕ) × IsUnderWay t j turns used p (record { seat = a.seat; caller = with_value a.caller new })
  given_way new given apart =
      let g = given (sizes_in t) (wish_of (schema_in t) j) turns turns (view_of p) (view_of a) calling in (
        g.0,
        record {
          began = way.began;
          stands = way.stands;
          range = way.range;
          of = way.of;
          same = way.same;
          calling = g.2;
          apart = apart (subst StaysApart (sym same) way.apart);
        },
      )

  -- it cannot be given up
  pub why_not : ((z : Sizes) (w : Wish) (given turns : ℕ) (u v : View) → IsCalling z w given turns u old v → HoldsOrTold u v) → HoldsOrTold (view_of p) (view_of a)
  why_not why = why (sizes_in t) (wish_of (schema_in t) j) turns turns (view_of p) (view_of a) calling

  -- or it can, and was free
  pub was_free : ((z : Sizes) (w : Wish) (given turns : ℕ) (u v : View) → IsCalling z w given turns u old v → HoldsOrTold u v → ⊥) → HoldsOrTold (view_of p) (view_of a) → ⊥
  was_free free = free (sizes_in t) (wish_of (schema_in t) j) turns turns (view_of p) (view_of a) calling

-- a pass that makes no call is free
pub idle_free : (t : Table) (p : Pass) → IsPassOf t p → HoldsOrTold (view_of p) (view_of p) → ⊥
idle_free t p of = free_untold (view_of p) (view_of p) of.caller.ready.frame.may.free refl

-- what is refused was not told
pub refused_none : (t : Table) (j : Job) (p q : Pass) (r : Result Outcome Fault) → IsErr r → Sees t p q (told_by j r) → Sees t p q None
refused_none t j p q (Err f) refused sees = sees
refused_none t j p q (Ok o) refused sees = cc

-- a pass that made no step has told nothing
pub nothing_made : (t : Table) (turns : ℕ) (p : Pass) → IsPassOf t p → IsGivenUp t turns p p
nothing_made t turns p of = record {
  pass = of;
  same = record { number = refl; table = refl; seat = refl; basis = refl; told = refl };
  sees = (refl, refl);
  steps = omega arith;
}
