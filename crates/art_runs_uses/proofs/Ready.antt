-- The first pass of a world may call: once that just opened, and after each call.
use Rattle.std.proofs.Common.{◌≡◌, ◌∙◌, ◌<◌, ℕ, zero, suc, List, length, sym, ap, subst, arith}
use Rattle.art_change.proofs.Newcomers.{newcomer_at, newcomer_fresh}
use Rattle.art_runs.specs.ArtChange.Calls.{IsCaller, IsFresh}
use Rattle.art_runs.specs.ArtChange.declared.callers.Caller.{Caller}
use Rattle.art_runs_uses.specs.Writes.{WritesFirst}
use Rattle.art_step.specs.WordRows.{newcomers, view_at}
use Rattle.art_step.specs.declared.views.Sizes.{Sizes}
use Rattle.art_step.specs.declared.views.View.{View}
use Rattle.art_world.specs.Contents.{Contents}
use Rattle.art_world.specs.Opening.{OpensAt}
use Rattle.art_world.specs.Stepper.{OnlyStepped, pass_of, sizes_of, view_of, world_of}
use Rattle.art_world.specs.declared.world.Stepper.{Stepper}

newcomers_some : (n : ℕ) → 0 < n → 0 < length (newcomers 0 n)
newcomers_some zero low = absurd (omega (arith, low))
newcomers_some (suc n) low = omega arith

opened_fresh : (z : Sizes) (k : ℕ) (w : Contents) → OpensAt z k w → 0 < z.passes → IsFresh z (view_at w.views 0) 0
opened_fresh z k w opens some =
    subst (λ (vs : List View). IsFresh z (view_at vs 0) 0) (sym opens.views) (subst (λ (v : View). IsFresh z v 0) (sym (newcomer_at z.passes 0)) (newcomer_fresh z 0 some))

pub opened_writes : (z : Sizes) (k : ℕ) (w : Contents) (c : Caller) → OpensAt z k w → 0 < z.passes → ((u : View) → IsFresh z u 0 → IsCaller z u c) → WritesFirst w c
opened_writes z k w c opens some new = record {
  some = subst (λ (vs : List View). 0 < length vs) (sym opens.views) (newcomers_some z.passes some);
  may = subst (λ (y : Sizes). IsCaller y (view_at w.views 0) c) (sym opens.sizes) (new (view_at w.views 0) (opened_fresh z k w opens some));
}

-- it was lent to a stepper, and called
pub writes_on : (w : Contents) (a b : Stepper) (c : Caller) → 0 < length w.views → world_of a ≡ w → pass_of a ≡ 0 → OnlyStepped a b → IsCaller (sizes_of a) (view_of b) c → WritesFirst (world_of b) c
writes_on w a b c some world first only may =
    let count = only.steps.count in
    let same = ap (λ (x : Contents). length x.views) world in
    record {
      some = omega (arith, some, count, same);
      may = subst (λ (p : ℕ). IsCaller (sizes_of b) (view_at (world_of b).views p) c) (only.pass ∙ first) (subst (λ (z : Sizes). IsCaller z (view_of b) c) (sym only.steps.sizes) may);
    }
