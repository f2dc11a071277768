-- A pass of a world that just opened may call, and the first is ready, and lent to its stepper.
use Rattle.std.proofs.Common.{◌≡◌, ◌<◌, ℕ, List, sym, subst}
use Rattle.art_change.specs.Calls.{IsCaller}
use Rattle.art_change.specs.declared.callers.Caller.{Caller}
use Rattle.art_change.proofs.Newcomers.{newcomer_at, newcomer_fresh}
use Rattle.art_change.specs.Writes.{IsFresh, IsReady}
use Rattle.art_epoch.specs.declared.limbo.Place.{Place}
use Rattle.art_epoch.specs.declared.stocks.Stock.{Stock}
use Rattle.art_step.specs.WordRows.{view_at}
use Rattle.art_step.specs.declared.views.Sizes.{Sizes}
use Rattle.art_step.specs.declared.views.View.{View}
use Rattle.art_world.specs.Contents.{Contents}
use Rattle.art_world.specs.Opening.{OpensAt}
use Rattle.art_world.specs.Stepper.{pass_of, sizes_of, view_of, world_of}
use Rattle.art_world.specs.declared.world.Stepper.{Stepper}

opened_new : (z : Sizes) (k : ℕ) (w : Contents) (ps : List Place) (s : Stock) → OpensAt z k w → 0 < z.passes → ((u : View) → IsFresh z u 0 → IsReady z u 0 ps s) → IsReady z (view_at w.views 0) 0 ps s
opened_new z k w ps s opens some new =
    subst (λ (vs : List View). IsReady z (view_at vs 0) 0 ps s) (sym opens.views) (subst (λ (v : View). IsReady z v 0 ps s) (sym (newcomer_at z.passes 0)) (new _ (newcomer_fresh z 0 some)))

pub opened_ready : (z : Sizes) (k : ℕ) (w : Contents) (a : Stepper) (ps : List Place) (s : Stock) → OpensAt z k w → 0 < z.passes → world_of a ≡ w → pass_of a ≡ 0 → ((u : View) → IsFresh z u 0 → IsReady z u 0 ps s)
    → IsReady (sizes_of a) (view_of a) 0 ps s
opened_ready z k w a ps s opens some world pass new =
    subst (λ (x : Contents). IsReady x.sizes (view_at x.views (pass_of a)) 0 ps s) (sym world)
    (subst (λ (p : ℕ). IsReady w.sizes (view_at w.views p) 0 ps s) (sym pass)
    (subst (λ (y : Sizes). IsReady y (view_at w.views 0) 0 ps s) (sym opens.sizes) (opened_new z k w ps s opens some new)))

pub opened_calls : (z : Sizes) (k : ℕ) (w : Contents) (own : ℕ) (c : Caller) → OpensAt z k w → own < z.passes → ((u : View) → IsFresh z u own → IsCaller z u c) → IsCaller w.sizes (view_at w.views own) c
opened_calls z k w own c opens inside new =
    subst (λ (y : Sizes). IsCaller y (view_at w.views own) c) (sym opens.sizes)
    (subst (λ (vs : List View). IsCaller z (view_at vs own) c) (sym opens.views) (subst (λ (v : View). IsCaller z v c) (sym (newcomer_at z.passes own)) (new _ (newcomer_fresh z own inside))))
