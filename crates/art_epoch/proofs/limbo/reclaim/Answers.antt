-- The steps are those of the machine.
use Rattle.std.proofs.Common.{◌≡◌, ◌<◌, ◌∙◌, ℕ, ap, arith, refl, subst, sym}
use Rattle.std.specs.Prelude.{None}
use Rattle.art_step.specs.Acting.{Answers}
use Rattle.art_epoch.specs.Limbo.{places_of}
use Rattle.art_step.specs.declared.views.Sizes.{Sizes}
use Rattle.art_epoch.proofs.Reclaimed.{only_reclaims, reclaim_steps}
use Rattle.art_epoch.proofs.limbo.reclaim.Goals as goal

pub loop-action-init : goal.loop-action-init
loop-action-init g c =
    let s = c.args.steps.now in
    let z = g.S.Steps.sizes s in
    let ps = places_of c.args.limbo.now in
    let passes : c.pool_sizes.result.passes ≡ z.passes = ap (λ (y : Sizes). y.passes) c.pool_sizes.ensures in
    let inside : c.own_pass.result < c.pool_sizes.result.passes = subst (λ (n : ℕ). c.own_pass.result < n) (sym passes) c.own_pass.ensures.inside in
    let room = c.room.ensures in
    record {
      only = g.met.S.Steps.only_same s;
      sizes = refl;
      fits = c.new-reclaiming.ensures.fits z (g.S.Steps.view s) ps c.own_pass.ensures.is inside passes c.requires.idle (omega (arith, room)) c.requires.limbo;
    }

pub loop-action-preserved : goal.loop-action-preserved
loop-action-preserved g c =
    let s = c.args.steps.now in
    let t = c.loop-action.steps in
    let i = c.loop-action.invariant in
    let z = g.S.Steps.sizes s in
    let row = subst (λ (y : Sizes). Answers y None c.in-Some.action c.perform-answer.result (g.S.Steps.view t) (g.S.Steps.view c.perform-answer.new.steps)) i.sizes c.perform-answer.ensures.row in
    record {
      only = g.met.S.Steps.only_then s t c.perform-answer.new.steps i.only c.perform-answer.ensures.only;
      sizes = g.met.S.Steps.only_sizes t c.perform-answer.new.steps c.perform-answer.ensures.only ∙ i.sizes;
      fits = c.told.ensures.fits z (g.S.Steps.view s) (g.S.Steps.view t) (g.S.Steps.view c.perform-answer.new.steps) (places_of c.args.limbo.now) c.in-Some.action i.fits (sym c.next.ensures.asks ∙ c.in-Some.is) row;
    }

pub returns-clause-steps : goal.returns-clause-steps
returns-clause-steps g c =
    let s = c.args.steps.now in
    let t = c.loop-action.steps in
    let i = c.loop-action.invariant in
    let z = g.S.Steps.sizes s in
    let inside = subst (λ (n : ℕ). n < z.passes) c.own_pass.ensures.is c.own_pass.ensures.inside in
    let ended = c.freed.ensures.reclaims z (g.S.Steps.view s) (g.S.Steps.view t) (places_of c.args.limbo.now) (places_of c.loop-action.limbo) i.fits (sym c.next.ensures.asks ∙ c.in_default.is) in
    reclaim_steps z (g.S.Steps.view s) (g.S.Steps.view t) _ _ c.freed.result inside ended

pub returns-clause-same : goal.returns-clause-same
returns-clause-same g c =
    let s = c.args.steps.now in
    let t = c.loop-action.steps in
    let i = c.loop-action.invariant in
    let z = g.S.Steps.sizes s in
    let ended = c.freed.ensures.reclaims z (g.S.Steps.view s) (g.S.Steps.view t) (places_of c.args.limbo.now) (places_of c.loop-action.limbo) i.fits (sym c.next.ensures.asks ∙ c.in_default.is) in
    only_reclaims z (g.S.Steps.view s) (g.S.Steps.view t) _ _ c.freed.result ended
