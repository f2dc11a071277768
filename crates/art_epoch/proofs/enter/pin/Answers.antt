-- The step is that of the machine.
use Rattle.std.proofs.Common.{◌∙◌, subst, sym}
use Rattle.std.specs.Prelude.{None}
use Rattle.art_step.specs.Acting.{Answers}
use Rattle.art_step.specs.declared.views.Sizes.{Sizes}
use Rattle.art_epoch.proofs.enter.pin.Goals as goal

pub loop-action-preserved : goal.loop-action-preserved
loop-action-preserved g c =
    let s = c.args.steps.now in
    let t = c.loop-action.steps in
    let i = c.loop-action.invariant in
    let u = c.perform-answer.new.steps in
    let row = subst (λ (y : Sizes). Answers y None c.in-Some.action c.perform-answer.result (g.S.Steps.view t) (g.S.Steps.view u)) i.sizes c.perform-answer.ensures.row in
    record {
      only = g.met.S.Steps.only_then s t u i.only c.perform-answer.ensures.only;
      sizes = g.met.S.Steps.only_sizes t u c.perform-answer.ensures.only ∙ i.sizes;
      fits = c.told.ensures.fits (g.S.Steps.sizes s) (g.S.Steps.view s) (g.S.Steps.view t) (g.S.Steps.view u) c.in-Some.action i.fits (sym c.next.ensures.asks ∙ c.in-Some.is) row;
    }
