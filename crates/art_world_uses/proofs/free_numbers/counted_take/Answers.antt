-- The steps are those of the machine.
use Rattle.std.proofs.Common.{◌∙◌, None, refl, sym, subst}
use Rattle.art_epoch.specs.Taking.{Fits}
use Rattle.art_step.specs.Acting.{Answers, IsAllowed}
use Rattle.art_step.specs.declared.views.Sizes.{Sizes}
use Rattle.art_world_uses.proofs.free_numbers.counted_take.Goals as goal

pub loop-asked-init : goal.loop-asked-init
loop-asked-init g c =
    let s = c.args.steps.now in
    record {
      sizes = refl;
      words = refl;
      fits = subst (λ (z : Sizes). Fits z (g.S.Steps.view s) c.new-taking.result (g.S.Steps.view s)) c.pool_sizes.ensures (c.new-taking.ensures.fits (g.S.Steps.view s));
    }

pub loop-asked-preserved : goal.loop-asked-preserved
loop-asked-preserved g c =
    let s = c.args.steps.now in
    let t = c.loop-asked.steps in
    let i = c.loop-asked.invariant in
    let z = g.S.Steps.sizes s in
    let row = subst (λ (y : Sizes). Answers y None c.in-Some.asked c.perform-answer.result (g.S.Steps.view t) (g.S.Steps.view c.perform-answer.new.steps)) i.sizes c.perform-answer.ensures.row in
    record {
      sizes = g.met.S.Steps.only_sizes t c.perform-answer.new.steps c.perform-answer.ensures.only ∙ i.sizes;
      words = c.told.ensures.words ∙ i.words;
      fits = c.told.ensures.fits z (g.S.Steps.view s) (g.S.Steps.view t) (g.S.Steps.view c.perform-answer.new.steps) c.in-Some.asked i.fits (sym c.next.ensures.asks ∙ c.in-Some.is) row;
    }

pub perform-answer-requires-clause-allowed : goal.perform-answer-requires-clause-allowed
perform-answer-requires-clause-allowed g c =
    let s = c.args.steps.now in
    let t = c.loop-asked.steps in
    let i = c.loop-asked.invariant in
    subst (λ (z : Sizes). IsAllowed z None (g.S.Steps.view t) c.in-Some.asked) (sym i.sizes)
    (c.in-Some.ensures.allowed (g.S.Steps.sizes s) (g.S.Steps.view s) (g.S.Steps.view t) i.fits)
