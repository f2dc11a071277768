-- The steps are those of the machine.
use Rattle.std.proofs.Common.{◌∙◌, ◌+◌, ℕ, ap, refl, sym, subst}
use Rattle.std.specs.Prelude.{None}
use Rattle.art_step.specs.Acting.{Answers, IsAllowed}
use Rattle.art_cell.specs.declared.cells.Pool.{Pool}
use Rattle.art_epoch.proofs.Searching.{few_looks}
use Rattle.art_epoch.specs.Taking.{Fits, MadeFew, Takes}
use Rattle.art_step.specs.WordPlaces.{free_words, pool_size}
use Rattle.art_step.specs.declared.views.Sizes.{Sizes}
use Rattle.art_epoch.proofs.stocks.take.Goals as goal

pub loop-action-init : goal.loop-action-init
loop-action-init g c =
    let s = c.args.steps.now in
    record {
      only = g.met.S.Steps.only_same s;
      sizes = refl;
      pool = c.new-taking.ensures.pool;
      words = refl;
      first = c.new-taking.ensures.first;
      fits = subst (λ (z : Sizes). Fits z (g.S.Steps.view s) c.new-taking.result (g.S.Steps.view s)) c.pool_sizes.ensures (c.new-taking.ensures.fits (g.S.Steps.view s));
    }

pub loop-action-preserved : goal.loop-action-preserved
loop-action-preserved g c =
    let s = c.args.steps.now in
    let t = c.loop-action.steps in
    let i = c.loop-action.invariant in
    let z = g.S.Steps.sizes s in
    let row = subst (λ (y : Sizes). Answers y None c.in-Some.action c.perform-answer.result (g.S.Steps.view t) (g.S.Steps.view c.perform-answer.new.steps)) i.sizes c.perform-answer.ensures.row in
    record {
      only = g.met.S.Steps.only_then s t c.perform-answer.new.steps i.only c.perform-answer.ensures.only;
      sizes = g.met.S.Steps.only_sizes t c.perform-answer.new.steps c.perform-answer.ensures.only ∙ i.sizes;
      pool = c.told.ensures.pool ∙ i.pool;
      words = c.told.ensures.words ∙ i.words;
      first = c.told.ensures.first ∙ i.first;
      fits = c.told.ensures.fits z (g.S.Steps.view s) (g.S.Steps.view t) (g.S.Steps.view c.perform-answer.new.steps) c.in-Some.action i.fits (sym c.next.ensures.asks ∙ c.in-Some.is) row;
    }

pub returns-clause-takes : goal.returns-clause-takes
returns-clause-takes g c =
    let s = c.args.steps.now in
    let t = c.loop-action.steps in
    let i = c.loop-action.invariant in
    let z = g.S.Steps.sizes s in
    subst (λ (n : ℕ). Takes z (g.S.Steps.view s) (g.S.Steps.view t) c.args.pool n c.number.result) i.first
    (subst (λ (p : Pool). Takes z (g.S.Steps.view s) (g.S.Steps.view t) p c.loop-action.taking.first c.number.result) i.pool (c.number.ensures z (g.S.Steps.view s) (g.S.Steps.view t) i.fits))

pub returns-clause-counted : goal.returns-clause-counted
returns-clause-counted g c =
    let s = c.args.steps.now in
    let t = c.loop-action.steps in
    let i = c.loop-action.invariant in
    let z = g.S.Steps.sizes s in
    let words = i.fits.words ∙ ap (λ (p : Pool). free_words (pool_size z p)) i.pool in
    subst (λ (n : ℕ). MadeFew (g.S.Steps.view s) (g.S.Steps.view t) (n + 1)) words
    (few_looks z (g.S.Steps.view s) c.loop-action.taking (g.S.Steps.view t) i.fits)

pub perform-answer-requires-clause-allowed : goal.perform-answer-requires-clause-allowed
perform-answer-requires-clause-allowed g c =
    let s = c.args.steps.now in
    let t = c.loop-action.steps in
    let i = c.loop-action.invariant in
    subst (λ (z : Sizes). IsAllowed z None (g.S.Steps.view t) c.in-Some.action) (sym i.sizes)
    (c.in-Some.ensures.allowed (g.S.Steps.sizes s) (g.S.Steps.view s) (g.S.Steps.view t) i.fits)
