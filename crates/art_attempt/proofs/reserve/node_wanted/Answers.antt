use Rattle.std.proofs.Common.{◌∙◌, sym, subst}
use Rattle.art_epoch.specs.Taking.{Fits as TakingFits}
use Rattle.art_attempt.proofs.Reserves.{begins_sought, soon_node}
use Rattle.art_attempt.proofs.reserve.node_wanted.Goals as goal
use Rattle.art_step.specs.Views.{pool_of_layout}
use Rattle.art_step.specs.declared.views.Sizes.{Sizes}

pub node_sought-requires : goal.node_sought-requires
node_sought-requires c = (c.args.demand.now.sizes, c.requires.1, c.requires.1, c.from_word-taking.ensures.fits c.requires.1)

pub returns-in-None-clause-fits : goal.returns-in-None-clause-fits
returns-in-None-clause-fits c z k value u v sizes only soon words =
    let layout = c.in-Some.layout in
    let fits = subst (λ (y : Sizes). TakingFits y v c.from_word-taking.result v) sizes (c.from_word-taking.ensures.fits v) in
    c.node_sought.ensures.fits z c.args.demand.now k value u v sizes c.in-Some.is (sym c.node.ensures ∙ c.in-None.is) words
    (begins_sought z k value c.args.stock.now u v c.from_word-taking.result (pool_of_layout layout) only (soon_node z layout u v soon) fits (c.from_word-taking.ensures.pool ∙ c.pool_of_layout-pool.ensures))
