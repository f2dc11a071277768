use Rattle.std.proofs.Common.{◌∙◌, refl, sym, arith}
use Rattle.art_cell.specs.declared.cells.Pool.TheVariants.{Leaves as leaves}
use Rattle.art_attempt.proofs.Reserves.{begins_sought, begins_supplies, soon_first}
use Rattle.art_attempt.specs.Reserve.{few_steps, leaf_looks, leaf_steps, most_steps, search_looks, search_steps}
use Rattle.art_attempt.proofs.reserve.Reserve.new.Goals as goal

pub returns-then-not-demand-clause-fits : goal.returns-then-not-demand-clause-fits
returns-then-not-demand-clause-fits c k value u has =
    let z = c.args.demand.now.sizes in
    c.node_wanted.ensures.fits z k value u u refl (begins_supplies z k value c.args.stock.now u has) (soon_first u (leaf_steps z) (leaf_looks z)) (λ want. let no = c.if-not-demand.true in cc)

pub leaf_sought-requires : goal.leaf_sought-requires
leaf_sought-requires c = let u = c.requires.2 in (c.args.demand.now.sizes, u, u, c.from_word-taking.ensures.fits u)

pub returns-in-None-clause-fits : goal.returns-in-None-clause-fits
returns-in-None-clause-fits c k value u has =
    let z = c.args.demand.now.sizes in
    c.leaf_sought.ensures z c.args.demand.now k value u u refl c.if-not-demand.false (sym c.leaf.ensures ∙ c.in-None.is)
    (begins_sought z k value c.args.stock.now u u c.from_word-taking.result leaves (begins_supplies z k value c.args.stock.now u has) (soon_first u 0 0) (c.from_word-taking.ensures.fits u) c.from_word-taking.ensures.pool)

pub returns-then-is_written-clause-fits : goal.returns-then-is_written-clause-fits
returns-then-is_written-clause-fits c k value u has =
    let z = c.args.demand.now.sizes in
    c.node_wanted-then-is_written.ensures.fits z k value u u refl (begins_supplies z k value c.args.stock.now u has) (soon_first u (leaf_steps z) (leaf_looks z))
    (λ want. record { leaf = c.in-Some.field-0; is = sym c.leaf.ensures ∙ c.in-Some.is; written = sym c.is_written.ensures ∙ c.if-is_written.true })

pub returns-clause-fits : goal.returns-clause-fits
returns-clause-fits c k value u has =
    let z = c.args.demand.now.sizes in
    let s = c.args.stock.now in
    let is = sym c.leaf.ensures ∙ c.in-Some.is in
    let only = begins_supplies z k value s u has in
    record {
      sizes = refl;
      only = only;
      few = (soon_first u (most_steps z c.args.demand.now) (few_steps z c.args.demand.now)).steps;
      counted = (soon_first u (most_steps z c.args.demand.now) (few_steps z c.args.demand.now)).counted;
      stage = (
        c.if-not-demand.false,
        record {
          early = u;
          base = only;
          soon = soon_first u (search_steps z leaves) (search_looks z leaves);
          leaf = c.in-Some.field-0;
          is = is;
          blank = sym c.is_written.ensures ∙ c.if-is_written.false;
          packs = c.new.ensures.fits z c.in-Some.field-0 k value u (has.leaf c.in-Some.field-0 is).is;
          more = let first = c.new.ensures.place in omega arith;
        },
      );
    }
