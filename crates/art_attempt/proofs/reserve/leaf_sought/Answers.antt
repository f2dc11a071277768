use Rattle.std.proofs.Common.{◌∙◌, ℕ, refl, sym, ap, subst, arith, inl}
use Rattle.art_cell.specs.Children.{number_of}
use Rattle.art_cell.specs.declared.cells.Pool.TheVariants.{Leaves as leaves}
use Rattle.art_attempt.proofs.Reserves.{leaf_few, leaf_soon, none_sought, sought_leaf, sought_none, sought_on, takes_none, takes_some}
use Rattle.art_attempt.proofs.reserve.leaf_sought.Goals as goal
use Rattle.art_attempt.specs.Reserve.{Fits}
use Rattle.art_attempt.specs.declared.reserve.Reserve.TheVariants.{LeafWriter as packed}
use Rattle.art_epoch.specs.Stocks.{with_leaf}
use Rattle.art_epoch.specs.declared.stocks.Stock.{Stock}

pub returns-in-Some : goal.returns-in-Some
returns-in-Some c z demand k value u v sizes want none sought =
    let is = sym c.next.ensures.asks ∙ c.in-Some.is in
    record {
      sizes = sizes;
      only = sought_on z k value c.args.stock.now u c.args.taking leaves v sought c.in-Some.field-0 is;
      few = (leaf_few z k value c.args.stock.now u c.args.taking leaves v sought demand refl).steps;
      counted = (leaf_few z k value c.args.stock.now u c.args.taking leaves v sought demand refl).counted;
      stage = (want, none, record { sought = sought; going = (c.in-Some.field-0, is) });
    }

pub returns-in_default : goal.returns-in_default
returns-in_default c z demand k value u v sizes want none sought =
    let ended = takes_none z sought.early v c.args.taking.pool c.args.taking.first c.number.result (sym c.spent.ensures ∙ c.in_default.is) (c.number.ensures z sought.early v sought.seeks) in
    record {
      sizes = sizes;
      only = sought_none z k value c.args.stock.now u c.args.taking leaves v sought ended;
      few = (leaf_few z k value c.args.stock.now u c.args.taking leaves v sought demand refl).steps;
      counted = (leaf_few z k value c.args.stock.now u c.args.taking leaves v sought demand refl).counted;
      stage = none_sought z k value c.args.stock.now u c.args.taking leaves v sought demand (inl (refl, want)) ended;
    }

pub returns : goal.returns
returns c z demand k value u v sizes want none sought =
    let d = c.in-Some-spent.link in
    let took = takes_some z sought.early v c.args.taking.pool c.args.taking.first c.number.result d (sym c.spent.ensures ∙ c.in-Some-spent.is) (c.number.ensures z sought.early v sought.seeks) in
    let only = sought_leaf z k value c.args.stock.now u c.args.taking leaves v sought d refl took none in
    let new = with_leaf (number_of d) c.args.stock.now in
    let fits : Fits z demand k value (packed c.new.result) new u v = record {
      sizes = sizes;
      only = only;
      few = (leaf_few z k value c.args.stock.now u c.args.taking leaves v sought demand refl).steps;
      counted = (leaf_few z k value c.args.stock.now u c.args.taking leaves v sought demand refl).counted;
      stage = (
        want,
        record {
          early = v;
          base = only;
          soon = leaf_soon z k value c.args.stock.now u c.args.taking leaves v sought refl;
          leaf = number_of d;
          is = refl;
          blank = refl;
          packs = c.new.ensures.fits z (number_of d) k value v (only.has.leaf (number_of d) refl).is;
          more = let first = c.new.ensures.place in omega arith;
        },
      );
    } in
    subst (λ (s : Stock). Fits z demand k value (packed c.new.result) s u v) (sym (c.add_leaf.ensures ∙ ap (λ (l : ℕ). with_leaf l c.args.stock.now) c.number_of.ensures)) fits
