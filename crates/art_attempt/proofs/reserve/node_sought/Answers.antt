use Rattle.std.proofs.Common.{◌≡◌, ◌∙◌, ℕ, Some, refl, sym, ap, subst, inr}
use Rattle.std.proofs.lemmas.Option.{same_Some}
use Rattle.art_cell.specs.Children.{number_of}
use Rattle.art_cell.specs.declared.cells.Layout.{Layout}
use Rattle.art_epoch.proofs.Stocked.{taken_node}
use Rattle.art_epoch.specs.Stocks.{node_in, with_node}
use Rattle.art_epoch.specs.declared.stocks.Stock.{Stock}
use Rattle.art_attempt.proofs.Reserves.{leaf_words_with_node, node_few, node_there, none_sought, sought_node, sought_none, sought_on, takes_none, takes_some}
use Rattle.art_attempt.proofs.reserve.node_sought.Goals as goal
use Rattle.art_attempt.specs.Reserve.{Fits}
use Rattle.art_attempt.specs.declared.reserve.Reserved.TheVariants.{Ready, Full}
use Rattle.art_attempt.specs.declared.reserve.Reserve.TheVariants.{Ended}
use Rattle.art_step.specs.Views.{pool_of_layout}
use Rattle.art_cell.specs.declared.cells.Pool.{Pool}

pub returns-in-Some-clause-fits : goal.returns-in-Some-clause-fits
returns-in-Some-clause-fits c z demand k value u v sizes want none words sought =
    let is = sym c.next.ensures.asks ∙ c.in-Some.is in
    record {
      sizes = sizes;
      only = sought_on z k value c.args.stock.now u c.args.taking (pool_of_layout c.args.layout) v sought c.in-Some.field-0 is;
      few = (node_few z k value c.args.stock.now u c.args.taking (pool_of_layout c.args.layout) v sought demand c.args.layout want refl).steps;
      counted = (node_few z k value c.args.stock.now u c.args.taking (pool_of_layout c.args.layout) v sought demand c.args.layout want refl).counted;
      stage = (
        words,
        record {
          layout = c.args.layout;
          wanted = want;
          none = none;
          seeking = record { sought = sought; going = (c.in-Some.field-0, is) };
        },
      );
    }

pub returns-in_default-clause-fits : goal.returns-in_default-clause-fits
returns-in_default-clause-fits c z demand k value u v sizes want none words sought =
    let pool = pool_of_layout c.args.layout in
    let ended = takes_none z sought.early v c.args.taking.pool c.args.taking.first c.number.result (sym c.spent.ensures ∙ c.in_default.is) (c.number.ensures z sought.early v sought.seeks) in
    let fits : Fits z demand k value (Ended (Full pool)) c.args.stock.now u v = record {
      sizes = sizes;
      only = sought_none z k value c.args.stock.now u c.args.taking pool v sought ended;
      few = (node_few z k value c.args.stock.now u c.args.taking pool v sought demand c.args.layout want refl).steps;
      counted = (node_few z k value c.args.stock.now u c.args.taking pool v sought demand c.args.layout want refl).counted;
      stage = none_sought z k value c.args.stock.now u c.args.taking pool v sought demand (inr (c.args.layout, want, refl)) ended;
    } in
    subst (λ (q : Pool). Fits z demand k value (Ended (Full q)) c.args.stock.now u v) (sym c.pool_of_layout.ensures) fits

pub returns-clause-fits : goal.returns-clause-fits
returns-clause-fits c z demand k value u v sizes want none words sought =
    let s = c.args.stock.now in
    let layout = c.args.layout in
    let d = c.in-Some-spent.link in
    let took = takes_some z sought.early v c.args.taking.pool c.args.taking.first c.number.result d (sym c.spent.ensures ∙ c.in-Some-spent.is) (c.number.ensures z sought.early v sought.seeks) in
    let new = with_node (taken_node layout d) s in
    let fits : Fits z demand k value (Ended Ready) new u v = record {
      sizes = sizes;
      only = sought_node z k value s u c.args.taking (pool_of_layout layout) v sought layout d refl took none;
      few = (node_few z k value s u c.args.taking (pool_of_layout layout) v sought demand layout want refl).steps;
      counted = (node_few z k value s u c.args.taking (pool_of_layout layout) v sought demand layout want refl).counted;
      stage = record {
        leaf = λ leaf. leaf_words_with_node layout (number_of d) s (words leaf);
        node = λ other is. subst (λ (a : Layout). (i : ℕ) × (node_in new a ≡ Some i)) (same_Some {A = Layout} layout other (sym want ∙ is)) (number_of d, node_there layout (number_of d) s);
      };
    } in
    subst (λ (t : Stock). Fits z demand k value (Ended Ready) t u v)
    (sym (c.add_node.ensures.node ∙ ap (λ (i : ℕ). with_node (record { layout = layout; number = i }) s) c.number_of-number.ensures)) fits
