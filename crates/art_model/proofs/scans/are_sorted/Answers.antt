use Rattle.std.proofs.Common.{rules}
use Rattle.std.proofs.lemmas.Fn.{always_returns_same}
use Rattle.std.specs.Ordering.{is_lt}
use Rattle.art_model.specs.Rows.{tuple_cmp}
use Rattle.art_model.proofs.Owed.{ascends}
use Rattle.art_model.proofs.scans.are_sorted.Goals as goal

-- the closure compares two rows' tuples
pub returns : goal.returns
returns c =
    ascends c.args.order.now c.args.rows.now c.is_sorted_by.result (c.is_sorted_by.ensures.cases (λ a b. is_lt (tuple_cmp c.args.order.now a.tuple b.tuple)) (always_returns_same _ _ _ (λ a r g called. (search rules, search rules))))
