use Rattle.std.proofs.Common.{rules}
use Rattle.std.proofs.lemmas.Fn.{always_returns_same}
use Rattle.art_model.specs.Rows.{tuple_cmp}
use Rattle.art_model.proofs.Places.{searched}
use Rattle.art_model.proofs.sorted_rows.place.Goals as goal

-- the closure compares a row's tuple with the one that is looked for
pub returns : goal.returns
returns c =
    let facts = c.binary_search_by.ensures in
    let by_row = facts.position (λ row. tuple_cmp c.args.order.now row.tuple c.args.tuple.now) (always_returns_same _ _ _ (λ a r g called. (search rules, search rules))) in
    searched c.args.order.now c.args.rows.now c.requires c.args.tuple.now _ facts.bound by_row
