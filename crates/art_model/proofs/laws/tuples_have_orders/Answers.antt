use Rattle.art_model.proofs.Order.{same_is, tuple_total}
use Rattle.art_model.proofs.laws.tuples_have_orders.Goals as goal

pub returns : goal.returns
returns c = record { total = tuple_total; same = same_is }
