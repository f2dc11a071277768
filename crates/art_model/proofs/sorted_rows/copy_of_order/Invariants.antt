use Rattle.std.proofs.Common.{◌≡◌, take}
use Rattle.art_model.proofs.sorted_rows.copy_of_order.Given as goal

abbrev pub invariant-loop-descends : goal.invariant-loop-descends
invariant-loop-descends l = l.copy.items ≡ take l.descends-index l.columns
