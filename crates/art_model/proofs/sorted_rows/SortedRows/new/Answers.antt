use Rattle.std.proofs.Common.{subst, sym}
use Rattle.std.specs.List.Sorted.{IsStrictlySortedBy}
use Rattle.art_model.specs.Rows.{IsSortedRows}
use Rattle.art_model.proofs.sorted_rows.SortedRows.new.Goals as goal

pub invariant_of-result : goal.invariant_of-result
unfolding IsStrictlySortedBy
invariant_of-result c = subst (IsSortedRows _) (sym c.new.ensures.items) tt
