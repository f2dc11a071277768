use Rattle.std.proofs.Common.{refl}
use Rattle.art_node4.proofs.layouts.Sorted.first_child.Goals as goal

pub returns-in-Sixteen-clause-value : goal.returns-in-Sixteen-clause-value
returns-in-Sixteen-clause-value c = rw c.in-Sixteen.is refl

pub returns-in-Sixteen-clause-after_keys : goal.returns-in-Sixteen-clause-after_keys
returns-in-Sixteen-clause-after_keys c = rw c.in-Sixteen.is refl

pub returns-in-Sixteen-clause-last : goal.returns-in-Sixteen-clause-last
returns-in-Sixteen-clause-last c = rw c.in-Sixteen.is refl
