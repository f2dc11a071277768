use Rattle.std.proofs.Common.{◌≡◌, map, take}
use Rattle.art_key.proofs.schemas.Schema.order.Given as goal

abbrev pub invariant-loop-column : goal.invariant-loop-column
invariant-loop-column l = l.order.items ≡ map (λ c. c.descends) (take l.column-index l.columns)
