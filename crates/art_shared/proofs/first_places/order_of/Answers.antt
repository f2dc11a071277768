use Rattle.std.proofs.Common.{refl}
use Rattle.art_shared.proofs.first_places.order_of.Goals as goal

pub returns-in-Node48-clause-first : goal.returns-in-Node48-clause-first
returns-in-Node48-clause-first c z = rw c.in-Node48.is refl
