use Rattle.std.proofs.Common.{refl}
use Rattle.art_plan.proofs.changes.site_at.Goals as goal

pub returns-in-Node-clause-site : goal.returns-in-Node-clause-site
returns-in-Node-clause-site c = rw c.slot_at.ensures.slot (rw c.in-Node.is refl)
