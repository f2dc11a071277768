use Rattle.std.proofs.Common.{rules}
use Rattle.art_plan.proofs.changes.lock.Goals as goal

pub returns : goal.returns
returns c = search rules
