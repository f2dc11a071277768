use Rattle.std.proofs.Common.{rules}
use Rattle.art_plan.proofs.changes.unlink.Goals as goal

pub returns : goal.returns
returns c = search rules
