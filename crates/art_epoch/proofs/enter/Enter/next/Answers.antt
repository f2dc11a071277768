use Rattle.std.proofs.Common.{rules}
use Rattle.art_epoch.proofs.enter.Enter.next.Goals as goal

pub returns-in-Pinning-clause-asks : goal.returns-in-Pinning-clause-asks
returns-in-Pinning-clause-asks c = search rules
