use Rattle.std.proofs.Common.{rules}
use Rattle.art_epoch.proofs.limbo.retire.Goals as goal

pub returns-clause-retires : goal.returns-clause-retires
returns-clause-retires g c = search rules
